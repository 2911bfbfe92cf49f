-- The claims page of the tag: document 01's rules on one image, once more and over raw bytes. What makes an image good, then a table for each command, in the
-- paper's order and words: the first row whose test holds gives the answer frame and the image that is left. No row cites the definition that
-- it pins: of the definitions of this crate the tables name only `good`, and `answer`, `changed` and `act_of`, which are what is claimed of. The
-- last part is about the definitions' own words for locks. Each statement is proved in proofs/Claimed.antt, for every image and all parameters.
use Rattle.std.specs.Prelude.{ℕ, ◌+◌, ◌-◌, ◌*◌, ◌/◌, ◌%◌, ◌^◌, ◌≤◌, ◌<◌, Bool, true, false, not, ◌&&◌, ◌||◌, List, [], ◌∷◌, ◌++◌, map, Err, ◌≢◌, ◌≡◌, eqb, leb, ltb, length, drop}
use Rattle.std.proofs.lemmas.List.Edits.{sets}
use Rattle.crc.specs.Crc.{tag_crc}
use Rattle.frame.specs.Bytes.{pick, first_of, byte, number, double, part}
use Rattle.frame.specs.Frames.{sum}
use Rattle.tag.specs.Answers.{answer, changed}
use Rattle.tag.specs.Commands.{act_of, gone, read_verdict, write_verdict}
use Rattle.image.specs.Image.{bank_of}
use Rattle.tag.specs.Locks.{pairs, standing_of, is_wrong, allows, may_read, may_write, refuses_pair, new_pair}
use Rattle.tag.specs.Errors.{tag_byte, Verdict}
use Rattle.tag.specs.declared.errors.Refusal.TheVariants.{Tag}
use Rattle.tag.specs.declared.errors.TagError.TheVariants.{ReadOutside, WriteOutside}
use Rattle.image.specs.declared.header.View.{View}
use Rattle.tag.specs.declared.locks.Standing.{Standing}
use Rattle.tag.specs.declared.locks.Standing.TheVariants.{Secured, Open, Wrong}

-- bit k of a number, and whether it is set
abbrev pub bit : ℕ → ℕ → ℕ
bit n k = n / 2 ^ k % 2

abbrev pub is_set : ℕ → ℕ → Bool
is_set n k = eqb (bit n k) 1

-- ---- what a command comes to: the answer frame, and the image that is left

-- `claimed of` a command: the frame that the definitions answer it with, and the image after it
unfoldable pub outcome : List ℕ → List ℕ → Verdict → List ℕ × List ℕ
outcome image p verdict = (answer image verdict, changed image p verdict)

abbrev pub comes_to : List ℕ → ℕ → List ℕ → List ℕ × List ℕ
comes_to image code p = outcome image p (act_of image code p)

-- "Bytes: BB, type, code, PL as two bytes high first, PL parameter bytes, check, 7E. Check is the sum of all bytes from type to the last
-- parameter, modulo 256."
abbrev pub framed : ℕ → ℕ → List ℕ → List ℕ
framed type code p =
    0xBB ∷ type ∷ code ∷ length p / 256 % 256 ∷ length p % 256
    ∷ (p ++ (sum (type ∷ code ∷ length p / 256 % 256 ∷ length p % 256 ∷ p) % 256 ∷ 0x7E ∷ []))

-- L, the top five bits of the PC; the PC and the L words behind it
abbrev pub length_of : List ℕ → ℕ
length_of image = number image (number image 10 + 2) / 2 ^ 11

abbrev pub pc_and_epc : List ℕ → List ℕ
pc_and_epc image = part image (number image 10 + 2) (2 + 2 * length_of image)

-- "'Tail' below is: one byte 2 + 2L, the PC, the EPC, as they stood before the command."
abbrev pub tail : List ℕ → List ℕ
tail image = (2 + 2 * length_of image) ∷ pc_and_epc image

-- "A plain error frame has code FF and one byte; a tag error frame has code FF, the byte and the tail." Under both the image stays.
abbrev pub plain : List ℕ → ℕ → List ℕ × List ℕ
plain image e = (framed 0x01 0xFF (e ∷ []), image)

abbrev pub tag_error : List ℕ → ℕ → List ℕ × List ℕ
tag_error image e = (framed 0x01 0xFF (e ∷ tail image), image)

-- "tail, 00" under the command's code; these bytes are stored at this place, and nothing else is
abbrev pub stored : List ℕ → ℕ → ℕ → List ℕ → List ℕ × List ℕ
stored image code at bytes = (framed 0x01 code (tail image ++ (0x00 ∷ [])), sets image at bytes)

-- ---- the words that the tests below are put in

-- "22 | 0 present, 1 killed, 2 out of the field": "State not 0"
abbrev pub is_gone : List ℕ → Bool
is_gone image = not (eqb (byte image 22) 0)

-- "Bank numbers: 0 Reserved, 1 EPC, 2 TID, 3 User.": words at 4, 8, 12 and 16, offset at 6, 10, 14 and 18
abbrev pub words_of : List ℕ → ℕ → ℕ
words_of image bank = number image (4 + 4 * bank)

abbrev pub offset_of : List ℕ → ℕ → ℕ
offset_of image bank = number image (6 + 4 * bank)

-- "Reserved words 0-1 are the kill password, 2-3 the access password."
abbrev pub kill_stored : List ℕ → ℕ
kill_stored image = double image (number image 6)

abbrev pub access_stored : List ℕ → ℕ
access_stored image = double image (number image 6 + 4)

-- "A nonzero password that differs is wrong, also where the stored one is zero."
abbrev pub wrong : ℕ → ℕ → Bool
wrong stored given = not (eqb given 0) && not (eqb given stored)

-- "A tag is secured for one command if its stored access password is zero and the command's is zero, or the command's is nonzero and
-- equal."
abbrev pub secured : ℕ → ℕ → Bool
secured stored given = (eqb stored 0 && eqb given 0) || (not (eqb given 0) && eqb given stored)

-- "The high bit of a pair is the password bit, the low bit the permalock bit". The table: "00, 01" free, "10" only when secured, "11"
-- neither, "no write".
abbrev pub refuses : ℕ → ℕ → ℕ → Bool → Bool
refuses locks high low is_secured = is_set locks high && (is_set locks low || not is_secured)

-- a word is one of the `count` from `pointer` on
abbrev pub among : ℕ → ℕ → ℕ → Bool
among pointer count word = leb pointer word && ltb word (pointer + count)

-- ---- "The commands, checks in order"; `p` are a command's parameters

-- "Any code not listed: plain 17."
abbrev pub OtherCodes : Type 0
OtherCodes =
    (image p : List ℕ) (code : ℕ)
    → code ≢ 0x22
    → code ≢ 0x39
    → code ≢ 0x49
    → code ≢ 0x82
    → code ≢ 0x65
    → comes_to image code p ≡ plain image 0x17

-- 0x22
abbrev pub InventoryRows : Type 0
InventoryRows =
    (image p : List ℕ)
    → comes_to image 0x22 p
    ≡ first_of
    -- "PL not 0: plain 17. State not 0: plain 15."
    ((not (eqb (length p) 0), plain image 0x17)
    ∷ (is_gone image, plain image 0x15)
    ∷ [])
    -- "Else type 02, code 22: RSSI, PC, EPC, CRC-16 of PC and EPC (.. high byte first)." P4: "inventory sends the stored word", which is EPC word 0
    (framed 0x02 0x22 (byte image 23 ∷ (pc_and_epc image ++ part image (number image 10) 2)), image)

-- 0x39: "password (4), bank (1), pointer (2), count (2)."
abbrev pub ReadRows : Type 0
ReadRows =
    (image p : List ℕ)
    → let given : ℕ = double p 0 in
    let bank : ℕ = byte p 4 in
    let pointer : ℕ = number p 5 in
    let count : ℕ = number p 7 in
    let locks : ℕ = number image 20 in
    let is_secured : Bool = secured (access_stored image) given in
    comes_to image 0x39 p
    ≡ first_of
    -- "PL not 9, bank above 3, count not 1 to 32: plain 17."
    ((not (eqb (length p) 9), plain image 0x17)
    ∷ (ltb 3 bank, plain image 0x17)
    ∷ (not (leb 1 count && leb count 32), plain image 0x17)
    -- "State not 0: plain 09. Wrong password: tag error 16. Pointer + count above the bank's words: A3."
    ∷ (is_gone image, plain image 0x09)
    ∷ (wrong (access_stored image) given, tag_error image 0x16)
    ∷ (ltb (words_of image bank) (pointer + count), tag_error image 0xA3)
    -- "A touched password region not readable: A4.": kill 9,8, access 7,6; "EPC, TID and User can always be read."
    ∷ (eqb bank 0 && (among pointer count 0 || among pointer count 1) && refuses locks 9 8 is_secured, tag_error image 0xA4)
    ∷ (eqb bank 0 && (among pointer count 2 || among pointer count 3) && refuses locks 7 6 is_secured, tag_error image 0xA4)
    ∷ [])
    -- "Else the tail, then the words."
    (framed 0x01 0x39 (tail image ++ part image (offset_of image bank + 2 * pointer) (2 * count)), image)

-- P4: "the named words, and EPC word 0 kept by this rule": `new` has the words already; where they are of the EPC bank, the CRC-16 of its PC and its L words is
-- stored in EPC word 0
abbrev pub written_in : List ℕ → ℕ → List ℕ → List ℕ
written_in image bank new =
    pick (eqb bank 1) (sets new (number image 10) (tag_crc (pc_and_epc new) / 256 % 256 ∷ tag_crc (pc_and_epc new) % 256 ∷ [])) new

-- 0x49: "as 0x39 and then 2 x count data bytes."
abbrev pub WriteRows : Type 0
WriteRows =
    (image p : List ℕ)
    → let given : ℕ = double p 0 in
    let bank : ℕ = byte p 4 in
    let pointer : ℕ = number p 5 in
    let count : ℕ = number p 7 in
    let locks : ℕ = number image 20 in
    let is_secured : Bool = secured (access_stored image) given in
    comes_to image 0x49 p
    ≡ first_of
    -- "PL below 9 or not 9 + 2 x count, bank, count: plain 17."
    ((ltb (length p) 9, plain image 0x17)
    ∷ (not (eqb (length p) (9 + 2 * count)), plain image 0x17)
    ∷ (ltb 3 bank, plain image 0x17)
    ∷ (not (leb 1 count && leb count 32), plain image 0x17)
    -- "State: plain 10. Password: 16. Range: B3."
    ∷ (is_gone image, plain image 0x10)
    ∷ (wrong (access_stored image) given, tag_error image 0x16)
    ∷ (ltb (words_of image bank) (pointer + count), tag_error image 0xB3)
    -- "A touched region not writable: B4.": kill 9,8, access 7,6, EPC 5,4, TID 3,2, User 1,0
    ∷ (eqb bank 0 && (among pointer count 0 || among pointer count 1) && refuses locks 9 8 is_secured, tag_error image 0xB4)
    ∷ (eqb bank 0 && (among pointer count 2 || among pointer count 3) && refuses locks 7 6 is_secured, tag_error image 0xB4)
    ∷ (eqb bank 1 && refuses locks 5 4 is_secured, tag_error image 0xB4)
    ∷ (eqb bank 2 && refuses locks 3 2 is_secured, tag_error image 0xB4)
    ∷ (eqb bank 3 && refuses locks 1 0 is_secured, tag_error image 0xB4)
    -- P4: "A Write that names EPC word 0 answers B4 just after the lock check and before the length check."
    ∷ (eqb bank 1 && among pointer count 0, tag_error image 0xB4)
    -- "Bank 1, word 1 written, new L + 2 above the EPC words: B3.": the new PC is word 1 - pointer of the data, which begin at byte 9
    ∷ (eqb bank 1 && among pointer count 1 && ltb (words_of image 1) (number p (9 + 2 * (1 - pointer)) / 2 ^ 11 + 2), tag_error image 0xB3)
    ∷ [])
    -- "Else all words are written; tail, 00."
    (framed 0x01 0x49 (tail image ++ (0x00 ∷ [])), written_in image bank (sets image (offset_of image bank + 2 * pointer) (drop 9 p)))

-- "LD bits 19 to 10 are the mask, 9 to 0 the action." P3: "For each region whose permalock bit is already 1": that is lock bit `low`, and `high` its
-- password bit
abbrev pub refuses_region : ℕ → ℕ → ℕ → ℕ → Bool
refuses_region locks ld high low =
    is_set locks low
    -- "a masked permalock bit with action 0 refuses the whole command with C4"
    && ((is_set ld (10 + low) && not (is_set ld low))
    -- "if only the password bit is masked, a differing action refuses with C4 and an equal one changes nothing"
    || (not (is_set ld (10 + low)) && (is_set ld (10 + high) && not (eqb (bit ld high) (bit locks high)))))

-- Lock bit k, of the region whose permalock bit is `low`. That bit 1: "a masked one with action 1 makes this region's field ignored", and what else is not
-- refused changes nothing. That bit 0: "A new pair takes masked bits from the action, others from the old pair."
abbrev pub new_bit : ℕ → ℕ → ℕ → ℕ → ℕ
new_bit locks ld low k = pick (is_set locks low) (bit locks k) (pick (is_set ld (10 + k)) (bit ld k) (bit locks k))

-- 0x82: "password (4), LD (3)."
abbrev pub LockRows : Type 0
LockRows =
    (image p : List ℕ)
    → let given : ℕ = double p 0 in
    let ld : ℕ = byte p 4 * 65536 + byte p 5 * 256 + byte p 6 in
    let locks : ℕ = number image 20 in
    let new : ℕ → ℕ → ℕ = new_bit locks ld in
    comes_to image 0x82 p
    ≡ first_of
    -- "PL not 7 or the top four bits of LD not 0: plain 17."
    ((not (eqb (length p) 7), plain image 0x17)
    ∷ (not (eqb (ld / 2 ^ 20) 0), plain image 0x17)
    -- "State: plain 13. Password: 16. Not secured: plain 13 (house)."
    ∷ (is_gone image, plain image 0x13)
    ∷ (wrong (access_stored image) given, tag_error image 0x16)
    ∷ (not (secured (access_stored image) given), plain image 0x13)
    -- "Mask touches User and User has 0 words: C3."
    ∷ ((is_set ld 11 || is_set ld 10) && eqb (words_of image 3) 0, tag_error image 0xC3)
    -- "refuses the whole command with C4": kill, access, EPC, TID, User. "Refusal of any region comes before any store."
    ∷ (refuses_region locks ld 9 8, tag_error image 0xC4)
    ∷ (refuses_region locks ld 7 6, tag_error image 0xC4)
    ∷ (refuses_region locks ld 5 4, tag_error image 0xC4)
    ∷ (refuses_region locks ld 3 2, tag_error image 0xC4)
    ∷ (refuses_region locks ld 1 0, tag_error image 0xC4)
    ∷ [])
    -- "Else all pairs are stored; tail, 00."
    (stored image 0x82 20
    ((2 * new 8 9 + new 8 8)
    ∷ (128 * new 6 7 + 64 * new 6 6 + 32 * new 4 5 + 16 * new 4 4 + 8 * new 2 3 + 4 * new 2 2 + 2 * new 0 1 + new 0 0)
    ∷ []))

-- 0x65: "kill password (4)."
abbrev pub KillRows : Type 0
KillRows =
    (image p : List ℕ)
    → comes_to image 0x65 p
    ≡ first_of
    -- "PL not 4: plain 17. State: plain 12. Stored one zero: D0. Different: plain 12."
    ((not (eqb (length p) 4), plain image 0x17)
    ∷ (is_gone image, plain image 0x12)
    ∷ (eqb (kill_stored image) 0, tag_error image 0xD0)
    ∷ (not (eqb (double p 0) (kill_stored image)), plain image 0x12)
    ∷ [])
    -- "Else state becomes 1; tail, 00."
    (stored image 0x65 22 (1 ∷ []))

-- ---- "Lock bits", in the words of the definitions

-- "Pairs, from bit 9 down: kill 9,8; access 7,6; EPC 5,4; TID 3,2; User 1,0."
abbrev pub PairBits : Type 0
PairBits =
    (n : ℕ)
    → pairs n
    ≡ record {
      kill = 2 * bit n 9 + bit n 8;
      access = 2 * bit n 7 + bit n 6;
      epc = 2 * bit n 5 + bit n 4;
      tid = 2 * bit n 3 + bit n 2;
      user = 2 * bit n 1 + bit n 0;
    }

-- The lock table: "00, 01" free; "10 .. only when secured"; "11 .. neither", "no write".
pub record LockTable : Type 0 where
  pub free_00 : (s : Standing) → allows 0b00 s ≡ true
  pub free_01 : (s : Standing) → allows 0b01 s ≡ true
  pub secured_10 : allows 0b10 Secured ≡ true
  pub open_10 : allows 0b10 Open ≡ false
  pub wrong_10 : allows 0b10 Wrong ≡ false
  pub never_11 : (s : Standing) → allows 0b11 s ≡ false

abbrev pub password_rule : View → Standing → ℕ → ℕ → Bool
password_rule v s pointer n =
    (not (ltb pointer 2) || allows (pairs v.locks).kill s) && (not (ltb 2 (pointer + n)) || allows (pairs v.locks).access s)

-- Which pair rules which region: Reserved words 0-1 are the kill password's, 2-3 the access password's, to read and to write; EPC, TID
-- and User have a pair for writing and "can always be read".
pub record Regions (v : View) (s : Standing) (pointer n : ℕ) : Type 0 where
  pub passwords_read : 1 ≤ n → pointer + n ≤ 4 → may_read v s 0 pointer n ≡ password_rule v s pointer n
  pub passwords_write : 1 ≤ n → pointer + n ≤ 4 → may_write v s 0 pointer n ≡ password_rule v s pointer n
  pub epc_read : may_read v s 1 pointer n ≡ true
  pub tid_read : may_read v s 2 pointer n ≡ true
  pub user_read : may_read v s 3 pointer n ≡ true
  pub epc_write : may_write v s 1 pointer n ≡ allows (pairs v.locks).epc s
  pub tid_write : may_write v s 2 pointer n ≡ allows (pairs v.locks).tid s
  pub user_write : may_write v s 3 pointer n ≡ allows (pairs v.locks).user s

-- "Testing the lock before the range" is an error: whatever the locks, words that the bank does not have answer A3 and B3.
pub record RangeBeforeLock (v : View) (s : Standing) (bank pointer n : ℕ) (words : List ℕ) : Type 0 where
  pub read : gone v ≡ false → is_wrong s ≡ false → (bank_of v bank).words < pointer + n → read_verdict v s bank pointer n ≡ Err (Tag ReadOutside)
  pub read_byte : tag_byte ReadOutside ≡ 0xA3
  pub write : gone v ≡ false → is_wrong s ≡ false → (bank_of v bank).words < pointer + n → write_verdict v s bank pointer n words ≡ Err (Tag WriteOutside)
  pub write_byte : tag_byte WriteOutside ≡ 0xB3

-- "A tag is secured for one command if its stored access password is zero and the command's is zero, or the command's is nonzero and
-- equal. A nonzero password that differs is wrong, also where the stored one is zero. A zero password against a nonzero stored one
-- leaves the tag open."
pub record Standings (stored given : ℕ) : Type 0 where
  pub both_zero : standing_of 0 0 ≡ Secured
  pub equal : given ≢ 0 → standing_of given given ≡ Secured
  pub differs : given ≢ 0 → given ≢ stored → standing_of stored given ≡ Wrong
  pub zero_given : stored ≢ 0 → standing_of stored 0 ≡ Open

-- What a Lock makes of one pair: the new pair, or 9 for a refusal
abbrev pub pair_after : ℕ → ℕ → ℕ → ℕ
pair_after old mask action = pick (refuses_pair mask action old) 9 (new_pair mask action old)

-- All 64 of them. Row n has old pair n / 4 and mask n % 4, and in it the actions 00, 01, 10, 11 follow one another.
abbrev pub PairTable : Type 0
PairTable =
    map (λ n. map (pair_after (n / 4) (n % 4)) (0 ∷ 1 ∷ 2 ∷ 3 ∷ [])) (0 ∷ 1 ∷ 2 ∷ 3 ∷ 4 ∷ 5 ∷ 6 ∷ 7 ∷ 8 ∷ 9 ∷ 10 ∷ 11 ∷ 12 ∷ 13 ∷ 14 ∷ 15 ∷ [])
    ≡
    -- old pair 00: "masked bits from the action, others from the old pair"
    ((0 ∷ 0 ∷ 0 ∷ 0 ∷ [])
    ∷ (0 ∷ 1 ∷ 0 ∷ 1 ∷ [])
    ∷ (0 ∷ 0 ∷ 2 ∷ 2 ∷ [])
    ∷ (0 ∷ 1 ∷ 2 ∷ 3 ∷ [])
    -- old pair 01, P3: nothing masked; "a masked permalock bit"; "only the password bit"; both
    ∷ (1 ∷ 1 ∷ 1 ∷ 1 ∷ [])
    ∷ (9 ∷ 1 ∷ 9 ∷ 1 ∷ [])
    ∷ (1 ∷ 1 ∷ 9 ∷ 9 ∷ [])
    ∷ (9 ∷ 1 ∷ 9 ∷ 1 ∷ [])
    -- old pair 10, as 00
    ∷ (2 ∷ 2 ∷ 2 ∷ 2 ∷ [])
    ∷ (2 ∷ 3 ∷ 2 ∷ 3 ∷ [])
    ∷ (0 ∷ 0 ∷ 2 ∷ 2 ∷ [])
    ∷ (0 ∷ 1 ∷ 2 ∷ 3 ∷ [])
    -- old pair 11, as 01
    ∷ (3 ∷ 3 ∷ 3 ∷ 3 ∷ [])
    ∷ (9 ∷ 3 ∷ 9 ∷ 3 ∷ [])
    ∷ (9 ∷ 9 ∷ 3 ∷ 3 ∷ [])
    ∷ (9 ∷ 3 ∷ 9 ∷ 3 ∷ [])
    ∷ [])
