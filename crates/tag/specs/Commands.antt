-- Document 01, "The commands, checks in order". A command is parsed from its code and parameters alone, and here all
-- plain 17 answers fall. Then a verdict, which sees no password byte, gives the act.
use Rattle.std.specs.Prelude.{ℕ, ◌+◌, ◌-◌, ◌*◌, ◌/◌, ◌%◌, Bool, not, ◌&&◌, List, Result, Ok, Err, eqb, leb, ltb, length, drop}
use Rattle.frame.specs.Bytes.{pick, byte, number, double}
use Rattle.tag.specs.Errors.{Verdict}
use Rattle.image.specs.Image.{view, bank_of, word_at, epc_length}
use Rattle.tag.specs.Locks.{pairs, bits_of, standing, is_secured, is_wrong, kill_standing, may_read, may_write, new_pairs, refuses_lock}
use Rattle.tag.specs.declared.commands.Act.{Act}
use Rattle.tag.specs.declared.commands.Act.TheVariants.{Notify, Give, Store, Set}
use Rattle.tag.specs.declared.commands.Parsed.{Parsed}
use Rattle.tag.specs.declared.commands.Parsed.TheVariants.{Malformed, Inventory, Read, Write, Lock, Kill}
use Rattle.tag.specs.declared.errors.PlainError.{PlainError}
use Rattle.tag.specs.declared.errors.PlainError.TheVariants.{NotInventoried, NotRead, NotWritten, NotLocked, NotKilled, NoCommand}
use Rattle.tag.specs.declared.errors.Refusal.TheVariants.{Plain, Tag}
use Rattle.tag.specs.declared.errors.TagError.{TagError}
use Rattle.tag.specs.declared.errors.TagError.TheVariants.{WrongPassword, ReadOutside, ReadLocked, WriteOutside, WriteLocked, NoUserWords, Permalocked, NoKillPassword}
use Rattle.tag.specs.declared.locks.KillStanding.{KillStanding}
use Rattle.tag.specs.declared.locks.KillStanding.TheVariants.{NoneStored, Equal, Different}
use Rattle.tag.specs.declared.locks.Standing.{Standing}
use Rattle.image.specs.declared.header.View.{View}

-- 0x39: "password (4), bank (1), pointer (2), count (2)"; 0x82: "password (4), LD (3)"; 0x65: "kill password (4)"
unfoldable pub password_in : List ℕ → ℕ
password_in p = double p 0

unfoldable pub bank_in : List ℕ → ℕ
bank_in p = byte p 4

unfoldable pub pointer_in : List ℕ → ℕ
pointer_in p = number p 5

unfoldable pub count_in : List ℕ → ℕ
count_in p = number p 7

-- 0x49: "as 0x39 and then 2 x count data bytes"
unfoldable pub data_in : List ℕ → List ℕ
data_in p = drop 9 p

unfoldable pub ld_in : List ℕ → ℕ
ld_in p = byte p 4 * 65536 + number p 5

-- "bank above 3, count not 1 to 32: plain 17"
unfoldable pub aim_right : List ℕ → Bool
aim_right p = leb (bank_in p) 3 && (leb 1 (count_in p) && leb (count_in p) 32)

-- 0x22: "PL not 0: plain 17."
unfoldable pub parse_inventory : List ℕ → Parsed
parse_inventory p = pick (eqb (length p) 0) Inventory Malformed

-- 0x39: "PL not 9, bank above 3, count not 1 to 32: plain 17."
unfoldable pub parse_read : List ℕ → Parsed
parse_read p = pick (eqb (length p) 9 && aim_right p) (Read (password_in p) (bank_in p) (pointer_in p) (count_in p)) Malformed

-- 0x49: "PL below 9 or not 9 + 2 x count, bank, count: plain 17."
unfoldable pub parse_write : List ℕ → Parsed
parse_write p = pick (eqb (length p) (9 + 2 * count_in p) && aim_right p) (Write (password_in p) (bank_in p) (pointer_in p) (count_in p)) Malformed

-- 0x82: "PL not 7 or the top four bits of LD not 0: plain 17." "LD bits 19 to 10 are the mask, 9 to 0 the action."
unfoldable pub parse_lock : List ℕ → Parsed
parse_lock p = pick (eqb (length p) 7 && ltb (ld_in p) 0x100000) (Lock (password_in p) (ld_in p / 1024) (ld_in p % 1024)) Malformed

-- 0x65: "PL not 4: plain 17."
unfoldable pub parse_kill : List ℕ → Parsed
parse_kill p = pick (eqb (length p) 4) (Kill (password_in p)) Malformed

-- "Any code not listed: plain 17."
unfoldable pub parse : ℕ → List ℕ → Parsed
parse code p =
    pick (eqb code 0x22) (parse_inventory p)
    (pick (eqb code 0x39) (parse_read p)
    (pick (eqb code 0x49) (parse_write p)
    (pick (eqb code 0x82) (parse_lock p)
    (pick (eqb code 0x65) (parse_kill p)
    Malformed))))

-- "State not 0": the tag is killed or out of the field
unfoldable pub gone : View → Bool
gone v = not (eqb v.state 0)

-- "State not 0: plain e"; `verdict` is what the command's further checks come to
unfoldable pub if_present : View → PlainError → Verdict → Verdict
if_present v e verdict = pick (gone v) (Err (Plain e)) verdict

-- "State not 0: plain e. Wrong password: tag error 16."
unfoldable pub admitted : View → Standing → PlainError → Verdict → Verdict
admitted v s e verdict = if_present v e (pick (is_wrong s) (Err (Tag WrongPassword)) verdict)

-- where what is left to check refuses, it is with a tag error
unfoldable pub of_tag : Result Act TagError → Verdict
of_tag (Ok act) = Ok act
of_tag (Err e) = Err (Tag e)

-- "Pointer + count above the bank's words"
unfoldable pub outside : View → ℕ → ℕ → ℕ → Bool
outside v bank pointer count = ltb (bank_of v bank).words (pointer + count)

-- 0x22: "State not 0: plain 15."
unfoldable pub inventory_verdict : View → Verdict
inventory_verdict v = if_present v NotInventoried (Ok Notify)

-- 0x39: "State not 0: plain 09. Wrong password: tag error 16." And then: "Pointer + count above the bank's words: A3. A touched
-- password region not readable: A4. Else the tail, then the words."
unfoldable pub read_act : View → Standing → ℕ → ℕ → ℕ → Result Act TagError
read_act v s bank pointer count =
    pick (outside v bank pointer count) (Err ReadOutside)
    (pick (not (may_read v s bank pointer count)) (Err ReadLocked)
    (Ok (Give (word_at (bank_of v bank) pointer) (2 * count))))

unfoldable pub read_verdict : View → Standing → ℕ → ℕ → ℕ → Verdict
read_verdict v s bank pointer count = admitted v s NotRead (of_tag (read_act v s bank pointer count))

-- P4: "A Write that names EPC word 0"
unfoldable pub names_crc : ℕ → ℕ → Bool
names_crc bank pointer = eqb bank 1 && eqb pointer 0

-- 0x49: "Bank 1, word 1 written, new L + 2 above the EPC words: B3"; the new PC is data word 1 - pointer.
unfoldable pub length_broken : View → ℕ → ℕ → ℕ → List ℕ → Bool
length_broken v bank pointer count words =
    eqb bank 1
    && (leb pointer 1
    && (ltb 1 (pointer + count)
    && ltb v.epc.words (epc_length (number words (2 * (1 - pointer))) + 2)))

-- 0x49: "State: plain 10. Password: 16." And then: "Range: B3. A touched region not writable: B4." P4: "A Write that names EPC word 0 answers B4 just after the lock
-- check and before the length check." "Bank 1, word 1 written, new L + 2 above the EPC words: B3. Else all words are written"
unfoldable pub write_act : View → Standing → ℕ → ℕ → ℕ → List ℕ → Result Act TagError
write_act v s bank pointer count words =
    pick (outside v bank pointer count) (Err WriteOutside)
    (pick (not (may_write v s bank pointer count)) (Err WriteLocked)
    (pick (names_crc bank pointer) (Err WriteLocked)
    (pick (length_broken v bank pointer count words) (Err WriteOutside)
    (Ok (Store (word_at (bank_of v bank) pointer))))))

unfoldable pub write_verdict : View → Standing → ℕ → ℕ → ℕ → List ℕ → Verdict
write_verdict v s bank pointer count words = admitted v s NotWritten (of_tag (write_act v s bank pointer count words))

-- 0x82: "State: plain 13. Password: 16." And then: "Not secured: plain 13 (house)." "Mask touches User and User has 0 words: C3."
-- P3: "Refusal of any region comes before any store.": C4. "Else all pairs are stored"
unfoldable pub lock_act : View → Standing → ℕ → ℕ → Verdict
lock_act v s mask action =
    pick (not (is_secured s)) (Err (Plain NotLocked))
    (pick (not (eqb (pairs mask).user 0) && eqb v.user.words 0) (Err (Tag NoUserWords))
    (pick (refuses_lock (pairs mask) (pairs action) (pairs v.locks)) (Err (Tag Permalocked))
    (Ok (Set 0x82 20 2 (bits_of (new_pairs (pairs mask) (pairs action) (pairs v.locks)))))))

unfoldable pub lock_verdict : View → Standing → ℕ → ℕ → Verdict
lock_verdict v s mask action = admitted v s NotLocked (lock_act v s mask action)

-- 0x65: "State: plain 12." And then: "Stored one zero: D0. Different: plain 12. Else state becomes 1"
unfoldable pub kill_act : KillStanding → Verdict
kill_act NoneStored = Err (Tag NoKillPassword)
kill_act Different = Err (Plain NotKilled)
kill_act Equal = Ok (Set 0x65 22 1 1)

unfoldable pub kill_verdict : View → KillStanding → Verdict
kill_verdict v k = if_present v NotKilled (kill_act k)

-- what a parsed command comes to on an image; `p` are its parameters, of which only a Write's data is looked at again
unfoldable pub verdict : List ℕ → List ℕ → Parsed → Verdict
verdict image p Malformed = Err (Plain NoCommand)
verdict image p Inventory = inventory_verdict (view image)
verdict image p (Read password bank pointer count) = read_verdict (view image) (standing image password) bank pointer count
verdict image p (Write password bank pointer count) = write_verdict (view image) (standing image password) bank pointer count (data_in p)
verdict image p (Lock password mask action) = lock_verdict (view image) (standing image password) mask action
verdict image p (Kill password) = kill_verdict (view image) (kill_standing image password)

unfoldable pub act_of : List ℕ → ℕ → List ℕ → Verdict
act_of image code p = verdict image p (parse code p)
