-- The tables of the commands. For each: its act as a chain of tests on raw bytes, then row by row, each test that failed handed on to the next.
use Prim.Native.Nat.{ℕ, ◌+◌, ◌*◌, ◌/◌, ◌%◌, ◌≤◌}
use borrow.Author.Tests.{leb-true, ltb-false, ne_eqb, not-false}
use lib.Dec.{eqb, leb, ltb}
use lib.ListN.{length, drop}
use lib.Seq.{sets}
use mathlib.Core.Bool.{Bool, true, false, not, ◌&&◌}
use mathlib.Core.List.{List, [], ◌∷◌, ◌++◌}
use mathlib.Core.Path.{◌≡◌, refl, ap}
use Rattle.std.specs.Prelude.{Result, Ok, Err}
use native.Mathlib.Omega.{arith}
use Rattle.frame.proofs.Picks.{pick_true, pick_false, pick_or, pick_not, pick_both, pick_all_three}
use Rattle.frame.proofs.Tests.{and_left, not_leb}
use Rattle.frame.specs.Bytes.{pick, part, bytes_of, byte, number, double}
use Rattle.frame.specs.Frames.{frame_of, checked, check_of}
use Rattle.tag.proofs.RawLocks.{kill_pair, access_pair, epc_pair, tid_pair, user_pair, refused, top_four, some_bit, two_stored}
use Rattle.tag.proofs.RawTests.{wrong_is, secured_is, words_are, offset_is, unreadable, unwritable, short_too, names_crc_lem, broken_is}
use Rattle.tag.proofs.Rows.{plain_is, plain_row, tag_row, last_row}
use Rattle.tag.specs.Answers.{tail, answer, crc_kept, changed}
use Rattle.tag.specs.Claims as Claims
use Rattle.tag.specs.Claims.{InventoryRows, ReadRows, WriteRows, LockRows, KillRows, OtherCodes, outcome, framed, stored, written_in, offset_of, kill_stored, access_stored}
use Rattle.tag.specs.Commands.{names_crc, length_broken, password_in, bank_in, pointer_in, count_in, data_in, ld_in, aim_right, parse_inventory, parse_read, parse_write, parse_lock, parse_kill, parse, gone, if_present, admitted, of_tag, outside, inventory_verdict, read_act, read_verdict, write_act, write_verdict, lock_act, lock_verdict, kill_act, kill_verdict, verdict, act_of}
use Rattle.image.specs.Image.{bank_at, view, rssi, bank_of, word_at, epc_length, kill_password, access_password, pc_and_epc, crc_word, with_crc}
use Rattle.tag.specs.Locks.{may_read, may_write, pairs, bits_of, standing, kill_standing_of, kill_standing, new_pairs, refuses_lock}
use Rattle.tag.specs.Errors.{plain_byte, tag_byte}
use Rattle.tag.specs.declared.commands.Act.{Act}
use Rattle.tag.specs.declared.commands.Act.TheVariants.{Notify, Give, Store, Set}
use Rattle.tag.specs.declared.errors.PlainError.TheVariants.{NotInventoried, NotRead, NotWritten, NotKilled, NoCommand}
use Rattle.tag.specs.declared.errors.Refusal.TheVariants.{Plain, Tag}
use Rattle.tag.specs.declared.errors.TagError.{TagError}
use Rattle.tag.specs.declared.errors.TagError.TheVariants.{ReadOutside, ReadLocked, WriteOutside, WriteLocked, NoKillPassword}
use Rattle.tag.specs.declared.commands.Parsed.{Parsed}
use Rattle.image.specs.declared.header.View.{View}
use Rattle.tag.specs.declared.locks.Standing.{Standing}
use Rattle.tag.specs.declared.locks.KillStanding.TheVariants.{NoneStored, Equal, Different}

verdict_pick : (image p : List ℕ) (test : Bool) (x y : Parsed) → verdict image p (pick test x y) ≡ pick test (verdict image p x) (verdict image p y)
unfolding pick
verdict_pick image p true x y = refl
verdict_pick image p false x y = refl

of_tag_pick : (test : Bool) (x y : Result Act TagError) → of_tag (pick test x y) ≡ pick test (of_tag x) (of_tag y)
unfolding pick
of_tag_pick true x y = refl
of_tag_pick false x y = refl

-- ---- 0x22

inventory_acts : (image p : List ℕ)
    → act_of image 0x22 p ≡ pick (not (eqb (length p) 0)) (Err (Plain NoCommand)) (pick (not (eqb (byte image 22) 0)) (Err (Plain NotInventoried)) (Ok Notify))
unfolding act_of parse parse_inventory verdict inventory_verdict if_present gone view
inventory_acts image p = simp (pick_true, pick_false, pick_not {X = Parsed} (eqb (length p) 0), verdict_pick)

notified_is : (image p : List ℕ)
    → outcome image p (Ok Notify)
    ≡ (
      framed 0x02 0x22
          (byte image 23 ∷ (Claims.pc_and_epc image ++ part image (number image 10) 2)),
      image,
    )
unfolding outcome answer changed frame_of checked check_of bytes_of tail pc_and_epc view bank_at word_at epc_length rssi
notified_is image p = refl

pub inventory_rows : InventoryRows
unfolding plain_byte
inventory_rows image p =
    rw (inventory_acts image p) (plain_row image p _ _ _ _ refl λ length. plain_row image p _ _ _ _ refl λ state. last_row (notified_is image p))

-- ---- 0x39

read_acts : (image p : List ℕ)
    → act_of image 0x39 p
    ≡ pick (not (eqb (length p) 9)) (Err (Plain NoCommand))
    (pick (not (leb (byte p 4) 3)) (Err (Plain NoCommand))
    (pick (not (leb 1 (number p 7) && leb (number p 7) 32)) (Err (Plain NoCommand))
    (read_verdict (view image) (standing image (double p 0)) (byte p 4) (number p 5) (number p 7))))
unfolding act_of parse parse_read aim_right verdict password_in bank_in pointer_in count_in
read_acts image p = simp (pick_true, pick_false, pick_all_three, verdict_pick)

given_is : (image p : List ℕ) → byte p 4 ≤ 3
    → outcome image p (Ok (Give (word_at (bank_of (view image) (byte p 4)) (number p 5)) (2 * number p 7)))
    ≡ (framed 0x01 0x39 (Claims.tail image ++ part image (offset_of image (byte p 4) + 2 * number p 5) (2 * number p 7)), image)
unfolding outcome answer changed frame_of checked check_of bytes_of tail pc_and_epc view bank_at word_at epc_length
given_is image p known = rw (offset_is image (byte p 4) known)

read_checks : (v : View) (s : Standing) (bank pointer count : ℕ)
    → read_verdict v s bank pointer count
    ≡ admitted v s NotRead
    (pick (outside v bank pointer count) (Err (Tag ReadOutside))
    (pick (not (may_read v s bank pointer count)) (Err (Tag ReadLocked)) (Ok (Give (word_at (bank_of v bank) pointer) (2 * count)))))
unfolding read_verdict read_act of_tag
read_checks v s bank pointer count = simp of_tag_pick

pub read_rows : ReadRows
unfolding admitted if_present gone outside standing access_password view bank_at plain_byte tag_byte
read_rows image p =
    rw (read_acts image p, read_checks)
    (plain_row image p _ _ _ _ refl λ length.
    plain_row image p _ _ _ _ (not_leb (byte p 4) 3) λ bank.
    plain_row image p _ _ _ _ refl λ count.
    let known : byte p 4 ≤ 3 = ltb-false _ _ bank in
    let some : 1 ≤ number p 7 = leb-true _ _ (and_left _ _ (not-false _ count)) in
    plain_row image p _ _ _ _ refl λ state.
    tag_row image p _ _ _ _ (wrong_is _ _) λ right.
    tag_row image p _ _ _ _ (rw (words_are image (byte p 4) known)) λ inside.
    rw (unreadable image (double p 0) (byte p 4) (number p 5) (number p 7) _ _ some)
    (tag_row image p _ _ _ _ refl λ kill.
    tag_row image p _ _ _ _ refl λ access.
    last_row (given_is image p known)))

-- ---- 0x49

write_acts : (image p : List ℕ)
    → act_of image 0x49 p
    ≡ pick (ltb (length p) 9) (Err (Plain NoCommand))
    (pick (not (eqb (length p) (9 + 2 * number p 7))) (Err (Plain NoCommand))
    (pick (not (leb (byte p 4) 3)) (Err (Plain NoCommand))
    (pick (not (leb 1 (number p 7) && leb (number p 7) 32)) (Err (Plain NoCommand))
    (write_verdict (view image) (standing image (double p 0)) (byte p 4) (number p 5) (number p 7) (drop 9 p)))))
unfolding act_of parse parse_write aim_right verdict password_in bank_in pointer_in count_in data_in
write_acts image p = simp (pick_true, pick_false, pick_all_three, verdict_pick) (short_too (length p) (9 + 2 * number p 7) _ _ (omega arith))

written_is : (image p : List ℕ) → byte p 4 ≤ 3
    → outcome image p (Ok (Store (word_at (bank_of (view image) (byte p 4)) (number p 5))))
    ≡ (
      framed 0x01 0x49 (Claims.tail image ++ (0x00 ∷ [])),
      written_in image (byte p 4) (sets image (offset_of image (byte p 4) + 2 * number p 5) (drop 9 p)),
    )
unfolding outcome answer changed crc_kept with_crc crc_word frame_of checked check_of bytes_of tail pc_and_epc view bank_at word_at epc_length bank_in data_in
written_is image p known = rw (offset_is image (byte p 4) known)

write_checks : (v : View) (s : Standing) (bank pointer count : ℕ) (words : List ℕ)
    → write_verdict v s bank pointer count words
    ≡ admitted v s NotWritten
    (pick (outside v bank pointer count) (Err (Tag WriteOutside))
    (pick (not (may_write v s bank pointer count)) (Err (Tag WriteLocked))
    (pick (names_crc bank pointer) (Err (Tag WriteLocked))
    (pick (length_broken v bank pointer count words) (Err (Tag WriteOutside)) (Ok (Store (word_at (bank_of v bank) pointer)))))))
unfolding write_verdict write_act of_tag
write_checks v s bank pointer count words = simp of_tag_pick

pub write_rows : WriteRows
unfolding admitted if_present gone outside standing access_password view bank_at plain_byte tag_byte
write_rows image p =
    rw (write_acts image p, write_checks)
    (plain_row image p _ _ _ _ refl λ short.
    plain_row image p _ _ _ _ refl λ length.
    plain_row image p _ _ _ _ (not_leb (byte p 4) 3) λ bank.
    plain_row image p _ _ _ _ refl λ count.
    let known : byte p 4 ≤ 3 = ltb-false _ _ bank in
    let some : 1 ≤ number p 7 = leb-true _ _ (and_left _ _ (not-false _ count)) in
    plain_row image p _ _ _ _ refl λ state.
    tag_row image p _ _ _ _ (wrong_is _ _) λ right.
    tag_row image p _ _ _ _ (rw (words_are image (byte p 4) known)) λ inside.
    rw (unwritable image (double p 0) (byte p 4) (number p 5) (number p 7) _ _ known some)
    (tag_row image p _ _ _ _ refl λ kill.
    tag_row image p _ _ _ _ refl λ access.
    tag_row image p _ _ _ _ refl λ epc.
    tag_row image p _ _ _ _ refl λ tid.
    tag_row image p _ _ _ _ refl λ user.
    tag_row image p _ _ _ _ (names_crc_lem (byte p 4) (number p 5) (number p 7) some) λ not_crc.
    tag_row image p _ _ _ _ (broken_is image p) λ kept.
    last_row (written_is image p known)))

-- ---- 0x82

abbrev ld : List ℕ → ℕ
ld p = byte p 4 * 65536 + byte p 5 * 256 + byte p 6

ld_is : (p : List ℕ) → ld_in p ≡ ld p
unfolding ld_in number
ld_is p = omega arith

lock_acts : (image p : List ℕ)
    → act_of image 0x82 p
    ≡ pick (not (eqb (length p) 7)) (Err (Plain NoCommand))
    (pick (not (ltb (ld p) 0x100000)) (Err (Plain NoCommand))
    (lock_verdict (view image) (standing image (double p 0)) (ld p / 1024) (ld p % 1024)))
unfolding act_of parse parse_lock verdict password_in
lock_acts image p = simp (ld_is, pick_true, pick_false, pick_both, verdict_pick)

locked_is : (image p : List ℕ)
    → let new : ℕ → ℕ → ℕ = Claims.new_bit (number image 20) (ld p) in
    outcome image p (Ok (Set 0x82 20 2 (bits_of (new_pairs (pairs (ld p / 1024)) (pairs (ld p % 1024)) (pairs (number image 20))))))
    ≡ stored image 0x82 20
    ((2 * new 8 9 + new 8 8)
    ∷ (128 * new 6 7 + 64 * new 6 6 + 32 * new 4 5 + 16 * new 4 4 + 8 * new 2 3 + 4 * new 2 2 + 2 * new 0 1 + new 0 0)
    ∷ [])
unfolding outcome answer changed frame_of checked check_of bytes_of tail pc_and_epc view bank_at word_at epc_length
locked_is image p = ap (stored image 0x82 20) (two_stored (ld p) (number image 20))

pub lock_rows : LockRows
unfolding lock_verdict lock_act admitted if_present gone standing access_password view bank_at pairs refuses_lock plain_byte tag_byte
lock_rows image p =
    let l : ℕ = ld p in
    let n : ℕ = number image 20 in
    rw (lock_acts image p)
    (plain_row image p _ _ _ _ refl λ length.
    plain_row image p _ _ _ _ (top_four (ld p)) λ top.
    plain_row image p _ _ _ _ refl λ state.
    tag_row image p _ _ _ _ (wrong_is _ _) λ right.
    plain_row image p _ _ _ _ (rw (secured_is (access_stored image) (double p 0))) λ secured.
    tag_row image p _ _ _ _ (rw (some_bit _ _ _ (user_pair l n).of_mask)) λ user.
    simp pick_or
    (tag_row image p _ _ _ _ (refused (kill_pair l n)) λ kill.
    tag_row image p _ _ _ _ (refused (access_pair l n)) λ access.
    tag_row image p _ _ _ _ (refused (epc_pair l n)) λ epc.
    tag_row image p _ _ _ _ (refused (tid_pair l n)) λ tid.
    tag_row image p _ _ _ _ (refused (user_pair l n)) λ user.
    last_row (locked_is image p)))

-- ---- 0x65

kill_pick : (a b : Bool)
    → kill_act (pick a NoneStored (pick b Equal Different))
    ≡ pick a (Err (Tag NoKillPassword)) (pick (not b) (Err (Plain NotKilled)) (Ok (Set 0x65 22 1 1)))
unfolding pick kill_act
kill_pick true b = refl
kill_pick false true = refl
kill_pick false false = refl

kill_acts : (image p : List ℕ)
    → act_of image 0x65 p
    ≡ pick (not (eqb (length p) 4)) (Err (Plain NoCommand))
    (pick (not (eqb (byte image 22) 0)) (Err (Plain NotKilled))
    (pick (eqb (kill_stored image) 0) (Err (Tag NoKillPassword))
    (pick (not (eqb (double p 0) (kill_stored image))) (Err (Plain NotKilled)) (Ok (Set 0x65 22 1 1)))))
unfolding act_of parse parse_kill verdict password_in kill_verdict if_present kill_standing kill_standing_of kill_password view bank_at gone
kill_acts image p = simp (pick_true, pick_false, pick_not {X = Parsed} (eqb (length p) 4), verdict_pick, kill_pick)

killed_is : (image p : List ℕ) → outcome image p (Ok (Set 0x65 22 1 1)) ≡ stored image 0x65 22 (1 ∷ [])
unfolding outcome answer changed frame_of checked check_of bytes_of tail pc_and_epc view bank_at word_at epc_length
killed_is image p = refl

pub kill_rows : KillRows
unfolding plain_byte tag_byte
kill_rows image p =
    rw (kill_acts image p)
    (plain_row image p _ _ _ _ refl λ length.
    plain_row image p _ _ _ _ refl λ state.
    tag_row image p _ _ _ _ refl λ some.
    plain_row image p _ _ _ _ refl λ equal.
    last_row (killed_is image p))

-- ---- other codes

pub other_codes : OtherCodes
unfolding act_of parse verdict plain_byte
other_codes image p code n22 n39 n49 n82 n65 =
    simp (ne_eqb code 0x22 n22, ne_eqb code 0x39 n39, ne_eqb code 0x49 n49, ne_eqb code 0x82 n82, ne_eqb code 0x65 n65, pick_false) (plain_is image p NoCommand)
