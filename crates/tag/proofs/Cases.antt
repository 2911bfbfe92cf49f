-- Every verdict on a command, by cases: a property that all refusals have, and each act under what its checks say, is one of `act_of`.
use Prim.Native.Nat.{ℕ, ◌+◌, ◌*◌, ◌/◌, ◌%◌, ◌≤◌}
use borrow.Author.Tests.{eqb-true, leb-true, ltb-false, not-false}
use lib.Dec.{eqb, leb, ltb}
use lib.ListN.{length}
use mathlib.Core.Bool.{true, false, not, ◌&&◌}
use mathlib.Core.List.{List}
use mathlib.Core.Path.{◌≡◌, refl}
use Rattle.std.specs.Prelude.{Ok, Err}
use Rattle.frame.proofs.Picks.{by_test}
use Rattle.frame.proofs.Tests.{and_left, and_right}
use Rattle.tag.specs.Commands.{password_in, bank_in, pointer_in, count_in, data_in, ld_in, aim_right, parse_inventory, parse_read, parse_write, parse_lock, parse_kill, parse, gone, if_present, admitted, of_tag, outside, inventory_verdict, read_act, read_verdict, names_crc, length_broken, write_act, write_verdict, lock_act, lock_verdict, kill_act, kill_verdict, verdict, act_of}
use Rattle.image.specs.Image.{view, bank_of, word_at}
use Rattle.tag.specs.Locks.{pairs, bits_of, standing, is_secured, is_wrong, kill_standing, may_read, may_write, new_pairs, refuses_lock}
use Rattle.tag.specs.Errors.{Verdict}
use Rattle.tag.specs.declared.commands.Act.TheVariants.{Notify, Give, Store, Set}
use Rattle.tag.specs.declared.errors.PlainError.{PlainError}
use Rattle.tag.specs.declared.errors.PlainError.TheVariants.{NotInventoried, NotRead, NotWritten, NotLocked, NotKilled, NoCommand}
use Rattle.tag.specs.declared.errors.Refusal.TheVariants.{Plain, Tag}
use Rattle.tag.specs.declared.errors.TagError.{TagError}
use Rattle.tag.specs.declared.errors.TagError.TheVariants.{WrongPassword, ReadOutside, ReadLocked, WriteOutside, WriteLocked, NoUserWords, Permalocked, NoKillPassword}
use Rattle.tag.specs.declared.commands.Parsed.{Parsed}
use Rattle.tag.specs.declared.commands.Parsed.TheVariants.{Malformed, Inventory, Read, Write, Lock, Kill}
use Rattle.image.specs.declared.header.View.{View}
use Rattle.tag.specs.declared.locks.KillStanding.{KillStanding}
use Rattle.tag.specs.declared.locks.KillStanding.TheVariants.{NoneStored, Equal, Different}
use Rattle.tag.specs.declared.locks.Standing.{Standing}

-- the fields of a Read or a Write name words that the bank has
pub record Aimed (v : View) (bank pointer count : ℕ) : Type 0 where
  pub bank_known : bank ≤ 3
  pub count_least : 1 ≤ count
  pub count_most : count ≤ 32
  pub inside : pointer + count ≤ (bank_of v bank).words

-- where the named words start, and the lock bits that a Lock asks for
abbrev pub place_of : List ℕ → List ℕ → ℕ
place_of image p = word_at (bank_of (view image) (bank_in p)) (pointer_in p)

abbrev pub new_bits : List ℕ → List ℕ → ℕ
new_bits image p = bits_of (new_pairs (pairs (ld_in p / 1024)) (pairs (ld_in p % 1024)) (pairs (view image).locks))

-- what the checks have shown of a Read that hands out words, and of a Write, a Lock and a Kill that store
pub record Reads (image p : List ℕ) : Type 0 where
  pub fields : length p ≡ 9
  pub aim : Aimed (view image) (bank_in p) (pointer_in p) (count_in p)
  pub may : may_read (view image) (standing image (password_in p)) (bank_in p) (pointer_in p) (count_in p) ≡ true

pub record Writes (image p : List ℕ) : Type 0 where
  pub fields : length p ≡ 9 + 2 * count_in p
  pub aim : Aimed (view image) (bank_in p) (pointer_in p) (count_in p)
  pub may : may_write (view image) (standing image (password_in p)) (bank_in p) (pointer_in p) (count_in p) ≡ true
  pub not_crc : names_crc (bank_in p) (pointer_in p) ≡ false
  pub kept : length_broken (view image) (bank_in p) (pointer_in p) (count_in p) (data_in p) ≡ false

pub record Kills (image p : List ℕ) : Type 0 where
  pub fields : length p ≡ 4
  pub equal : kill_standing image (password_in p) ≡ Equal

pub record Locks (image p : List ℕ) : Type 0 where
  pub fields : length p ≡ 7
  pub secured : is_secured (standing image (password_in p)) ≡ true

aimed : (v : View) (p : List ℕ) → aim_right p ≡ true → outside v (bank_in p) (pointer_in p) (count_in p) ≡ false
    → Aimed v (bank_in p) (pointer_in p) (count_in p)
unfolding aim_right outside
aimed v p aim inside =
    let counts : (leb 1 (count_in p) && leb (count_in p) 32) ≡ true =
    and_right (leb (bank_in p) 3) (leb 1 (count_in p) && leb (count_in p) 32) aim
    in
    record {
      bank_known = leb-true _ _ (and_left (leb (bank_in p) 3) (leb 1 (count_in p) && leb (count_in p) 32) aim);
      count_least = leb-true _ _ (and_left (leb 1 (count_in p)) (leb (count_in p) 32) counts);
      count_most = leb-true _ _ (and_right (leb 1 (count_in p)) (leb (count_in p) 32) counts);
      inside = ltb-false _ _ inside;
    }

-- every parsed command, by cases
module _ (Q : Parsed → Type 0) (p : List ℕ) (malformed : Q Malformed) where
  pub parse_cases : (code : ℕ)
      → (code ≡ 0x22 → Q Inventory)
      → (code ≡ 0x39 → length p ≡ 9 → aim_right p ≡ true → Q (Read (password_in p) (bank_in p) (pointer_in p) (count_in p)))
      → (code ≡ 0x49 → length p ≡ 9 + 2 * count_in p → aim_right p ≡ true → Q (Write (password_in p) (bank_in p) (pointer_in p) (count_in p)))
      → (code ≡ 0x82 → length p ≡ 7 → Q (Lock (password_in p) (ld_in p / 1024) (ld_in p % 1024)))
      → (code ≡ 0x65 → length p ≡ 4 → Q (Kill (password_in p)))
      → Q (parse code p)
  unfolding parse parse_inventory parse_read parse_write parse_lock parse_kill
  parse_cases code inventory reads writes locks kills =
      by_test Q (eqb code 0x22) (λ h. by_test Q (eqb (length p) 0) (λ n. inventory (eqb-true _ _ h)) (λ n. malformed)) λ h.
      by_test Q (eqb code 0x39)
      (λ h.
      by_test Q (eqb (length p) 9 && aim_right p)
      (λ n. reads (eqb-true _ _ h) (eqb-true _ _ (and_left (eqb (length p) 9) (aim_right p) n)) (and_right (eqb (length p) 9) (aim_right p) n))
      (λ n. malformed))
      λ h.
      by_test Q (eqb code 0x49)
      (λ h.
      by_test Q (eqb (length p) (9 + 2 * count_in p) && aim_right p)
      (λ n.
      writes (eqb-true _ _ h) (eqb-true _ _ (and_left (eqb (length p) (9 + 2 * count_in p)) (aim_right p) n))
      (and_right (eqb (length p) (9 + 2 * count_in p)) (aim_right p) n))
      (λ n. malformed))
      λ h.
      by_test Q (eqb code 0x82)
      (λ h.
      by_test Q (eqb (length p) 7 && ltb (ld_in p) 0x100000)
      (λ n. locks (eqb-true _ _ h) (eqb-true _ _ (and_left (eqb (length p) 7) (ltb (ld_in p) 0x100000) n)))
      (λ n. malformed))
      λ h.
      by_test Q (eqb code 0x65) (λ h. by_test Q (eqb (length p) 4) (λ n. kills (eqb-true _ _ h) (eqb-true _ _ n)) (λ n. malformed)) λ h.
      malformed

-- a property that every refusal has, and each act under what its checks say, is one of the verdict
module _ (P : Verdict → Type 0) (plain : (e : PlainError) → P (Err (Plain e))) (tagged : (e : TagError) → P (Err (Tag e))) where
  present_cases : (v : View) (e : PlainError) (verdict : Verdict) → P verdict → P (if_present v e verdict)
  unfolding if_present
  present_cases v e verdict own = by_test P (gone v) (λ h. plain e) (λ h. own)

  admitted_cases : (v : View) (s : Standing) (e : PlainError) (verdict : Verdict) → P verdict → P (admitted v s e verdict)
  unfolding admitted
  admitted_cases v s e verdict own = present_cases v e _ (by_test P (is_wrong s) (λ h. tagged WrongPassword) (λ h. own))

  read_cases : (v : View) (s : Standing) (bank pointer count : ℕ)
      → (outside v bank pointer count ≡ false → may_read v s bank pointer count ≡ true → P (Ok (Give (word_at (bank_of v bank) pointer) (2 * count))))
      → P (of_tag (read_act v s bank pointer count))
  unfolding read_act of_tag
  read_cases v s bank pointer count give =
      by_test (λ r. P (of_tag r)) (outside v bank pointer count) (λ h. tagged ReadOutside) λ inside.
      by_test (λ r. P (of_tag r)) (not (may_read v s bank pointer count)) (λ h. tagged ReadLocked) λ may.
      give inside (not-false _ may)

  write_cases : (v : View) (s : Standing) (bank pointer count : ℕ) (words : List ℕ)
      → (outside v bank pointer count ≡ false → may_write v s bank pointer count ≡ true → names_crc bank pointer ≡ false
      → length_broken v bank pointer count words ≡ false
      → P (Ok (Store (word_at (bank_of v bank) pointer))))
      → P (of_tag (write_act v s bank pointer count words))
  unfolding write_act of_tag
  write_cases v s bank pointer count words store =
      by_test (λ r. P (of_tag r)) (outside v bank pointer count) (λ h. tagged WriteOutside) λ inside.
      by_test (λ r. P (of_tag r)) (not (may_write v s bank pointer count)) (λ h. tagged WriteLocked) λ may.
      by_test (λ r. P (of_tag r)) (names_crc bank pointer) (λ h. tagged WriteLocked) λ not_crc.
      by_test (λ r. P (of_tag r)) (length_broken v bank pointer count words) (λ h. tagged WriteOutside) λ kept.
      store inside (not-false _ may) not_crc kept

  lock_cases : (v : View) (s : Standing) (mask action : ℕ)
      → (is_secured s ≡ true → P (Ok (Set 0x82 20 2 (bits_of (new_pairs (pairs mask) (pairs action) (pairs v.locks))))))
      → P (lock_act v s mask action)
  unfolding lock_act
  lock_cases v s mask action locks =
      by_test P (not (is_secured s)) (λ h. plain NotLocked) λ secured.
      by_test P (not (eqb (pairs mask).user 0) && eqb v.user.words 0) (λ h. tagged NoUserWords) λ h.
      by_test P (refuses_lock (pairs mask) (pairs action) (pairs v.locks)) (λ h. tagged Permalocked) λ h.
      locks (not-false _ secured)

  kill_cases : (k : KillStanding) → (k ≡ Equal → P (Ok (Set 0x65 22 1 1))) → P (kill_act k)
  unfolding kill_act
  kill_cases NoneStored killed = tagged NoKillPassword
  kill_cases Equal killed = killed refl
  kill_cases Different killed = plain NotKilled

  pub act_cases : (image p : List ℕ) (code : ℕ)
      → (code ≡ 0x22 → P (Ok Notify))
      → (code ≡ 0x39 → Reads image p → P (Ok (Give (place_of image p) (2 * count_in p))))
      → (code ≡ 0x49 → Writes image p → P (Ok (Store (place_of image p))))
      → (code ≡ 0x82 → Locks image p → P (Ok (Set 0x82 20 2 (new_bits image p))))
      → (code ≡ 0x65 → Kills image p → P (Ok (Set 0x65 22 1 1)))
      → P (act_of image code p)
  unfolding act_of verdict inventory_verdict read_verdict write_verdict lock_verdict kill_verdict
  act_cases image p code notify give store locks killed =
      let v : View = view image in
      let s : Standing = standing image (password_in p) in
      parse_cases (λ m. P (verdict image p m)) p (plain NoCommand) code
      (λ h. present_cases v NotInventoried _ (notify h))
      (λ h fields aim.
      admitted_cases v s NotRead _
      (read_cases v s (bank_in p) (pointer_in p) (count_in p) λ inside may.
      give h record { fields = fields; aim = aimed v p aim inside; may = may }))
      (λ h fields aim.
      admitted_cases v s NotWritten _
      (write_cases v s (bank_in p) (pointer_in p) (count_in p) (data_in p) λ inside may not_crc kept.
      store h record { fields = fields; aim = aimed v p aim inside; may = may; not_crc = not_crc; kept = kept }))
      (λ h fields.
      admitted_cases v s NotLocked _
      (lock_cases v s (ld_in p / 1024) (ld_in p % 1024) λ secured. locks h record { fields = fields; secured = secured }))
      (λ h fields.
      present_cases v NotKilled _
      (kill_cases (kill_standing image (password_in p)) λ equal. killed h record { fields = fields; equal = equal }))
