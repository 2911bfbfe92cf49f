-- The definitions' own words for locks: pairs, the lock table, regions, standings and new pairs.
use Prim.Native.Nat.{ℕ, ◌+◌, ◌*◌, ◌/◌, ◌%◌, ◌<◌}
use borrow.Author.Tests.{eq-eqb, ne_eqb, lt-ltb}
use mathlib.Core.Bool.{and-true}
use mathlib.Core.List.{List}
use mathlib.Core.Path.{◌≡◌, refl, sym}
use native.Mathlib.Nat.{div-div-eq-div-mul}
use native.Mathlib.Omega.{arith}
use Rattle.frame.proofs.Picks.{pick_true, pick_false}
use Rattle.frame.specs.Bytes.{pick}
use Rattle.tag.specs.Claims.{PairBits, LockTable, Regions, RangeBeforeLock, Standings, PairTable}
use Rattle.tag.specs.Commands.{if_present, admitted, outside, read_act, read_verdict, write_act, write_verdict, of_tag}
use Rattle.tag.specs.Errors.{tag_byte}
use Rattle.tag.specs.Locks.{pairs, standing_of, is_secured, allows, touches, may_touch_passwords, may_read, may_write, permalocked, refuses_pair, new_bit, masked_pair, new_pair}
use Rattle.image.specs.declared.header.View.{View}
use Rattle.tag.specs.declared.locks.Standing.{Standing}

-- a pair is its two bits; k is half the weight of the upper one
pub two_bits : (n k : ℕ) → 0 < k → n / k % 4 ≡ 2 * (n / (k * 2) % 2) + n / k % 2
two_bits n k pos = omega (arith, sym (div-div-eq-div-mul n k 2))

pub lowest_bits : (n : ℕ) → n % 4 ≡ 2 * (n / 2 % 2) + n / 1 % 2
lowest_bits n = omega arith

pub pair_bits : PairBits
unfolding pairs
pair_bits n =
    let kill : n / 256 % 4 ≡ 2 * (n / 512 % 2) + n / 256 % 2 = two_bits n 256 (omega arith) in
    let access : n / 64 % 4 ≡ 2 * (n / 128 % 2) + n / 64 % 2 = two_bits n 64 (omega arith) in
    let epc : n / 16 % 4 ≡ 2 * (n / 32 % 2) + n / 16 % 2 = two_bits n 16 (omega arith) in
    let tid : n / 4 % 4 ≡ 2 * (n / 8 % 2) + n / 4 % 2 = two_bits n 4 (omega arith) in
    let user : n % 4 ≡ 2 * (n / 2 % 2) + n / 1 % 2 = lowest_bits n in
    λ i. record { kill = kill i; access = access i; epc = epc i; tid = tid i; user = user i }

pub lock_table : LockTable
unfolding allows pick is_secured
lock_table =
    record { free_00 = λ s. refl; free_01 = λ s. refl; secured_10 = refl; open_10 = refl; wrong_10 = refl; never_11 = λ s. refl }

pub regions : (v : View) (s : Standing) (pointer n : ℕ) → Regions v s pointer n
unfolding may_read may_write may_touch_passwords touches pick
regions v s pointer n =
    record {
      passwords_read = λ some most. simp (lt-ltb 0 (pointer + n) (omega arith), lt-ltb pointer 4 (omega arith), and-true);
      passwords_write = λ some most. simp (lt-ltb 0 (pointer + n) (omega arith), lt-ltb pointer 4 (omega arith), and-true);
      epc_read = refl;
      tid_read = refl;
      user_read = refl;
      epc_write = refl;
      tid_write = refl;
      user_write = refl;
    }

pub range_before_lock : (v : View) (s : Standing) (bank pointer n : ℕ) (words : List ℕ) → RangeBeforeLock v s bank pointer n words
unfolding read_verdict read_act write_verdict write_act admitted if_present of_tag outside tag_byte
range_before_lock v s bank pointer n words =
    record {
      read = λ g w far. simp (g, w, lt-ltb _ _ far, pick_true, pick_false);
      read_byte = refl;
      write = λ g w far. simp (g, w, lt-ltb _ _ far, pick_true, pick_false);
      write_byte = refl;
    }

pub standings : (stored given : ℕ) → Standings stored given
unfolding standing_of
standings stored given =
    record {
      both_zero = simp (pick_true);
      equal = λ n. simp (ne_eqb given 0 n, eq-eqb given given refl, pick_true, pick_false);
      differs = λ n d. simp (ne_eqb given 0 n, ne_eqb given stored d, pick_false);
      zero_given = λ n. simp (ne_eqb stored 0 n, pick_true, pick_false);
    }

pub pair_table : PairTable
unfolding refuses_pair new_pair masked_pair new_bit permalocked pick
pair_table = refl
