-- The tests of what Set Select takes, as the code comes upon them.
use Prim.Native.Nat.{ℕ, ◌+◌, ◌/◌, ◌%◌, ◌≤◌, ◌<◌}
use borrow.Author.Tests.{eqb-true, eq-eqb, ne_eqb, le-leb, lt-leb}
use lib.Dec.{eqb}
use lib.ListN.{length}
use mathlib.Core.Bool.{Bool, true, false, and-true, and-false}
use mathlib.Core.List.{List}
use mathlib.Core.Path.{◌≡◌}
use native.Mathlib.Omega.{arith}
use Rattle.frame.proofs.Picks.{pick_true, pick_false}
use Rattle.frame.proofs.Tests.{all_at}
use Rattle.frame.specs.Bytes.{all, byte}
use Rattle.population.specs.Selections.{target_of, action_of, mask_bank, mask_bits, truncate_of, mask_bytes, known_action, taken, good_selection}

-- SelParam b
module _ (s : List ℕ) (b : ℕ) (parameter : b ≡ byte s 0) where
  pub other_target : (b / 32 ≡ 0 → ⊥) → false ≡ taken s
  unfolding taken all target_of
  other_target h = simp (← parameter, ne_eqb (b / 32) 0 h)

  pub other_action : known_action (b / 4 % 8) ≡ false → false ≡ taken s
  unfolding taken all action_of
  other_action h = simp (← parameter, h, and-false)

  pub reserved_bank : b % 4 ≡ 0 → false ≡ taken s
  unfolding taken all mask_bank
  reserved_bank h = simp (← parameter, lt-leb 1 (b % 4) (omega arith), and-false)

  -- truncate t
  module _ (t : ℕ) (truncate : t ≡ byte s 6) where
    pub truncates : (t ≡ 0 → ⊥) → false ≡ taken s
    unfolding taken all truncate_of
    truncates h = simp (← truncate, ne_eqb t 0 h, and-false)

    -- the length decides
    pub length_decides : b / 32 ≡ 0 → known_action (b / 4 % 8) ≡ true → (b % 4 ≡ 0 → ⊥) → t ≡ 0
        → (n : ℕ) → n ≡ byte s 5 → (r : Bool) → r ≡ eqb (length s) (7 + (n + 7) / 8) → r ≡ taken s
    unfolding taken all target_of action_of mask_bank truncate_of mask_bytes mask_bits
    length_decides target action bank zero n bits r e =
        simp (
          ← parameter,
          ← truncate,
          ← bits,
          eq-eqb (b / 32) 0 target,
          action,
          le-leb 1 (b % 4) (omega arith),
          eq-eqb t 0 zero,
          and-true,
        ) e

module _ (s : List ℕ) where
  pub none_is_good : length s ≡ 0 → true ≡ good_selection s
  unfolding good_selection
  none_is_good h = simp (h, pick_true)

  pub taken_decides : (length s ≡ 0 → ⊥) → (r : Bool) → r ≡ taken s → r ≡ good_selection s
  unfolding good_selection
  taken_decides h r e = simp (ne_eqb (length s) 0 h, pick_false) e

  -- a mask length of one byte, so that at most 39 bytes are taken
  pub taken_short : byte s 5 < 256 → taken s ≡ true → length s ≤ 39
  unfolding taken mask_bytes mask_bits
  taken_short small h =
      let whole : length s ≡ 7 + (byte s 5 + 7) / 8 = eqb-true _ _ (all_at _ 4 h) in
      omega arith
