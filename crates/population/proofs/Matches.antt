-- The rules of a match, test by test, as the code comes upon them.
use Prim.Native.Nat.{ℕ, ◌+◌, ◌*◌, ◌/◌, ◌%◌, ◌≤◌, ◌<◌}
use borrow.Author.Tests.{eq-eqb, ne_eqb, lt-ltb, le-ltb}
use lib.ListN.{length}
use mathlib.Core.Bool.{Bool, true, false, not}
use mathlib.Core.List.{List}
use mathlib.Core.Path.{◌≡◌, refl}
use native.Mathlib.Omega.{arith}
use Rattle.frame.proofs.Picks.{pick_true, pick_false}
use Rattle.frame.specs.Bytes.{byte, number, double}
use Rattle.image.proofs.Places.{bank_cases}
use Rattle.image.specs.Image.{view, bank_at, bank_of}
use Rattle.image.specs.declared.header.Bank.{Bank}
use Rattle.population.specs.Matching.{same_bits, mask_found, matches}
use Rattle.population.specs.Selections.{action_of, mask_bank, mask_pointer, mask_bits}

-- a bank's words and its offset, as they stand in the header
pub record HeaderBank (image : List ℕ) (bank : ℕ) (b : Bank) : Type 0 where
  pub words_at : b.words ≡ number image (4 + 4 * bank)
  pub offset_at : b.offset ≡ number image (6 + 4 * bank)

pub header_bank : (image : List ℕ) (bank : ℕ) → bank ≤ 3 → HeaderBank image bank (bank_of (view image) bank)
unfolding view bank_at
header_bank image =
    bank_cases (view image) (HeaderBank image) record { words_at = refl; offset_at = refl } record { words_at = refl; offset_at = refl }
    record { words_at = refl; offset_at = refl } record { words_at = refl; offset_at = refl }

module _ (image s : List ℕ) where
  pub empty_mask : byte s 5 ≡ 0 → true ≡ mask_found image s
  unfolding mask_found mask_bits
  empty_mask h = simp (h, pick_true)

  -- n bits of a mask, SelParam b, pointer p, w words of the bank
  module _ (n b p w : ℕ) (mask : n ≡ byte s 5) (some : n ≡ 0 → ⊥) (parameter : b ≡ byte s 0) (pointer : p ≡ double s 1)
      (words : w ≡ number image (4 + 4 * (b % 4))) where
    bank_there : HeaderBank image (b % 4) (bank_of (view image) (b % 4))
    bank_there = header_bank image (b % 4) (omega arith)

    pub past_bank : 16 * w < p + n → false ≡ mask_found image s
    unfolding mask_found mask_bits mask_bank mask_pointer
    past_bank h =
        simp
        (← mask, ← parameter, ← pointer, bank_there.words_at, ← words, ne_eqb n 0 some, lt-ltb (16 * w) (p + n) h, pick_true, pick_false)

    pub in_bank : p + n ≤ 16 * w → (v : ℕ) (r : Bool) → v ≡ number image (6 + 4 * (b % 4)) → r ≡ same_bits image (8 * v + p) s n → r ≡ mask_found image s
    unfolding mask_found mask_bits mask_bank mask_pointer
    in_bank h v r offset e =
        simp (
          ← mask,
          ← parameter,
          ← pointer,
          bank_there.words_at,
          ← words,
          bank_there.offset_at,
          ← offset,
          ne_eqb n 0 some,
          le-ltb (16 * w) (p + n) h,
          pick_false,
        ) e

  pub match_empty : length s ≡ 0 → true ≡ matches image s
  unfolding matches
  match_empty h = simp (h, pick_true)

  module _ (some : length s ≡ 0 → ⊥) (b : ℕ) (found : Bool) (parameter : b ≡ byte s 0) (finds : found ≡ mask_found image s) where
    pub match_turned : b / 4 % 8 ≡ 4 → not found ≡ matches image s
    unfolding matches action_of
    match_turned h = simp (← parameter, ← finds, ne_eqb (length s) 0 some, eq-eqb (b / 4 % 8) 4 h, pick_true, pick_false)

    pub match_plain : (b / 4 % 8 ≡ 4 → ⊥) → found ≡ matches image s
    unfolding matches action_of
    match_plain h = simp (← parameter, ← finds, ne_eqb (length s) 0 some, ne_eqb (b / 4 % 8) 4 h, pick_false)
