-- Pieces are written by calls of the run: where the sheet stands behind one is where some calls leave it.
use Prim.Native.Nat.{ℕ, zero, suc, ◌+◌, ◌-◌}
use lib.Dec.{ltb}
use lib.ListN.{length}
use mathlib.Core.Bool.{Bool, ◌||◌}
use mathlib.Core.List.{List}
use mathlib.Core.Path.{◌≡◌, refl, ap, ◌∙◌}
use native.Mathlib.Omega.{arith}
use Rattle.frame.proofs.Picks.{by_test}
use Rattle.sheet.specs.Itemised.{advanced}
use Rattle.sheet.specs.Sheet.{Standing, teller}
use Rattle.text.specs.Telling.{Piece, left, fill_by, fill}

module _ (input : List ℕ) where
  -- calls behind calls
  pub advanced_more : (k j : ℕ) (s : Standing) → advanced j input (advanced k input s) ≡ advanced (k + j) input s
  unfolding advanced
  advanced_more zero j s =
      let same : j ≡ zero + j = omega arith in
      ap (λ (n : ℕ). advanced n input s) same
  advanced_more (suc k) j s =
      let same : suc (k + j) ≡ suc k + j = omega arith in
      advanced_more k j ((teller input).next s) ∙ ap (λ (n : ℕ). advanced n input s) same

  fill_by_lem : (n room : ℕ) (over : Bool) (s : Standing) → (k : ℕ) × ((fill_by n (teller input) 1024 room over s).state ≡ advanced k input s)
  unfolding fill_by advanced
  fill_by_lem zero room over s = (0, refl)
  fill_by_lem (suc n) room over s =
      by_test (λ (p : Piece Standing). (k : ℕ) × (p.state ≡ advanced k input s)) (over || ltb room 1024) (λ full. (0, refl))
      (λ fits.
      let rest = fill_by_lem n (room - length ((teller input).part s)) ((teller input).last s) ((teller input).next s) in
      (suc rest.0, rest.1))

  pub filled : (room : ℕ) (over : Bool) (s : Standing) → (k : ℕ) × ((fill (teller input) 1024 room over s).state ≡ advanced k input s)
  unfolding fill
  filled room over s = fill_by_lem (left (teller input) over s) room over s
