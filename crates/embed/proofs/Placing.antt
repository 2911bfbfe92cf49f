-- The lent numbers as places: how many are used, which are small enough, and the row that they make.
use Prim.Native.Nat.{ℕ, min, suc, ◌+◌, ◌*◌, ◌/◌, ◌%◌, ◌≤◌, ◌<◌}
use borrow.Author.Tests.{ltb-true, ltb-false, leb-true, lt-leb, le-leb, eq-eqb, ne_eqb}
use lib.Dec.{eqb, ltb}
use lib.ListN.{length, get_or, set}
use mathlib.Core.Bool.{Bool, true, false}
use mathlib.Core.List.{List}
use mathlib.Core.Path.{◌≡◌, ap, sym, ◌∙◌}
use native.Mathlib.Omega.{arith}
use Rattle.frame.proofs.Picks.{by_test}
use Rattle.frame.proofs.Tests.{and_right}
use Rattle.population.proofs.Below.{below_each, below_more, below_not}
use Rattle.population.specs.Below.{all_below}
use Rattle.reader.specs.Tallies.{limit}
use Rattle.embed.specs.Placed.{tags_in, used_of, small_at, places_fit, place_in, placed}

-- ---- how many are used

pub used_least : (n : ℕ) → min n 16 ≡ used_of n
unfolding used_of
used_least n =
    by_test (λ (u : ℕ). min n 16 ≡ u) (ltb 16 n) (λ h. omega (arith, ltb-true 16 n h)) (λ h. omega (arith, ltb-false 16 n h))

used_few : (n : ℕ) → used_of n ≤ 16
unfolding used_of
used_few n = by_test (λ (u : ℕ). u ≤ 16) (ltb 16 n) (λ h. omega arith) (λ h. omega (arith, ltb-false 16 n h))

used_most : (n : ℕ) → used_of n ≤ n
unfolding used_of
used_most n = by_test (λ (u : ℕ). u ≤ n) (ltb 16 n) (λ h. omega (arith, ltb-true 16 n h)) (λ h. omega arith)

pub used_small : (u n : ℕ) → u ≡ used_of n → u ≤ 16
used_small u n e = omega (arith, e, used_few n)

-- two numbers for each tag that is used are there
pub used_there : (numbers : List ℕ) (u : ℕ) → u ≡ used_of (length numbers / 2) → 2 * u ≤ length numbers
used_there numbers u e = omega (arith, e, used_most (length numbers / 2))

-- ---- numbers that a place can hold

module _ (numbers : List ℕ) where
  pub far_one : (n i : ℕ) → i < n → limit < get_or numbers i 0 → false ≡ all_below (small_at numbers) n
  unfolding small_at
  far_one n i l h = sym (below_not (small_at numbers) n i l (lt-leb (get_or numbers i 0) limit h))

  pub small_more : (i : ℕ) → all_below (small_at numbers) i ≡ true → get_or numbers i 0 ≤ limit → all_below (small_at numbers) (i + 1) ≡ true
  unfolding small_at
  small_more i all h = below_more (small_at numbers) i all (le-leb (get_or numbers i 0) limit h)

  pub small_each : (n : ℕ) → all_below (small_at numbers) n ≡ true → (k : ℕ) → k < n → get_or numbers k 0 ≤ limit
  unfolding small_at
  small_each n all k l = leb-true (get_or numbers k 0) limit (below_each (small_at numbers) n all k l)

  pub odd : (length numbers % 2 ≡ 0 → ⊥) → false ≡ places_fit numbers
  unfolding places_fit
  odd h = simp (ne_eqb (length numbers % 2) 0 h)

  pub even : length numbers % 2 ≡ 0 → (u : ℕ) → u ≡ used_of (length numbers / 2) → (b : Bool) → b ≡ all_below (small_at numbers) (2 * u) → b ≡ places_fit numbers
  unfolding places_fit tags_in
  even h u e b small =
      small ∙ ap (λ (n : ℕ). all_below (small_at numbers) (2 * n)) e ∙ simp (eq-eqb (length numbers % 2) 0 h)

  pub fit_small : places_fit numbers ≡ true → (u : ℕ) → u ≡ used_of (length numbers / 2) → all_below (small_at numbers) (2 * u) ≡ true
  unfolding places_fit tags_in
  fit_small h u e =
      ap (λ (n : ℕ). all_below (small_at numbers) (2 * n)) e
      ∙ and_right (eqb (length numbers % 2) 0) (all_below (small_at numbers) (2 * used_of (length numbers / 2))) h

  -- ---- the row

  pub placed_more : (i : ℕ) → set (placed numbers i) i record { from = get_or numbers (2 * i) 0; size = get_or numbers (2 * i + 1) 0 } ≡ placed numbers (i + 1)
  unfolding placed place_in
  placed_more i =
      let next : suc i ≡ i + 1 = omega arith in
      ap (placed numbers) next
