-- Which tag is selected, and the lowest of them, test by test.
use Prim.Native.Nat.{ℕ, ◌-◌, ◌≤◌, ◌<◌}
use borrow.Author.Tests.{eq-eqb, ne_eqb, lt-ltb, le-ltb}
use lib.Dec.{ltb}
use mathlib.Core.Bool.{Bool, true, false}
use mathlib.Core.List.{List}
use mathlib.Core.Path.{◌≡◌, ap, sym, subst, ◌∙◌}
use native.Mathlib.Omega.{arith}
use Rattle.frame.proofs.Picks.{pick_true, pick_false}
use Rattle.frame.specs.Bytes.{pick, byte}
use Rattle.population.proofs.Firsts.{NonePasses, first_cases, first_same}
use Rattle.population.specs.Lowest.{selected_image, selected, selected_at, first_tag, lowest}
use Rattle.population.specs.Matching.{matches}
use Rattle.population.specs.Places.{place_at, inside, image_at}
use Rattle.std.specs.Prelude.{Option, None, Some}
use Rattle.population.specs.declared.places.Place.{Place}

module _ (memory s : List ℕ) (place : Place) where
  pub selected_outside : inside memory place ≡ false → false ≡ selected memory s place
  unfolding selected
  selected_outside h = simp h

  -- the state b, read in the image
  module _ (h : inside memory place ≡ true) (image : List ℕ) (same : image ≡ image_at memory place) (b : ℕ) (state : b ≡ byte image 22) where
    image_is : selected memory s place ≡ selected_image s image
    unfolding selected
    image_is = simp (h, same)

    pub selected_gone : (b ≡ 0 → ⊥) → false ≡ selected memory s place
    unfolding selected_image
    selected_gone n = sym (image_is ∙ (simp (← state, ne_eqb b 0 n)))

    pub selected_present : b ≡ 0 → (r : Bool) → r ≡ matches image s → r ≡ selected memory s place
    unfolding selected_image
    selected_present z r e = e ∙ sym (image_is ∙ (simp (← state, eq-eqb b 0 z)))

module _ (memory : List ℕ) (tags : ℕ) (places : List Place) (s : List ℕ) (start : ℕ) where
  pub lowest_many : 16 < tags → None ≡ lowest memory tags places s start
  unfolding lowest
  lowest_many h = simp (lt-ltb 16 tags h, pick_true)

  pub lowest_few : tags ≤ 16 → lowest memory tags places s start ≡ first_tag (selected_at memory s places) places start (tags - start)
  unfolding lowest
  lowest_few h = simp (le-ltb 16 tags h, pick_false)

  pub lowest_cases : tags ≤ 16 → (P : (Option (ℕ × Place)) → Type 0)
      → (NonePasses (selected_at memory s places) start tags → P None)
      → ((n : ℕ) → start ≤ n → n < tags → selected_at memory s places n ≡ true → NonePasses (selected_at memory s places) start n
      → P (Some (n, place_at places n)))
      → P (lowest memory tags places s start)
  lowest_cases few P none one =
      subst P (sym (lowest_few few))
      (first_cases (selected_at memory s places) places P start (tags - start) (λ h. none (λ j l m. h j l (omega arith)))
      (λ n l m passes h. one n l (omega arith) passes h))

-- two memories in which the same tags are selected
pub lowest_same : (m n : List ℕ) (tags : ℕ) (places : List Place) (s : List ℕ) (start : ℕ)
    → ((i : ℕ) → start ≤ i → i < tags → selected_at m s places i ≡ selected_at n s places i)
    → lowest m tags places s start ≡ lowest n tags places s start
unfolding lowest
lowest_same m n tags places s start h =
    ap (λ (r : (Option (ℕ × Place))). pick (ltb 16 tags) None r)
    (first_same (selected_at m s places) (selected_at n s places) places start (tags - start) (λ i l k. h i l (omega arith)))
