-- The tests of a good population, as the code comes upon them.
use Prim.Native.Nat.{ℕ, ◌+◌, ◌-◌, ◌≤◌, ◌<◌}
use borrow.Author.Tests.{le-leb, lt-leb}
use denote.Bor.{Bor}
use lib.Dec.{leb}
use lib.ListN.{length, take, drop}
use mathlib.Core.Bool.{Bool, true, false, and-false}
use mathlib.Core.List.{List}
use mathlib.Core.Path.{◌≡◌, ap, ◌∙◌}
use native.Mathlib.Omega.{arith}
use mathlib.Core.Logic.{◌⊎◌, ⊎_elim}
use Rattle.frame.proofs.Tests.{either}
use Rattle.frame.specs.Bytes.{part, reaches}
use Rattle.std.specs.List.{slice_range}
use Rattle.std.specs.Option.{MatchOption}
use Rattle.std.specs.Prelude.{Option, None, Some}
use Rattle.image.specs.Image.{good}
use Rattle.population.proofs.Below.{below_not}
use Rattle.population.specs.Below.{all_below}
use Rattle.population.specs.Places.{place_at, inside, image_at, apart, apart_below, good_alone, good_at, good_population}
use Rattle.population.specs.declared.places.Place.{Place}

-- the image at a place, as the code cuts it out of the memory
abbrev pub cut : List ℕ → Place → List ℕ
cut memory p = take (p.from + p.size - p.from) (drop p.from memory)

pub cut_is : (memory : List ℕ) (p : Place) → cut memory p ≡ image_at memory p
unfolding image_at part
cut_is memory p =
    let same_size : p.from + p.size - p.from ≡ p.size = omega arith in
    ap (λ (n : ℕ). take n (drop p.from memory)) same_size

-- where the first of two places does not end in time, the second decides
pub apart_else : (p q : Place) (r : Bool) → leb (p.from + p.size) q.from ≡ false → r ≡ leb (q.from + q.size) p.from → r ≡ apart p q
unfolding apart
apart_else p q r h e = simp h e

-- what `get` hands out of a place
pub got : (memory : List ℕ) (p : Place) (e : ℕ) → e ≡ p.from + p.size → (r : Option (Bor (List ℕ)))
    → MatchOption r ((e < p.from) ⊎ (length memory < e))
    (λ x. (p.from ≤ e) × (e ≤ length memory) × (x.now ≡ slice_range memory p.from e) × (length x.now + p.from ≡ e))
    → MatchOption r (inside memory p ≡ false) (λ x. (inside memory p ≡ true) × (x.now ≡ image_at memory p))
unfolding inside reaches image_at part
got memory p e end None h = lt-leb (p.from + p.size) (length memory) (⊎_elim (λ a. omega arith) (λ b. omega arith) h)
got memory p e end (Some x) h =
    let size : e - p.from ≡ p.size = omega arith in
    (le-leb (p.from + p.size) (length memory) (omega arith), h.2 ∙ ap (λ (n : ℕ). take n (drop p.from memory)) size)

module _ (memory : List ℕ) (places : List Place) (i : ℕ) where
  -- a place that overlaps none before it, and one that does
  pub alone_decides : apart_below places i ≡ true → (r : Bool) → r ≡ good_alone memory (place_at places i) → r ≡ good_at memory places i
  unfolding good_at good_alone
  alone_decides h r e = simp h e

  pub not_apart : apart_below places i ≡ false → good_at memory places i ≡ false
  unfolding good_at
  not_apart h = simp (h, and-false)

  pub not_alone : good_alone memory (place_at places i) ≡ false → good_at memory places i ≡ false
  unfolding good_at good_alone
  not_alone h =
      either (apart_below places i) (λ a. simp a h) (λ a. simp (a, and-false))

module _ (memory : List ℕ) (tags : ℕ) (places : List Place) (few : tags ≤ 16) where
  pub population_not : (i : ℕ) → i < tags → good_at memory places i ≡ false → false ≡ good_population memory tags places
  unfolding good_population
  population_not i l h = simp (le-leb tags 16 few, below_not (good_at memory places) tags i l h)

  pub population_is : (i : ℕ) → i ≤ tags → tags ≤ i → all_below (good_at memory places) i ≡ true → true ≡ good_population memory tags places
  unfolding good_population
  population_is i a b h =
      let e : i ≡ tags = omega arith in
      let whole : all_below (good_at memory places) tags ≡ true = rw (← e) h in
      simp (le-leb tags 16 few, whole)

-- ---- one place

module _ (memory : List ℕ) (p : Place) where
  pub alone_outside : inside memory p ≡ false → false ≡ good_alone memory p
  unfolding good_alone
  alone_outside h = simp h

  pub alone_inside : inside memory p ≡ true → (image : List ℕ) → image ≡ image_at memory p → (r : Bool) → r ≡ good image → r ≡ good_alone memory p
  unfolding good_alone
  alone_inside h image same r e = simp h (e ∙ ap good same)
