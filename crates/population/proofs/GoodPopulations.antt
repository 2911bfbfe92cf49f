-- A good population as facts, one for each rule of P5; and it stays good where a good image of the same size takes the place of another.
use Prim.Native.Nat.{ℕ, ◌+◌, ◌≤◌, ◌<◌}
use borrow.Author.Tests.{leb-true, leb-false, le-leb, eqb-true, eqb-false}
use lib.Dec.{eqb, leb}
use lib.ListN.{length}
use mathlib.Core.Bool.{true, ◌&&◌}
use mathlib.Core.List.{List}
use mathlib.Core.Logic.{◌≢◌}
use mathlib.Core.Path.{◌≡◌, ap, subst, ◌∙◌}
use native.Mathlib.Omega.{arith}
use Rattle.frame.proofs.Copies.{there_reaches}
use Rattle.frame.proofs.Tests.{and_left, and_right, and_both, either}
use Rattle.image.specs.Image.{good}
use Rattle.population.proofs.Below.{below_each, below_all}
use Rattle.population.proofs.Executes.{inside_there}
use Rattle.population.proofs.Images.{length_replaced, image_same, image_other}
use Rattle.population.proofs.Overlaps.{apart_sym}
use Rattle.population.specs.Executing.{replaced}
use Rattle.population.specs.Places.{place_at, inside, image_at, apart, apart_from, apart_below, good_at, good_population}
use Rattle.population.specs.declared.places.Place.{Place}

pub record PopulationFacts (memory : List ℕ) (tags : ℕ) (places : List Place) : Type 0 where
  pub few : tags ≤ 16
  pub within : (i : ℕ) → i < tags → inside memory (place_at places i) ≡ true
  pub apart_all : (i j : ℕ) → i < tags → j < tags → i ≢ j → apart (place_at places i) (place_at places j) ≡ true
  pub images : (i : ℕ) → i < tags → good (image_at memory (place_at places i)) ≡ true

-- ---- the tests say so

module _ (memory : List ℕ) (tags : ℕ) (places : List Place) (g : good_population memory tags places ≡ true) where
  at_each : (i : ℕ) → i < tags → good_at memory places i ≡ true
  unfolding good_population
  at_each i h = below_each (good_at memory places) tags (and_right (leb tags 16) _ g) i h

  within_each : (i : ℕ) → i < tags → inside memory (place_at places i) ≡ true
  unfolding good_at
  within_each i h = and_left _ (apart_below places i && good (image_at memory (place_at places i))) (at_each i h)

  rest_each : (i : ℕ) → i < tags → (apart_below places i && good (image_at memory (place_at places i))) ≡ true
  unfolding good_at
  rest_each i h = and_right (inside memory (place_at places i)) _ (at_each i h)

  apart_lower : (i j : ℕ) → i < tags → j < i → apart (place_at places i) (place_at places j) ≡ true
  unfolding apart_below apart_from
  apart_lower i j h l = below_each (apart_from places i) i (and_left (apart_below places i) _ (rest_each i h)) j l

  pub population_facts : PopulationFacts memory tags places
  unfolding good_population
  population_facts =
      record {
        few = leb-true tags 16 (and_left (leb tags 16) _ g);
        within = within_each;
        apart_all = λ i j h k d.
            either (leb (i + 1) j)
            (λ e. apart_sym (place_at places j) (place_at places i) (apart_lower j i k (omega (arith, leb-true (i + 1) j e))))
            (λ e. let l : j < i + 1 = leb-false (i + 1) j e in apart_lower i j h (omega (arith, d)));
        images = λ i h. and_right (apart_below places i) _ (rest_each i h);
      }

-- ---- and the facts suffice

pub population_holds : (memory : List ℕ) (tags : ℕ) (places : List Place) → PopulationFacts memory tags places → good_population memory tags places ≡ true
unfolding good_population good_at apart_below apart_from
population_holds memory tags places g =
    and_both (leb tags 16) _ (le-leb tags 16 g.few)
    (below_all (good_at memory places) tags
    (λ i l. and_both (inside memory (place_at places i)) _ (g.within i l)
    (and_both (apart_below places i) _
    (below_all (apart_from places i) i (λ j m. g.apart_all i j l (omega arith) (λ e. omega arith)))
    (g.images i l))))

-- ---- another image of the same size

module _ (memory : List ℕ) (tags : ℕ) (places : List Place) (g : PopulationFacts memory tags places) (i : ℕ) (h : i < tags) (image : List ℕ)
    (size : length image ≡ (place_at places i).size) where
  pub within_still : (j : ℕ) → j < tags → inside (replaced memory (place_at places i) image) (place_at places j) ≡ true
  unfolding inside
  within_still j l =
      there_reaches (replaced memory (place_at places i) image) (place_at places j).from (place_at places j).size
      (omega (arith, length_replaced memory (place_at places i) image size, inside_there memory (place_at places j) (g.within j l)))

  pub other_still : (j : ℕ) → j < tags → i ≢ j
      → image_at (replaced memory (place_at places i) image) (place_at places j) ≡ image_at memory (place_at places j)
  other_still j l d = image_other memory (place_at places i) image size (place_at places j) (g.apart_all i j h l d)

  pub good_still : good image ≡ true → PopulationFacts (replaced memory (place_at places i) image) tags places
  good_still fine =
      record {
        few = g.few;
        within = within_still;
        apart_all = g.apart_all;
        images = λ j l.
            either (eqb i j)
            (λ e. subst (λ (k : ℕ). good (image_at (replaced memory (place_at places i) image) (place_at places k)) ≡ true) (eqb-true i j e)
            (ap good (image_same memory (place_at places i) image size (inside_there memory (place_at places i) (g.within i h))) ∙ fine))
            (λ e. ap good (other_still j l (eqb-false i j e)) ∙ g.images j l);
      }
