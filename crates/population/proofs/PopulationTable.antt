-- A good population is exactly one that keeps the rules of P5, number by number and byte by byte.
use Prim.Native.Nat.{ℕ, ◌≤◌, ◌<◌}
use lib.ListN.{length}
use mathlib.Core.Bool.{true}
use mathlib.Core.List.{List}
use mathlib.Core.Path.{◌≡◌}
use native.Mathlib.Omega.{arith}
use Rattle.frame.proofs.Copies.{there_reaches}
use Rattle.image.proofs.GoodImages.{header_there}
use Rattle.population.proofs.Executes.{inside_there, image_length}
use Rattle.population.proofs.GoodPopulations.{PopulationFacts, population_facts, population_holds}
use Rattle.population.proofs.Overlaps.{none_shared, shared_none}
use Rattle.population.specs.Claims.{PopulationRules, GoodPopulations}
use Rattle.population.specs.Places.{place_at, inside, image_at}
use Rattle.population.specs.declared.places.Place.{Place}

module _ (memory : List ℕ) (tags : ℕ) (places : List Place) where
  rules_kept : PopulationFacts memory tags places → PopulationRules memory tags places
  unfolding place_at image_at
  rules_kept g =
      record {
        up_to_16 = g.few;
        inside_the_memory = λ i h. inside_there memory (place_at places i) (g.within i h);
        no_overlap = λ i j h l d. none_shared (place_at places i) (place_at places j) (g.apart_all i j h l d);
        images_good = g.images;
      }

  module _ (r : PopulationRules memory tags places) where
    within : (i : ℕ) → i < tags → inside memory (place_at places i) ≡ true
    unfolding place_at inside
    within i h = there_reaches memory _ _ (r.inside_the_memory i h)

    -- a good image has a header, so that no place is empty
    some : (i : ℕ) → i < tags → 0 < (place_at places i).size
    unfolding place_at image_at
    some i h =
        let least : 24 ≤ length (image_at memory (place_at places i)) = header_there _ (r.images_good i h) in
        omega (arith, image_length memory (place_at places i) (within i h))

    rules_suffice : PopulationFacts memory tags places
    unfolding place_at image_at
    rules_suffice =
        record {
          few = r.up_to_16;
          within = within;
          apart_all = λ i j h l d. shared_none (place_at places i) (place_at places j) (some i h) (some j l) (r.no_overlap i j h l d);
          images = r.images_good;
        }

pub good_populations : GoodPopulations
good_populations memory tags places =
    (λ g. rules_kept memory tags places (population_facts memory tags places g), λ r. population_holds memory tags places (rules_suffice memory tags places r))
