-- What is known of the tag that was found to be the lowest.
use Prim.Native.Nat.{ℕ, ◌≤◌, ◌<◌}
use mathlib.Core.Bool.{true}
use mathlib.Core.List.{List}
use mathlib.Core.Path.{◌≡◌, refl, sym, subst}
use native.Mathlib.Omega.{arith}
use Rattle.image.specs.Image.{good}
use Rattle.population.proofs.Firsts.{NonePasses, same_tags}
use Rattle.population.proofs.GoodPopulations.{PopulationFacts, population_facts}
use Rattle.population.proofs.Selects.{lowest_cases}
use Rattle.population.specs.Lowest.{selected_at, lowest, tag_at}
use Rattle.population.specs.Places.{place_at, inside, image_at, good_population}
use Rattle.std.specs.Prelude.{Option}
use Rattle.population.specs.declared.places.Place.{Place}

module _ (memory : List ℕ) (tags : ℕ) (places : List Place) (selection : List ℕ) (start : ℕ) where
  pub record TheLowest (n : ℕ) (p : Place) : Type 0 where
    pub from_start : start ≤ n
    pub one_of : n < tags
    pub at_place : p ≡ place_at places n
    pub passes : selected_at memory selection places n ≡ true
    pub none_before : NonePasses (selected_at memory selection places) start n

  pub the_lowest : tags ≤ 16 → (n : ℕ) (p : Place) → lowest memory tags places selection start ≡ tag_at n p → TheLowest n p
  the_lowest few n p =
      lowest_cases memory tags places selection start few (λ (r : Option (ℕ × Place)). r ≡ tag_at n p → TheLowest n p)
      (λ none e. let z : ◌≡◌ {A = ℕ} 0 1 = cc in absurd (omega arith))
      (λ k l m passes none e.
      let same : (k ≡ n) × (place_at places k ≡ p) = same_tags k n (place_at places k) p e in
      subst (λ (q : Place). TheLowest n q) same.1
      (subst (λ (j : ℕ). TheLowest j (place_at places k)) same.0
      record { from_start = l; one_of = m; at_place = refl; passes = passes; none_before = none }))

  -- its image stands in the memory, and is good
  module _ (g : good_population memory tags places ≡ true) (n : ℕ) (p : Place) (t : TheLowest n p) where
    facts : PopulationFacts memory tags places
    facts = population_facts memory tags places g

    pub lowest_inside : inside memory p ≡ true
    lowest_inside = subst (λ (q : Place). inside memory q ≡ true) (sym t.at_place) (facts.within n t.one_of)

    pub lowest_good : good (image_at memory p) ≡ true
    lowest_good = subst (λ (q : Place). good (image_at memory q) ≡ true) (sym t.at_place) (facts.images n t.one_of)
