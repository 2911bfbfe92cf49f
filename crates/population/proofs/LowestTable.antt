-- The lowest tag is exactly the one that P5 names: present, matching, and none before it.
use Prim.Native.Nat.{ℕ, ◌+◌, ◌≤◌, ◌<◌}
use borrow.Author.Tests.{eqb-true, eq-eqb, leb-true, leb-false}
use lib.Dec.{eqb, leb}
use mathlib.Core.Bool.{true, false, true≢false}
use mathlib.Core.List.{List}
use mathlib.Core.Path.{◌≡◌, refl, ap, ap₂, sym, subst, ◌∙◌}
use native.Mathlib.Omega.{arith}
use Rattle.frame.proofs.Tests.{and_left, and_right, and_both, either}
use Rattle.frame.specs.Bytes.{byte}
use Rattle.population.proofs.Firsts.{NonePasses, same_tags}
use Rattle.population.proofs.GoodPopulations.{PopulationFacts, population_facts}
use Rattle.population.proofs.Selects.{lowest_cases}
use Rattle.population.specs.Claims.{place_of_tag, image_of, Candidate, LowestRules, LowestTag}
use Rattle.population.specs.Lowest.{tag_at, selected_image, selected, selected_at, lowest}
use Rattle.population.specs.Matching.{matches}
use Rattle.population.specs.Places.{place_at, inside, image_at}
use Rattle.std.specs.Prelude.{Option, None, Some}
use Rattle.population.specs.declared.places.Place.{Place}

module _ (memory : List ℕ) (places : List Place) (s : List ℕ) (i : ℕ) where
  candidate : selected_at memory s places i ≡ true → Candidate memory places s i
  unfolding selected_at selected selected_image place_at image_at
  candidate h =
      let image : List ℕ = image_of memory (place_of_tag places i) in
      let both = and_right (inside memory (place_of_tag places i)) (selected_image s image) h in
      (eqb-true (byte image 22) 0 (and_left _ (matches image s) both), and_right (eqb (byte image 22) 0) (matches image s) both)

  candidate_selected : inside memory (place_at places i) ≡ true → Candidate memory places s i → selected_at memory s places i ≡ true
  unfolding selected_at selected selected_image place_at image_at
  candidate_selected h c = and_both _ _ h (and_both _ _ (eq-eqb _ _ c.0) c.1)

  not_candidate : inside memory (place_at places i) ≡ true → selected_at memory s places i ≡ false → Candidate memory places s i → ⊥
  not_candidate h f c = true≢false (sym (candidate_selected h c) ∙ f)

module _ (memory : List ℕ) (tags : ℕ) (places : List Place) (s : List ℕ) (start : ℕ) (g : PopulationFacts memory tags places) where
  -- what is claimed of a result
  record Claimed (r : (Option (ℕ × Place))) : Type 0 where
    told : (n : ℕ) (p : Place) → r ≡ Some (n, p) → LowestRules memory tags places s start n p
    tells : (n : ℕ) (p : Place) → LowestRules memory tags places s start n p → r ≡ Some (n, p)
    none_told : r ≡ None → (i : ℕ) → start ≤ i → i < tags → Candidate memory places s i → ⊥
    none_tells : ((i : ℕ) → start ≤ i → i < tags → Candidate memory places s i → ⊥) → r ≡ None

  no_tag : NonePasses (selected_at memory s places) start tags → Claimed None
  no_tag none =
      let no : (i : ℕ) → start ≤ i → i < tags → Candidate memory places s i → ⊥ =
      λ i l m. not_candidate memory places s i (g.within i m) (none i l m)
      in
      record {
        told = λ n p e. let z : ◌≡◌ {A = ℕ} 0 1 = cc in absurd (omega arith);
        tells = λ n p r. absurd (no n r.from_the_start_on r.one_of_the_tags r.present_and_matching);
        none_told = λ _. no;
        none_tells = λ _. refl;
      }

  module _ (n : ℕ) (l : start ≤ n) (m : n < tags) (passes : selected_at memory s places n ≡ true) (none : NonePasses (selected_at memory s places) start n) where
    rules : LowestRules memory tags places s start n (place_at places n)
    unfolding place_at
    rules =
        record {
          from_the_start_on = l;
          one_of_the_tags = m;
          at_its_place = refl;
          present_and_matching = candidate memory places s n passes;
          none_before = λ i a b. not_candidate memory places s i (g.within i (omega arith)) (none i a b);
        }

    -- there is only one
    same_number : (k : ℕ) (p : Place) → LowestRules memory tags places s start k p → n ≡ k
    same_number k p r =
        either (leb (n + 1) k)
        (λ e. absurd (r.none_before n l (omega (arith, leb-true (n + 1) k e)) (candidate memory places s n passes)))
        (λ e. either (leb (k + 1) n)
        (λ f. absurd
        (not_candidate memory places s k (g.within k r.one_of_the_tags) (none k r.from_the_start_on (omega (arith, leb-true (k + 1) n f)))
        r.present_and_matching))
        (λ f. omega (arith, leb-false (n + 1) k e, leb-false (k + 1) n f)))

    same_tag : (k : ℕ) (p : Place) → LowestRules memory tags places s start k p → tag_at n (place_at places n) ≡ tag_at k p
    unfolding place_at
    same_tag k p r =
        let e : n ≡ k = same_number k p r in
        ap₂ tag_at e (ap (place_of_tag places) e ∙ sym r.at_its_place)

    the_tag : Claimed (Some (n, place_at places n))
    the_tag =
        record {
          told = λ k p e.
              let both : (n ≡ k) × (place_at places n ≡ p) = same_tags n k (place_at places n) p e in
              subst (λ (q : Place). LowestRules memory tags places s start k q) both.1
              (subst (λ (j : ℕ). LowestRules memory tags places s start j (place_at places n)) both.0 rules);
          tells = same_tag;
          none_told = λ e. let z : ◌≡◌ {A = ℕ} 0 1 = cc in absurd (omega arith);
          none_tells = λ h. absurd (h n l m (candidate memory places s n passes));
        }

pub lowest_tag : LowestTag
lowest_tag memory tags places s start good =
    let g = population_facts memory tags places good in
    let c : Claimed memory tags places s start g (lowest memory tags places s start) =
    lowest_cases memory tags places s start g.few (Claimed memory tags places s start g) (no_tag memory tags places s start g)
    (the_tag memory tags places s start g)
    in
    (λ n p. (c.told n p, c.tells n p), (c.none_told, c.none_tells))
