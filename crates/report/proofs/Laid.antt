-- Files that lie one behind the other: no place leaves the memory, and no two overlap.
use Prim.Native.Nat.{ℕ, zero, suc, ◌+◌, ◌-◌, ◌≤◌, ◌<◌}
use borrow.Author.Tests.{eqb-true, eqb-false, leb-true, leb-false, le-ltb}
use lib.Dec.{eqb, leb}
use lib.ListN.{length, take, get_or, set, length-set}
use lib.Seq.{get_or-set_same, get_or-set_other}
use mathlib.Core.Bool.{true}
use mathlib.Core.List.{List, [], ◌∷◌}
use mathlib.Core.Path.{◌≡◌, refl, ap, sym, subst, ◌∙◌}
use native.Mathlib.Nat.{add-zero, add-suc}
use native.Mathlib.Omega.{arith}
use Rattle.frame.proofs.Copies.{there_reaches}
use Rattle.frame.proofs.Picks.{pick_false}
use Rattle.frame.proofs.Tests.{either}
use Rattle.frame.specs.Bytes.{part}
use Rattle.frame.specs.Frames.{sum}
use Rattle.image.specs.Image.{good}
use Rattle.population.proofs.GoodPopulations.{PopulationFacts, population_facts, population_holds}
use Rattle.population.proofs.Overlaps.{apart_first, apart_second}
use Rattle.population.specs.Places.{nowhere, place_at, inside, image_at}
use Rattle.population.specs.declared.places.Place.{Place}
use Rattle.report.specs.Claims.{GoodFiles}
use Rattle.report.specs.Report.{place_in, laid_out, places_of}

-- ---- where a file begins and ends

pub sum_next : (sizes : List ℕ) (i : ℕ) → sum (take (suc i) sizes) ≡ sum (take i sizes) + get_or sizes i 0
unfolding sum
sum_next [] zero = refl
sum_next [] (suc i) = refl
sum_next (n ∷ sizes) zero = omega arith
sum_next (n ∷ sizes) (suc i) = omega (arith, sum_next sizes i)

sum_rises : (sizes : List ℕ) (i k : ℕ) → sum (take i sizes) ≤ sum (take (i + k) sizes)
sum_rises sizes i zero = rw add-zero (omega arith)
sum_rises sizes i (suc k) = rw add-suc (omega (arith, sum_rises sizes i k, sum_next sizes (i + k)))

sum_all : (sizes : List ℕ) (i : ℕ) → sum (take i sizes) ≤ sum sizes
unfolding sum
sum_all [] zero = omega arith
sum_all [] (suc i) = omega arith
sum_all (n ∷ sizes) zero = omega arith
sum_all (n ∷ sizes) (suc i) = omega (arith, sum_all sizes i)

-- ---- the places

length_laid : (sizes : List ℕ) (n : ℕ) → length (laid_out sizes n) ≡ 16
unfolding laid_out
length_laid sizes zero = refl
length_laid sizes (suc n) = length-set (laid_out sizes n) n (place_in sizes n) ∙ length_laid sizes n

laid_at : (sizes : List ℕ) (n i : ℕ) → n ≤ 16 → i < n → get_or (laid_out sizes n) i nowhere ≡ place_in sizes i
unfolding laid_out
laid_at sizes zero i h l = absurd (omega arith)
laid_at sizes (suc n) i h l =
    either (eqb n i)
    (λ e.
    subst (λ (k : ℕ). get_or (set (laid_out sizes n) n (place_in sizes n)) k nowhere ≡ place_in sizes k) (eqb-true n i e)
    (get_or-set_same (laid_out sizes n) n (place_in sizes n) nowhere (omega (arith, length_laid sizes n))))
    (λ e. get_or-set_other (laid_out sizes n) n i (place_in sizes n) nowhere (λ same. eqb-false n i e (sym same)) ∙ laid_at sizes n i (omega arith) (omega (arith, eqb-false n i e)))

module _ (memory sizes : List ℕ) where
  at : length sizes ≤ 16 → (i : ℕ) → i < length sizes → place_at (places_of sizes) i ≡ place_in sizes i
  unfolding place_at places_of
  at few i l = rw (le-ltb 16 (length sizes) few, pick_false) (laid_at sizes (length sizes) i few l)

  inside_at : sum sizes ≤ length memory → (i : ℕ) → inside memory (place_in sizes i) ≡ true
  unfolding inside place_in
  inside_at all i = there_reaches memory _ _ (omega (arith, all, sum_next sizes i, sum_all sizes (suc i)))

  before : (i k : ℕ) → (place_in sizes i).from + (place_in sizes i).size ≤ (place_in sizes (suc i + k)).from
  unfolding place_in
  before i k = omega (arith, sum_next sizes i, sum_rises sizes (suc i) k)

  facts : sum sizes ≤ length memory → length sizes ≤ 16
      → ((i : ℕ) → i < length sizes → good (part memory (sum (take i sizes)) (get_or sizes i 0)) ≡ true)
      → PopulationFacts memory (length sizes) (places_of sizes)
  unfolding image_at place_in
  facts all few images =
      record {
        few = few;
        within = λ i l. ap (inside memory) (at few i l) ∙ inside_at all i;
        apart_all = λ i j l m d.
            rw (at few i l, at few j m)
            (either (leb (suc i) j)
            (λ e.
            let k : suc i + (j - suc i) ≡ j = omega (arith, leb-true (suc i) j e) in
            apart_first (place_in sizes i) (place_in sizes j) (rw k at (before i (j - suc i))))
            (λ e.
            let h : j < suc i = leb-false (suc i) j e in
            let k : suc j + (i - suc j) ≡ i = omega (arith, d) in
            apart_second (place_in sizes i) (place_in sizes j) (rw k at (before j (i - suc j)))));
        images = λ i l. ap (λ (p : Place). good (image_at memory p)) (at few i l) ∙ images i l;
      }

pub good_files : GoodFiles
unfolding image_at place_in
good_files memory sizes all = (
  λ g.
      let f = population_facts memory (length sizes) (places_of sizes) g in
      (f.few, λ i l. ap (λ (p : Place). good (image_at memory p)) (sym (at memory sizes f.few i l)) ∙ f.images i l),
  λ r. population_holds memory (length sizes) (places_of sizes) (facts memory sizes all r.0 r.1),
)
