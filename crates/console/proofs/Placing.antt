-- The places of tags that lie one behind the other, as a loop comes upon them.
use Prim.Native.Nat.{ℕ, suc, ◌+◌, ◌*◌, ◌≤◌, ◌<◌, min}
use borrow.Author.Tests.{ltb-true, ltb-false}
use lib.Dec.{ltb}
use lib.ListN.{length, take, get_or, set, replicate}
use mathlib.Core.Bool.{Bool, true, false}
use mathlib.Core.List.{List}
use mathlib.Core.Path.{◌≡◌, refl, ap, sym, ◌∙◌}
use native.Mathlib.Omega.{arith}
use Rattle.frame.proofs.Picks.{by_test, pick_true, pick_false}
use Rattle.frame.proofs.Tests.{either}
use Rattle.frame.specs.Bytes.{pick}
use Rattle.frame.specs.Frames.{sum}
use Rattle.population.specs.Places.{nowhere}
use Rattle.population.specs.declared.places.Place.{Place}
use Rattle.report.proofs.Laid.{sum_next}
use Rattle.report.proofs.NotRun.{each_short}
use Rattle.report.specs.Report.{any_long, too_long, place_in, laid_out, places_of}

-- ---- how many have a place

pub placed_is : (n placed : ℕ) → placed ≡ min n 16 → placed ≡ pick (ltb 16 n) 16 n
placed_is n placed e =
    either (ltb 16 n) (λ many. rw (many, pick_true) (omega (arith, ltb-true 16 n many))) (λ few. rw (few, pick_false) (omega (arith, ltb-false 16 n few)))

most : (n : ℕ) → (pick (ltb 16 n) 16 n ≤ 16) × (pick (ltb 16 n) 16 n ≤ n)
most n =
    by_test (λ (k : ℕ). (k ≤ 16) × (k ≤ n)) (ltb 16 n) (λ h. (omega arith, omega (arith, ltb-true 16 n h)))
    (λ h. (omega (arith, ltb-false 16 n h), omega arith))

-- ---- the loop

-- the first i tags have their places, and `from` is behind the last of them
pub record LaidOut (sizes : List ℕ) (placed : ℕ) (places : List Place) (from i : ℕ) : Type 0 where
  pub laid : places ≡ laid_out sizes i
  pub behind : from ≡ sum (take i sizes)
  pub little : from ≤ 2048 * i
  pub within : i ≤ placed
  pub few : placed ≤ 16

module _ (sizes : List ℕ) (placed : ℕ) (is : placed ≡ pick (ltb 16 (length sizes)) 16 (length sizes)) where
  at_most : placed ≤ 16
  at_most = omega (arith, is, (most (length sizes)).0)

  pub at_first : LaidOut sizes placed (replicate 16 nowhere) 0 0
  unfolding laid_out sum
  at_first = record { laid = refl; behind = refl; little = omega arith; within = omega arith; few = at_most }

  pub one_there : (i : ℕ) → i < placed → (i < 16) × (i < length sizes)
  one_there i h = let m = most (length sizes) in (omega (arith, is, m.0), omega (arith, is, m.1))

  module _ (short : any_long sizes ≡ false) (places : List Place) (from i : ℕ) (l : LaidOut sizes placed places from i) (h : i < placed) where
    pub small : get_or sizes i 0 ≤ 2048
    small = each_short sizes short i (one_there i h).1

    pub one_more : LaidOut sizes placed (set places i record { from = from; size = get_or sizes i 0 }) (from + get_or sizes i 0) (i + 1)
    unfolding laid_out place_in
    one_more =
        let next : suc i ≡ i + 1 = omega arith in
        record {
          laid =
              ap (λ (r : List Place). set r i record { from = from; size = get_or sizes i 0 }) l.laid
              ∙ ap (λ (k : ℕ). set (laid_out sizes i) i record { from = k; size = get_or sizes i 0 }) l.behind
              ∙ ap (laid_out sizes) next;
          behind = ap (λ (k : ℕ). k + get_or sizes i 0) l.behind ∙ sym (sum_next sizes i) ∙ ap (λ (k : ℕ). sum (take k sizes)) next;
          little = omega (arith, l.little, small);
          within = omega arith;
          few = l.few;
        }

  pub all_laid : (places : List Place) (from i : ℕ) → LaidOut sizes placed places from i → placed ≤ i → places ≡ places_of sizes
  unfolding places_of
  all_laid places from i l h =
      let last : i ≡ placed = omega (arith, l.within) in
      l.laid ∙ ap (laid_out sizes) (last ∙ is)

-- ---- sizes of any length

module _ (sizes : List ℕ) (long : Bool) (is : long ≡ too_long 0 sizes) where
  -- no command is no long one: the sizes alone are tested
  sizes_only : long ≡ any_long sizes
  unfolding too_long
  sizes_only = is

  pub none_placed : long ≡ true → replicate 16 nowhere ≡ pick (any_long sizes) (replicate 16 nowhere) (places_of sizes)
  none_placed h = sym (simp (sym sizes_only ∙ h, pick_true))

  pub none_long : long ≡ false → any_long sizes ≡ false
  none_long h = sym sizes_only ∙ h

  pub placed_each : (places : List Place) → long ≡ false → places ≡ places_of sizes → places ≡ pick (any_long sizes) (replicate 16 nowhere) (places_of sizes)
  placed_each places h laid = laid ∙ sym (simp (none_long h, pick_false))
