-- Laws of the first tag that passes a test.
use Prim.Native.Nat.{ℕ, zero, suc, ◌+◌, ◌-◌, ◌≤◌, ◌<◌}
use borrow.Author.Tests.{eqb-true, eqb-false}
use lib.Dec.{eqb}
use mathlib.Core.Bool.{Bool, true, false}
use mathlib.Core.List.{List}
use mathlib.Core.Path.{◌≡◌, refl, ap, ap₂, sym, ◌∙◌}
use native.Mathlib.Omega.{arith}
use Rattle.frame.proofs.Picks.{pick_true, pick_false, by_test}
use Rattle.frame.proofs.Tests.{either}
use Rattle.frame.specs.Bytes.{pick}
use Rattle.population.specs.Lowest.{tag_at, first_tag}
use Rattle.population.specs.Places.{place_at}
use Rattle.std.specs.Prelude.{Option, None, Some}
use Rattle.population.specs.declared.places.Place.{Place}

-- the number and the place of a tag are known from it
pub same_tags : (n k : ℕ) (p q : Place) → tag_at n p ≡ tag_at k q → (n ≡ k) × (p ≡ q)
same_tags n k p q e =
    let both : ◌≡◌ {A = ℕ × Place} (n, p) (k, q) = cc in
    (ap (λ (t : ℕ × Place). t.0) both, ap (λ (t : ℕ × Place). t.1) both)

-- ---- as a loop comes upon it, with tag i in front of it and n tags in all

module _ (test : ℕ → Bool) (places : List Place) where
  none_left : (i k : ℕ) → k ≡ 0 → first_tag test places i k ≡ None
  unfolding first_tag
  none_left i zero h = refl
  none_left i (suc k) h = absurd (omega arith)

  one_of : (i k : ℕ) → 0 < k → first_tag test places i k ≡ pick (test i) (Some (i, place_at places i)) (first_tag test places (i + 1) (k - 1))
  unfolding first_tag
  one_of i zero h = absurd (omega arith)
  one_of i (suc k) h =
      let m : k ≡ suc k - 1 = omega arith in
      ap (λ (n : ℕ). pick (test i) (Some (i, place_at places i)) (first_tag test places (i + 1) n)) m

  pub first_none : (i n : ℕ) → n ≤ i → first_tag test places i (n - i) ≡ None
  first_none i n h = none_left i (n - i) (omega arith)

  pub first_here : (i n : ℕ) → i < n → test i ≡ true → first_tag test places i (n - i) ≡ Some (i, place_at places i)
  first_here i n h t = one_of i (n - i) (omega arith) ∙ simp (t, pick_true)

  pub first_next : (i n : ℕ) → i < n → test i ≡ false → first_tag test places i (n - i) ≡ first_tag test places (i + 1) (n - (i + 1))
  first_next i n h t =
      let m : n - i - 1 ≡ n - (i + 1) = omega arith in
      one_of i (n - i) (omega arith) ∙ (simp (t, pick_false)) ∙ ap (λ (k : ℕ). first_tag test places (i + 1) k) m

-- ---- what it is: no tag, where none passes; else one that passes, and none before it

-- no number from i on passes, up to n and without it
abbrev pub NonePasses : (ℕ → Bool) → ℕ → ℕ → Type 0
NonePasses test i n = (j : ℕ) → i ≤ j → j < n → test j ≡ false

none_more : (test : ℕ → Bool) (i n : ℕ) → test i ≡ false → NonePasses test (i + 1) n → NonePasses test i n
none_more test i n t h j l m =
    either (eqb i j) (λ e. ap test (sym (eqb-true i j e)) ∙ t) (λ e. h j (omega (arith, eqb-false i j e)) m)

pub first_cases : (test : ℕ → Bool) (places : List Place) (P : (Option (ℕ × Place)) → Type 0) (i k : ℕ)
    → (NonePasses test i (i + k) → P None)
    → ((n : ℕ) → i ≤ n → n < i + k → test n ≡ true → NonePasses test i n → P (Some (n, place_at places n)))
    → P (first_tag test places i k)
unfolding first_tag
first_cases test places P i zero none one = none (λ j l m. absurd (omega arith))
first_cases test places P i (suc k) none one =
    by_test P (test i)
    (λ t. one i (omega arith) (omega arith) t (λ j l m. absurd (omega arith)))
    (λ t. first_cases test places P (i + 1) k
    (λ h. none (none_more test i (i + suc k) t (λ j l m. h j l (omega arith))))
    (λ n l m passes h. one n (omega arith) (omega arith) passes (none_more test i n t h)))

-- two tests that agree
pub first_same : (test other : ℕ → Bool) (places : List Place) (i k : ℕ)
    → ((j : ℕ) → i ≤ j → j < i + k → test j ≡ other j)
    → first_tag test places i k ≡ first_tag other places i k
unfolding first_tag
first_same test other places i zero h = refl
first_same test other places i (suc k) h =
    ap₂ (λ (a : Bool) (r : (Option (ℕ × Place))). pick a (Some (i, place_at places i)) r) (h i (omega arith) (omega arith))
    (first_same test other places (i + 1) k (λ j l m. h j (omega arith) (omega arith)))
