-- Laws of a test of every number below n.
use Prim.Native.Nat.{ℕ, zero, suc, ◌+◌, ◌<◌}
use borrow.Author.Tests.{eqb-true, eqb-false}
use lib.Dec.{eqb}
use mathlib.Core.Bool.{Bool, true, false, true≢false}
use mathlib.Core.Path.{◌≡◌, refl, ap, sym, ◌∙◌}
use native.Mathlib.Omega.{arith}
use Rattle.frame.proofs.Tests.{and_left, and_right, and_both, either}
use Rattle.population.specs.Below.{all_below}

module _ (test : ℕ → Bool) where
  pub none_below : (n : ℕ) → n ≡ 0 → all_below test n ≡ true
  unfolding all_below
  none_below zero h = refl
  none_below (suc n) h = absurd (omega arith)

-- ---- number by number

pub below_each : (test : ℕ → Bool) (n : ℕ) → all_below test n ≡ true → (k : ℕ) → k < n → test k ≡ true
unfolding all_below
below_each test zero h k l = absurd (omega arith)
below_each test (suc n) h k l =
    either (eqb k n)
    (λ e. ap test (eqb-true k n e) ∙ and_left (test n) (all_below test n) h)
    (λ e. below_each test n (and_right (test n) (all_below test n) h) k (omega (arith, eqb-false k n e)))

pub below_all : (test : ℕ → Bool) (n : ℕ) → ((k : ℕ) → k < n → test k ≡ true) → all_below test n ≡ true
unfolding all_below
below_all test zero h = refl
below_all test (suc n) h = and_both (test n) (all_below test n) (h n (omega arith)) (below_all test n (λ k l. h k (omega arith)))

-- one more at the top
pub below_more : (test : ℕ → Bool) (n : ℕ) → all_below test n ≡ true → test n ≡ true → all_below test (n + 1) ≡ true
below_more test n h t =
    below_all test (n + 1)
    (λ k l. either (eqb k n) (λ e. ap test (eqb-true k n e) ∙ t) (λ e. below_each test n h k (omega (arith, eqb-false k n e))))

-- one that fails
pub below_not : (test : ℕ → Bool) (n k : ℕ) → k < n → test k ≡ false → all_below test n ≡ false
below_not test n k l t =
    either (all_below test n)
    (λ h. let z : true ≡ false = sym (below_each test n h k l) ∙ t in absurd (true≢false z))
    (λ h. h)
