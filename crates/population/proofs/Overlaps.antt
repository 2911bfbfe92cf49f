-- Two places that have no byte in common: the one ends before the other begins.
use Prim.Native.Nat.{ℕ, ◌+◌, ◌≤◌, ◌<◌}
use borrow.Author.Tests.{leb-true, leb-false, le-leb}
use lib.Dec.{leb}
use mathlib.Core.Bool.{true}
use mathlib.Core.Path.{◌≡◌}
use native.Mathlib.Omega.{arith}
use Rattle.frame.proofs.Tests.{or_first, or_second, or_cases, either}
use Rattle.population.specs.Claims.{Holds}
use Rattle.population.specs.Places.{apart}
use Rattle.population.specs.declared.places.Place.{Place}

module _ (p q : Place) where
  -- a proof by which of the two comes first
  pub apart_cases {ℓ} : {C : Type ℓ} → apart p q ≡ true → (p.from + p.size ≤ q.from → C) → (q.from + q.size ≤ p.from → C) → C
  unfolding apart
  apart_cases h first second =
      or_cases (leb (p.from + p.size) q.from) (leb (q.from + q.size) p.from) h (λ e. first (leb-true _ _ e)) (λ e. second (leb-true _ _ e))

  pub apart_first : p.from + p.size ≤ q.from → apart p q ≡ true
  unfolding apart
  apart_first h = or_first (leb (p.from + p.size) q.from) _ (le-leb _ _ h)

  pub apart_second : q.from + q.size ≤ p.from → apart p q ≡ true
  unfolding apart
  apart_second h = or_second (leb (p.from + p.size) q.from) _ (le-leb _ _ h)

  pub none_shared : apart p q ≡ true → (k : ℕ) → Holds p k → Holds q k → ⊥
  none_shared h k a b = apart_cases h (λ e. omega arith) (λ e. omega arith)

  -- of two places that each have a byte
  pub shared_none : 0 < p.size → 0 < q.size → ((k : ℕ) → Holds p k → Holds q k → ⊥) → apart p q ≡ true
  shared_none some other none =
      either (leb (p.from + p.size) q.from) (λ e. apart_first (leb-true _ _ e))
      (λ e. either (leb (q.from + q.size) p.from) (λ f. apart_second (leb-true _ _ f))
      (λ f.
      let a : q.from < p.from + p.size = leb-false _ _ e in
      let b : p.from < q.from + q.size = leb-false _ _ f in
      either (leb p.from q.from)
      (λ g. absurd (none q.from (leb-true _ _ g, a) (omega arith, omega arith)))
      (λ g. let l : q.from < p.from = leb-false _ _ g in absurd (none p.from (omega arith, omega arith) (omega arith, b)))))

pub apart_sym : (p q : Place) → apart p q ≡ true → apart q p ≡ true
apart_sym p q h = apart_cases p q h (λ e. apart_second q p e) (λ e. apart_first q p e)
