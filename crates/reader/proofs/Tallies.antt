-- Laws of the tally: when it is full, and what a raised count is.
use Prim.Native.Nat.{ℕ, zero, suc, ◌+◌, ◌≤◌, ◌<◌}
use borrow.Author.Tests.{eq-eqb, ne_eqb, eqb-false}
use Rattle.std.proofs.Common.{eqb-true}
use lib.Bits.{bit_or, and_le_l, and_le_r, or_add_and}
use lib.Dec.{eqb}
use Prim.Native.Nat.{min}
use lib.ListN.{length, get_or}
use mathlib.Core.Bool.{Bool, true, false}
use mathlib.Core.List.{List, [], ◌∷◌}
use mathlib.Core.Path.{◌≡◌, refl}
use native.Mathlib.Omega.{arith}
use Rattle.frame.proofs.Picks.{pick_false, by_test}
use Rattle.frame.proofs.Tests.{or_neither}
use Rattle.frame.specs.Frames.{sum}
use Rattle.reader.specs.Tallies.{counts_of, limit, any_at_limit, full, raised}
use Rattle.reader.specs.declared.tally.Tally.{Tally}

-- ---- counts, one by one

pub at_limit : (n : ℕ) (counts : List ℕ) → n ≡ limit → any_at_limit (n ∷ counts) ≡ true
unfolding any_at_limit
at_limit n counts e = simp (eq-eqb n limit e)

pub not_at_limit : (n : ℕ) (counts : List ℕ) {b : Bool} → (n ≡ limit → ⊥) → any_at_limit counts ≡ b → any_at_limit (n ∷ counts) ≡ b
unfolding any_at_limit
not_at_limit n counts d e = simp (ne_eqb n limit d) e

-- no count is at the limit where all together are below it
pub few_counts : (counts : List ℕ) (n : ℕ) → sum counts ≤ n → n < limit → any_at_limit counts ≡ false
unfolding any_at_limit sum
few_counts [] n few small = refl
few_counts (m ∷ counts) n few small = simp (ne_eqb m limit (λ e. omega arith)) (few_counts counts n (omega arith) small)

-- nor where their bits together are below it
pub or_most_l : (a b : ℕ) → a ≤ bit_or a b
or_most_l a b = omega (arith, or_add_and a b, and_le_r a b)

pub or_most_r : (a b : ℕ) → b ≤ bit_or a b
or_most_r a b = omega (arith, or_add_and a b, and_le_l a b)

abbrev pub or_all : ℕ → List ℕ → ℕ
or_all n [] = n
or_all n (m ∷ counts) = or_all (bit_or n m) counts

below : (n : ℕ) (counts : List ℕ) → or_all n counts < limit → (n < limit) × (any_at_limit counts ≡ false)
unfolding any_at_limit
below n [] h = (h, refl)
below n (m ∷ counts) h =
    let rest : (bit_or n m < limit) × (any_at_limit counts ≡ false) = below (bit_or n m) counts h in
    (omega (arith, or_most_l n m, rest.0), not_at_limit m counts (λ e. omega (arith, or_most_r n m, rest.0, e)) rest.1)

pub few_bits : (n : ℕ) (counts : List ℕ) → or_all n counts < limit → any_at_limit (n ∷ counts) ≡ false
few_bits n counts h =
    let all : (n < limit) × (any_at_limit counts ≡ false) = below n counts h in
    not_at_limit n counts (λ e. omega (arith, all.0, e)) all.1

-- no count of a tally that is not full is at the limit: good 0, error 1, and the five reasons from 2 on
not_at : (counts : List ℕ) → any_at_limit counts ≡ false → (k : ℕ) → k < length counts → get_or counts k 0 ≡ limit → ⊥
unfolding any_at_limit
not_at [] h k there = absurd (omega arith)
not_at (n ∷ counts) h zero there = eqb-false _ _ (or_neither (eqb n limit) (any_at_limit counts) h).0
not_at (n ∷ counts) h (suc k) there = not_at counts (or_neither (eqb n limit) (any_at_limit counts) h).1 k (omega arith)

pub not_full : (t : Tally) → full t ≡ false → (k : ℕ) → k < 7 → get_or (counts_of t) k 0 ≡ limit → ⊥
unfolding full
not_full t h k there = not_at (counts_of t) h k there

-- ---- a raised count

pub raised_below : (n : ℕ) → (n ≡ limit → ⊥) → raised n ≡ n + 1
unfolding raised
raised_below n h = simp (ne_eqb n limit h, pick_false)

pub raised_most : (n : ℕ) → raised n ≤ n + 1
unfolding raised
raised_most n = by_test (λ (k : ℕ). k ≤ n + 1) (eqb n limit) (λ h. omega arith) (λ h. omega arith)

-- one more, or the most that 32 bits hold
pub saturates : (n : ℕ) → n < 4294967296 → min (n + 1) 4294967295 ≡ raised n
unfolding raised limit
saturates n fits =
    by_test (λ (k : ℕ). min (n + 1) 4294967295 ≡ k) (eqb n 4294967295)
    (λ h. let e : n ≡ 4294967295 = eqb-true n 4294967295 h in omega arith)
    (λ h. let e : (n ≡ 4294967295 → ⊥) = eqb-false n 4294967295 h in omega arith)
