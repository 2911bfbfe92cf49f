-- Bounds of lock pairs and of the bits that they make.
use Prim.Native.Nat.{ℕ, ◌+◌, ◌*◌, ◌/◌, ◌%◌, ◌<◌}
use mathlib.Core.Path.{◌≡◌}
use lib.Dec.{eqb}
use native.Mathlib.Omega.{arith}
use Rattle.frame.proofs.Picks.{by_test}
use Rattle.tag.specs.Locks.{pairs, bits_of, permalocked, new_bit, masked_pair, new_pair, new_pairs}
use Rattle.tag.specs.declared.locks.Pairs.{Pairs}

-- each pair has two bits
pub record Paired (p : Pairs) : Type 0 where
  pub kill_pair : p.kill < 4
  pub access_pair : p.access < 4
  pub epc_pair : p.epc < 4
  pub tid_pair : p.tid < 4
  pub user_pair : p.user < 4

pub pairs_small : (bits : ℕ) → Paired (pairs bits)
unfolding pairs
pairs_small bits =
    record { kill_pair = omega arith; access_pair = omega arith; epc_pair = omega arith; tid_pair = omega arith; user_pair = omega arith }

new_bit_small : (mask action old : ℕ) → action < 2 → old < 2 → new_bit mask action old < 2
unfolding new_bit
new_bit_small mask action old a o = by_test (λ n. n < 2) (eqb mask 1) (λ h. a) (λ h. o)

masked_pair_small : (mask action old : ℕ) → action < 4 → old < 4 → masked_pair mask action old < 4
unfolding masked_pair
masked_pair_small mask action old a o =
    omega (
      arith,
      new_bit_small (mask / 2) (action / 2) (old / 2) (omega arith) (omega arith),
      new_bit_small (mask % 2) (action % 2) (old % 2) (omega arith) (omega arith),
    )

new_pair_small : (mask action old : ℕ) → action < 4 → old < 4 → new_pair mask action old < 4
unfolding new_pair
new_pair_small mask action old a o = by_test (λ n. n < 4) (permalocked old) (λ h. o) (λ h. masked_pair_small mask action old a o)

pub new_pairs_small : (mask action old : Pairs) → Paired action → Paired old → Paired (new_pairs mask action old)
unfolding new_pairs
new_pairs_small mask action old a o =
    record {
      kill_pair = new_pair_small _ _ _ a.kill_pair o.kill_pair;
      access_pair = new_pair_small _ _ _ a.access_pair o.access_pair;
      epc_pair = new_pair_small _ _ _ a.epc_pair o.epc_pair;
      tid_pair = new_pair_small _ _ _ a.tid_pair o.tid_pair;
      user_pair = new_pair_small _ _ _ a.user_pair o.user_pair;
    }

pub pairs_of_bits : (p : Pairs) → Paired p → pairs (bits_of p) ≡ p
unfolding pairs bits_of
pairs_of_bits p s =
    let n : ℕ = p.kill * 256 + p.access * 64 + p.epc * 16 + p.tid * 4 + p.user in
    let kill : n / 256 % 4 ≡ p.kill = omega arith in
    let access : n / 64 % 4 ≡ p.access = omega arith in
    let epc : n / 16 % 4 ≡ p.epc = omega arith in
    let tid : n / 4 % 4 ≡ p.tid = omega arith in
    let user : n % 4 ≡ p.user = omega arith in
    λ i. record { kill = kill i; access = access i; epc = epc i; tid = tid i; user = user i }

pub bits_small : (p : Pairs) → Paired p → bits_of p < 1024
unfolding bits_of
bits_small p s = omega arith
