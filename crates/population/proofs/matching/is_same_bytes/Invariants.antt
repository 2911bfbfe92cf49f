use Prim.Native.Nat.{◌*◌, ◌≤◌}
use mathlib.Core.Path.{◌≡◌}
use Rattle.population.specs.Below.{all_below}
use Rattle.population.specs.Matching.{same_bit, same_bits}
use Rattle.population.proofs.matching.is_same_bytes.Given as goal

abbrev pub invariant-loop-k : goal.invariant-loop-k
invariant-loop-k l = (l.k ≤ l.count) × (same_bits l.image l.at l.selection (8 * l.count) ≡ all_below (same_bit l.image l.at l.selection) (8 * l.k))
