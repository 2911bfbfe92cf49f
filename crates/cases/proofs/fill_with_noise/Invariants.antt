-- `fill_with_noise` is safe and ends: each turn moves on by a byte.
use Prim.Native.Nat.{◌-◌}
use lib.ListN.{length}
use mathlib.Core.Path.{◌≡◌}
use Rattle.cases.proofs.fill_with_noise.Given as goal

abbrev pub invariant-loop-i : goal.invariant-loop-i
invariant-loop-i l = length l.commands ≡ length l.initial.commands

abbrev pub decreases-loop-i : goal.decreases-loop-i
decreases-loop-i l = length l.commands - l.i
