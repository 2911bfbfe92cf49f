-- `fill_with_noise` is safe and ends: each turn moves on by a byte.
use lib.ListN.{length-set}
use native.Mathlib.Omega.{arith}
use Rattle.cases.proofs.fill_with_noise.Goals as goal

pub loop-i-smaller : goal.loop-i-smaller
loop-i-smaller c = simp length-set (omega arith)

pub loop-i-preserved : goal.loop-i-preserved
loop-i-preserved c = simp length-set (omega arith)
