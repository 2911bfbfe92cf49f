-- `check` meets its contract: what is accumulated, with the sum of the rest, is the whole sum modulo 256.
use Rattle.std.proofs.Common.{arith}
use Rattle.frame.specs.Frames.{check_of}
use Rattle.frame.proofs.Sums.{sum_next, sum_behind}
use Rattle.frame.proofs.check.check.Goals as goal

pub loop-b-init : goal.loop-b-init
unfolding check_of
loop-b-init c = omega arith

pub loop-b-preserved : goal.loop-b-preserved
loop-b-preserved c = omega (arith, sum_next c.args.bytes.now c.loop-b.b-index c.loop-b-test.true)

pub returns : goal.returns
returns c = omega (arith, sum_behind c.args.bytes.now c.loop-b.b-index c.loop-b-test.false)
