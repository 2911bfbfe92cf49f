-- `plain_error` meets its contract: one byte, and the frame round it.
use lib.ListN.{length-set}
use native.Mathlib.Omega.{arith}
use Rattle.execution.proofs.Pieces.{plain_closed}
use Rattle.execution.proofs.answers.plain_error.Goals as goal

pub shape_of-output : goal.shape_of-output
shape_of-output c = omega (arith, length-set c.args.output.now 5 c.from.result)

pub returns : goal.returns
returns c = plain_closed _ c.requires _ _ c.from.ensures _ _ c.close.ensures
