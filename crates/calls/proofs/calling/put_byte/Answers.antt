-- `put_byte` meets its contract: one byte, and the frame round it.
use Rattle.calls.proofs.Doing.{byte_closed}
use lib.ListN.{length-set}
use native.Mathlib.Omega.{arith}
use Rattle.calls.proofs.calling.put_byte.Goals as goal

pub shape_of-output : goal.shape_of-output
shape_of-output c =
    omega (arith, length-set c.args.output.now 5 c.args.b)

pub returns : goal.returns
returns c =
    byte_closed _ c.requires _ _ _ _ c.close.ensures
