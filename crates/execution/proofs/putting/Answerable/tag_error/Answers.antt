-- `tag_error` meets its contract: the byte and the tail, and the frame round them.
use lib.ListN.{length-set}
use native.Mathlib.Omega.{arith}
use Rattle.execution.proofs.Pieces.{tag_error_closed}
use Rattle.execution.proofs.putting.Answerable.tag_error.Goals as goal

pub put_tail-next-requires : goal.put_tail-next-requires
put_tail-next-requires c = simp length-set (omega arith)

pub shape_of-output : goal.shape_of-output
shape_of-output c =
    omega (arith, length-set c.args.output.now 5 c.from.result)

pub returns : goal.returns
returns c =
    tag_error_closed _ c.requires _ _ _ c.from.ensures _ _ c.put_tail-next.ensures.put c.put_tail-next.ensures.upper_bound _ _ c.close.ensures
