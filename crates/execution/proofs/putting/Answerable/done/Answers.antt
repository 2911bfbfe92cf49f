-- `done` meets its contract: the tail and a 00, and the frame round them.
use lib.ListN.{length-set}
use native.Mathlib.Omega.{arith}
use Rattle.execution.proofs.Pieces.{done_closed}
use Rattle.execution.proofs.putting.Answerable.done.Goals as goal

pub bounds-output-next : goal.bounds-output-next
bounds-output-next c = omega (arith, c.put_tail-next.ensures.upper_bound)

pub shape_of-output : goal.shape_of-output
shape_of-output c = omega (arith, length-set c.put_tail-next.new.output c.put_tail-next.result 0)

pub returns : goal.returns
returns c =
    done_closed _ c.requires _ _ _ _ c.put_tail-next.ensures.put c.put_tail-next.ensures.upper_bound _ _ c.close.ensures
