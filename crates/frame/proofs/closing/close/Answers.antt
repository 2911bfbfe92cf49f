-- `close` meets its contract: the stores are the frame's bytes round the parameters, or there are none.
use Rattle.std.proofs.Common.{arith, length-set}
use Rattle.frame.proofs.Closings.{unclosed_long, unclosed_room, closed_framed}
use Rattle.frame.proofs.closing.close.Goals as goal

pub returns-then-pl-gt129 : goal.returns-then-pl-gt129
returns-then-pl-gt129 c = unclosed_long _ _ _ _ c.if-pl-gt129.true

pub returns-then-output-pl : goal.returns-then-output-pl
returns-then-output-pl c = unclosed_room _ _ _ _ c.if-pl-gt129.false c.if-output-pl.true

pub bounds-output-1 : goal.bounds-output-1
bounds-output-1 c = simp length-set (omega arith)

pub bounds-output-2 : goal.bounds-output-2
bounds-output-2 c = simp length-set (omega arith)

pub bounds-output-3 : goal.bounds-output-3
bounds-output-3 c = simp length-set (omega arith)

pub bounds-output-4 : goal.bounds-output-4
bounds-output-4 c = simp length-set (omega arith)

pub slice_bounds-check-end : goal.slice_bounds-check-end
slice_bounds-check-end c = simp length-set (omega arith)

pub bounds-output-pl : goal.bounds-output-pl
bounds-output-pl c = simp length-set (omega arith)

pub bounds-output-pl-2 : goal.bounds-output-pl-2
bounds-output-pl-2 c = simp length-set (omega arith)

pub shape_of-output : goal.shape_of-output
shape_of-output c = simp length-set

pub returns : goal.returns
returns c = closed_framed _ _ _ _ (omega arith) (omega arith) _ c.check-total.ensures
