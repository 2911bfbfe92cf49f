-- `put_blank` meets its contract: one row, two or three.
use native.Mathlib.Omega.{arith}
use Rattle.rows.proofs.Layers.{one_row, two_rows, three_rows}
use Rattle.rows.proofs.columns.put_blank.Goals as goal

pub returns-then-reasons-le2 : goal.returns-then-reasons-le2
returns-then-reasons-le2 c = one_row _ c.if-reasons-le2.true c.put_boxed.ensures

pub returns-then-reasons-le4 : goal.returns-then-reasons-le4
returns-then-reasons-le4 c = two_rows _ (omega (arith, c.if-reasons-le2.false)) c.if-reasons-le4.true c.put_boxed.ensures c.put_plain.ensures

pub returns : goal.returns
returns c = three_rows _ (omega (arith, c.if-reasons-le4.false)) c.put_boxed.ensures c.put_plain.ensures c.put_plain-2.ensures
