-- `put_range` meets its contract: one number, or two.
use native.Mathlib.Omega.{arith}
use Rattle.rows.proofs.RowTexts.{range_one, range_two}
use Rattle.text.proofs.Writing.{decimal_put, word_put, put_behind}
use Rattle.rows.proofs.row.put_range.Goals as goal

pub returns-then-first-last : goal.returns-then-first-last
returns-then-first-last c =
    range_two _ _ c.if-first-last.true
    (put_behind (put_behind (decimal_put (omega arith) c.put_decimal.ensures) (word_put c.put_text.ensures))
    (decimal_put (omega arith) c.put_decimal-then-first-last.ensures))

pub returns-else-first-last : goal.returns-else-first-last
returns-else-first-last c = range_one _ _ c.if-first-last.false (decimal_put (omega arith) c.put_decimal.ensures)
