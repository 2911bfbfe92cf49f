-- `put_error_row` meets its contract: a row with its boxes, and each column laid over it.
use native.Mathlib.Omega.{arith}
use Rattle.rows.proofs.RowPuts.{error_row_put}
use Rattle.text.proofs.Writing.{decimal_put}
use Rattle.rows.proofs.row.put_error_row.Goals as goal

pub returns : goal.returns
returns c =
    error_row_put _ _ _ _ _ (omega arith) (omega arith) c.put_boxed.ensures c.put_right.ensures
    (decimal_put (omega arith) c.put_decimal.ensures) c.put_command.ensures
    c.put_error.ensures
