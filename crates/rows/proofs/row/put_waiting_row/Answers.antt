-- `put_waiting_row` meets its contract: a row with its boxes, and each column laid over it.
use Rattle.rows.proofs.RowPuts.{waiting_row_put}
use Rattle.text.proofs.Writing.{word_put}
use Rattle.rows.proofs.row.put_waiting_row.Goals as goal

pub returns : goal.returns
returns c =
    waiting_row_put _ _ c.missing.ensures c.missing-2.ensures c.put_boxed.ensures (word_put c.put_text.ensures) c.put_range.ensures c.put_fate.ensures
    (word_put c.put_text-2.ensures)
