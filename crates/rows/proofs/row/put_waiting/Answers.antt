-- `put_waiting` meets its contract: nothing without room; else its row.
use Rattle.std.proofs.Common.{rules}
use Rattle.rows.proofs.RowTexts.{waiting_short}
use Rattle.text.proofs.Writing.{puts_within, within_nothing}
use Rattle.rows.proofs.row.put_waiting.Goals as goal

pub returns-then-has_room : goal.returns-then-has_room
returns-then-has_room c = puts_within (search rules) c.put_waiting_row.ensures

pub returns-else-has_room : goal.returns-else-has_room
returns-else-has_room c = within_nothing _ _ _ (waiting_short _ _) (search rules)
