-- `put_item` meets its contract: nothing without room; else rows of drops, or that of an error.
use Rattle.std.proofs.Common.{rules}
use Rattle.rows.proofs.RowTexts.{item_short, drops_item, error_item}
use Rattle.text.proofs.Writing.{puts_within, within_nothing}
use Rattle.rows.proofs.row.put_item.Goals as goal

pub returns-then-not-has_room : goal.returns-then-not-has_room
returns-then-not-has_room c = within_nothing _ _ _ (item_short _ _ _ _) (search rules)

pub returns-then-item-eq0 : goal.returns-then-item-eq0
returns-then-item-eq0 c = puts_within (search rules) (drops_item _ _ _ _ c.if-item-eq0.true c.put_drop_rows.ensures)

pub returns-else-item-eq0 : goal.returns-else-item-eq0
returns-else-item-eq0 c = puts_within (search rules) (error_item _ _ _ _ c.if-item-eq0.false c.put_error_row.ensures)
