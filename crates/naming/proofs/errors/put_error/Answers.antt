-- `put_error` meets its contract: nothing without room; else the byte and the words.
use Rattle.naming.proofs.Widths.{error_short}
use Rattle.std.proofs.Common.{rules}
use Rattle.text.proofs.Writing.{puts_within, within_nothing}
use Rattle.naming.proofs.errors.put_error.Goals as goal

pub returns-then-has_room : goal.returns-then-has_room
returns-then-has_room c = puts_within (search rules) c.put_error_text.ensures

pub returns-else-has_room : goal.returns-else-has_room
returns-else-has_room c = within_nothing _ _ _ (error_short _) (search rules)
