-- `put_command` meets its contract: nothing without room; else the code and the fields.
use Rattle.naming.proofs.Widths.{command_64}
use Rattle.std.proofs.Common.{rules}
use Rattle.text.proofs.Writing.{puts_within, within_nothing}
use Rattle.naming.proofs.commands.put_command.Goals as goal

pub returns-then-has_room : goal.returns-then-has_room
returns-then-has_room c = puts_within (search rules) c.put_command_text.ensures

pub returns-else-has_room : goal.returns-else-has_room
returns-else-has_room c = within_nothing _ _ _ (command_64 _ _ _ c.well_formed.1.1.0) (search rules)
