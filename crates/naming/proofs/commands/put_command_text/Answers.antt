-- `put_command_text` meets its contract: the code, then the fields.
use Rattle.naming.specs.Commands.{command_text}
use Rattle.text.proofs.Writing.{hex_put, put_behind}
use Rattle.naming.proofs.commands.put_command_text.Goals as goal

pub returns : goal.returns
unfolding command_text
returns c = put_behind (hex_put _ c.put_hex.ensures) c.put_fields.ensures
