-- `put_bits` meets its contract: two bytes in hex.
use Rattle.naming.specs.Commands.{bits_text}
use Rattle.text.proofs.Writing.{hex_put, put_behind}
use Rattle.naming.proofs.commands.put_bits.Goals as goal

pub returns : goal.returns
unfolding bits_text
returns c = put_behind (hex_put _ c.put_hex.ensures) (hex_put _ c.put_hex-2.ensures)
