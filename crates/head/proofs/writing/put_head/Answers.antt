-- `put_head` meets its contract: one line behind the other.
use mathlib.Core.Path.{ap}
use native.Mathlib.Omega.{arith}
use Rattle.head.specs.Commands.{commands_text}
use Rattle.head.specs.Head.{title_line, column_lines, head_of}
use Rattle.text.proofs.Writing.{word_put, put_behind, same_piece, more_room}
use Rattle.head.proofs.writing.put_head.Goals as goal

pub returns : goal.returns
unfolding title_line column_lines head_of
returns c =
    let taken = same_piece (ap commands_text c.commands_in.ensures) c.put_commands.ensures in
    let input = put_behind (put_behind (put_behind (word_put c.put_text.ensures) c.put_input.ensures) taken) (word_put c.put_text-2.ensures) in
    more_room 2048 (omega arith) (put_behind (put_behind input c.put_tags.ensures) (word_put c.put_text-3.ensures))
