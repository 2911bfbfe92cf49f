-- `put_commands` meets its contract: the number, and the word for it.
use native.Mathlib.Omega.{arith}
use Rattle.head.specs.Commands.{commands_text}
use Rattle.text.proofs.Lengths.{either_short}
use Rattle.text.proofs.Writing.{decimal_put, word_put, put_behind, text_put}
use Rattle.head.proofs.commands.put_commands.Goals as goal

pub returns : goal.returns
unfolding commands_text
returns c =
    put_behind (put_behind (word_put c.put_text.ensures) (decimal_put (omega arith) c.put_decimal.ensures))
    (text_put 15 c.word_for.ensures (either_short _ 15 _ _ (omega arith) (omega arith)) c.put_text-2.ensures)
