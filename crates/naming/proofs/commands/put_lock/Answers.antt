-- `put_lock` meets its contract: the mask and the action.
use Rattle.naming.specs.Commands.{lock_text}
use Rattle.text.proofs.Writing.{word_put, put_behind}
use Rattle.naming.proofs.commands.put_lock.Goals as goal

pub returns : goal.returns
unfolding lock_text
returns c =
    put_behind (put_behind (put_behind (word_put c.put_text.ensures) c.put_bits.ensures) (word_put c.put_text-2.ensures)) c.put_bits-2.ensures
