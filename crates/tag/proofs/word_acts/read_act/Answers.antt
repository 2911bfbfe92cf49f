-- `read_act` meets its contract: where no check fails, the words are where their bank has them.
use Rattle.frame.proofs.Picks.{pick_false}
use Rattle.image.specs.Image.{word_at}
use Rattle.tag.specs.Commands.{read_act}
use Rattle.tag.proofs.word_acts.read_act.Goals as goal

pub returns : goal.returns
unfolding read_act word_at
returns c =
    simp (
      ← c.is_outside.ensures,
      c.if-is_outside.false,
      ← c.may_read.ensures,
      c.if-not-may_read.false-raw,
      pick_false,
      c.from.ensures,
      c.bank_of.ensures,
    )
