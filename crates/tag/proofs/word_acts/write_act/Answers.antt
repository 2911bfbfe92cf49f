-- `write_act` meets its contract: where no check fails, the words are where their bank has them.
use Rattle.frame.proofs.Picks.{pick_false}
use Rattle.image.specs.Image.{word_at}
use Rattle.tag.specs.Commands.{write_act}
use Rattle.tag.proofs.word_acts.write_act.Goals as goal

pub returns : goal.returns
unfolding write_act word_at
returns c =
    simp (
      ← c.is_outside.ensures,
      c.if-is_outside.false,
      ← c.may_write.ensures,
      c.if-not-may_write.false-raw,
      ← c.is_naming_crc.ensures,
      c.if-is_naming_crc.false,
      ← c.is_length_broken.ensures,
      c.if-is_length_broken.false,
      pick_false,
      c.from.ensures,
      c.bank_of.ensures,
    )
