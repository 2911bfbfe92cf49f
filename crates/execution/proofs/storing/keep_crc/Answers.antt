-- `keep_crc` meets its contract: only a Write to the EPC bank stores the CRC word.
use borrow.Author.Tests.{eq-eqb, ne_eqb}
use mathlib.Core.Path.{◌∙◌}
use Rattle.frame.proofs.Picks.{pick_true, pick_false}
use Rattle.image.specs.Image.{with_crc}
use Rattle.tag.specs.Answers.{crc_kept}
use Rattle.execution.proofs.storing.keep_crc.Goals as goal

pub returns-then-bank-ne1 : goal.returns-then-bank-ne1
unfolding crc_kept
returns-then-bank-ne1 c = simp (ne_eqb _ _ c.if-bank-ne1.true, pick_false)

pub returns : goal.returns
unfolding crc_kept with_crc
returns c =
    c.put_bytes.ensures
    ∙ simp (c.from.ensures, c.crc_of_epc-crc.ensures, eq-eqb _ _ c.if-bank-ne1.false, pick_true)
