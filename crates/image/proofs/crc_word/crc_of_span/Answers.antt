-- `crc_of_span` meets its contract: the bytes that it works are those of the span that are there.
use mathlib.Core.Path.{◌∙◌}
use Rattle.image.proofs.CrcWords.{worked_bytes}
use Rattle.image.proofs.crc_word.crc_of_span.Goals as goal

pub returns : goal.returns
returns c = c.tag_crc.ensures ∙ rw (c.min-count.ensures, c.min-from.ensures) (worked_bytes c.args.image.now c.args.place.from c.args.place.count)
