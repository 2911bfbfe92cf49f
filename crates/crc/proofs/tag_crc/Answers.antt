-- `tag_crc` meets its contract: the CRC's own register is complemented.
use Rattle.crc.specs.Crc.{tag_crc}
use borrow.Author.Rules.{rules}
use Rattle.crc.proofs.tag_crc.Goals as goal

pub returns : goal.returns
unfolding tag_crc
returns c = search rules
