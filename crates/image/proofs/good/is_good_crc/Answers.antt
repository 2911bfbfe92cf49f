-- `is_good_crc` meets its contract: it works the CRC of the PC and the EPC, and holds it against EPC word 0.
use borrow.Author.Rules.{rules}
use Rattle.image.specs.Image.{word_at, epc_length, pc_and_epc, crc_word, good_crc}
use Rattle.image.proofs.good.is_good_crc.Goals as goal

pub returns : goal.returns
unfolding good_crc crc_word pc_and_epc word_at epc_length
returns c = search rules
