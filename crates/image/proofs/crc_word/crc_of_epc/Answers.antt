-- `crc_of_epc` meets its contract: the span is that of the PC and the EPC.
use Rattle.image.specs.Image.{crc_word, pc_and_epc, word_at, epc_length}
use Rattle.image.proofs.crc_word.crc_of_epc.Goals as goal

pub returns : goal.returns
unfolding crc_word pc_and_epc word_at epc_length
returns c = rw (c.crc_of_span.ensures, c.epc_span.ensures.from_is, c.epc_span.ensures.count_is)
