-- `reader_crc` meets its contract: the register is handed out as it is.
use Rattle.crc.specs.Crc.{reader_crc}
use Rattle.crc.specs.Tables.{polynomial_of}
use Rattle.crc.proofs.lookup.reader_crc.Goals as goal

pub returns : goal.returns
unfolding reader_crc polynomial_of
returns c = c.bound_crc.ensures
