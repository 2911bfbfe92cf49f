-- `miss` meets its contract: the plain error, counted.
use Rattle.calls.proofs.Doing.{tells}
use Rattle.calls.proofs.calling.miss.Goals as goal

pub returns : goal.returns
returns c = tells _ _ _ _ c.put_byte-length.ensures _ _ _ _ c.with_error.ensures
