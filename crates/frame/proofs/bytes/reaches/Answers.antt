-- `reaches` meets its contract: the room that it compares with is the slice's length.
use Rattle.frame.specs.Bytes.{reaches}
use Rattle.frame.proofs.bytes.reaches.Goals as goal

pub returns : goal.returns
unfolding reaches
returns c = c.fits.ensures
