-- `is_good` meets its contract: an image that is too short for a header is none.
use borrow.Author.Tests.{lt-leb}
use Rattle.frame.specs.Bytes.{all}
use Rattle.image.specs.Image.{good, good_header, view}
use Rattle.image.proofs.good.is_good.Goals as goal

pub returns-then-image-lt24 : goal.returns-then-image-lt24
unfolding good good_header view all
returns-then-image-lt24 c = simp (lt-leb 24 _ c.if-image-lt24.true)
