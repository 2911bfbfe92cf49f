-- `standing_to` meets its contract: the access password stands four bytes behind the start of Reserved.
use Rattle.image.specs.Image.{bank_at, view, access_password}
use Rattle.tag.specs.Locks.{standing}
use Rattle.tag.proofs.acts.standing_to.Goals as goal

pub returns : goal.returns
unfolding standing access_password view bank_at
returns c = simp (c.standing_of.ensures, c.double_at.ensures, c.from.ensures, c.number_at.ensures)
