-- `kill_standing_to` meets its contract: the kill password stands at the start of Reserved.
use Rattle.image.specs.Image.{bank_at, view, kill_password}
use Rattle.tag.specs.Locks.{kill_standing}
use Rattle.tag.proofs.acts.kill_standing_to.Goals as goal

pub returns : goal.returns
unfolding kill_standing kill_password view bank_at
returns c = simp (c.kill_standing_of.ensures, c.double_at.ensures, c.from.ensures, c.number_at.ensures)
