-- `keep` meets its contract.
use mathlib.Core.Path.{refl}
use Rattle.embed.specs.Kept.{kept}
use Rattle.embed.proofs.keep.Goals as goal

pub returns : goal.returns
unfolding kept
returns c = refl
