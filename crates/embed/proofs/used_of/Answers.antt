-- `used_of` meets its contract.
use Rattle.embed.proofs.Placing.{used_least}
use mathlib.Core.Path.{◌∙◌}
use Rattle.embed.proofs.used_of.Goals as goal

pub returns : goal.returns
returns c = c.min.ensures ∙ used_least _
