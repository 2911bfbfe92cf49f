-- `raise` meets its contract: a sum that would not fit is the most that does.
use Rattle.std.proofs.Common.{arith, ◌∙◌}
use Rattle.reader.proofs.Tallies.{saturates}
use Rattle.reader.proofs.tally.raise.Goals as goal

pub returns : goal.returns
returns c = c.saturating_add.ensures ∙ saturates c.args.count (omega arith)
