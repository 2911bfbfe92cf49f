-- `dropped_in` meets its contract: the five counts, added up.
use Rattle.std.proofs.Common.{rules}
use Rattle.rows.specs.Rows.{dropped_in}
use Rattle.rows.proofs.row.dropped_in.Goals as goal

pub returns-clause-value : goal.returns-clause-value
unfolding dropped_in
returns-clause-value c = search rules
