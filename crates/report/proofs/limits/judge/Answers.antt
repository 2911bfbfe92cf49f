-- `judge` meets its contract: what can't be read comes first.
use Rattle.report.proofs.NotRun.{not_readable, readable_long, readable_fit}
use Rattle.report.proofs.limits.judge.Goals as goal

pub returns-then-not-readable : goal.returns-then-not-readable
returns-then-not-readable c = not_readable _ _ _ c.if-not-readable.true-raw

pub returns-then-too_long : goal.returns-then-too_long
returns-then-too_long c = readable_long _ _ _ _ c.if-not-readable.false-raw c.if-too_long.true c.too_long.ensures

pub returns : goal.returns
returns c = readable_fit _ _ _ _ c.if-not-readable.false-raw c.if-too_long.false c.too_long.ensures
