-- `kept` meets its contract: none are where they may not go.
use Rattle.failures.proofs.Moves.{kept_is, kept_none}
use Rattle.frame.proofs.Tests.{holds, fails}
use mathlib.Core.Path.{sym}
use Rattle.failures.proofs.records.kept.Goals as goal

pub returns-then-may_acknowledge : goal.returns-then-may_acknowledge
returns-then-may_acknowledge c = sym (kept_is _ _ _ (holds c.if-may_acknowledge.true c.may_acknowledge.ensures))

pub returns : goal.returns
returns c = sym (kept_none _ _ _ (fails c.if-may_acknowledge.false c.may_acknowledge.ensures))
