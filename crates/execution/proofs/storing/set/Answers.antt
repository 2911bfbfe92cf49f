-- `set` meets its contract: the bytes are not there, or they are set behind the answer.
use mathlib.Core.Path.{refl}
use Rattle.execution.proofs.Executions.{undone, acted_good}
use Rattle.execution.specs.Reach.{has_named}
use Rattle.frame.proofs.Copies.{reaches_there}
use Rattle.frame.proofs.Tests.{not_holds, not_fails}
use Rattle.tag.specs.Answers.{answer, changed, is_error}
use Rattle.execution.proofs.storing.set.Goals as goal

pub returns-then-not-reaches : goal.returns-then-not-reaches
unfolding has_named
returns-then-not-reaches c = λ p. undone _ _ p _ (not_holds c.if-not-reaches.true-raw c.reaches.ensures)

pub put_bytes-requires : goal.put_bytes-requires
put_bytes-requires c =
    reaches_there _ _ _ (not_fails c.if-not-reaches.false-raw c.reaches.ensures)

pub returns : goal.returns
unfolding has_named answer changed is_error
returns c =
    λ p.
    acted_good _ _ p _ (not_fails c.if-not-reaches.false-raw c.reaches.ensures) _ _ _ c.done-length.ensures c.put_bytes.ensures refl
