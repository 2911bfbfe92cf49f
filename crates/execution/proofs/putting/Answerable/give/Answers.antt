-- `give` meets its contract: the words are not there, or the answer is the tail and these, and the frame round them.
use mathlib.Core.Path.{refl}
use native.Mathlib.Omega.{arith}
use Rattle.execution.proofs.Executions.{undone, acted_good}
use Rattle.execution.proofs.Pieces.{give_closed}
use Rattle.execution.proofs.ReachTests.{given_long, given_out, given_there}
use Rattle.frame.proofs.Copies.{reaches_there}
use Rattle.frame.proofs.Tests.{not_holds, not_fails}
use Rattle.tag.specs.Answers.{changed, is_error}
use Rattle.execution.proofs.putting.Answerable.give.Goals as goal

pub returns-then-n-gt64 : goal.returns-then-n-gt64
returns-then-n-gt64 c = λ p. undone _ _ p _ (given_long _ p _ _ c.if-n-gt64.true)

pub returns-then-not-reaches : goal.returns-then-not-reaches
returns-then-not-reaches c = λ p. undone _ _ p _ (given_out _ p _ _ (not_holds c.if-not-reaches.true-raw c.reaches.ensures))

pub overflow_add-next : goal.overflow_add-next
overflow_add-next c = omega (arith, c.put_tail-next.ensures.upper_bound)

pub returns : goal.returns
unfolding changed is_error
returns c =
    let there = not_fails c.if-not-reaches.false-raw c.reaches.ensures in
    λ p.
    acted_good _ _ p _ (given_there _ p _ _ c.if-n-gt64.false there) _ _ _
    (give_closed _ c.requires _ _ _ (reaches_there _ _ _ there) c.if-n-gt64.false _ _ c.put_tail-next.ensures.put c.put_tail-next.ensures.upper_bound
    _ c.copy.ensures _ _ c.close.ensures)
    refl
    refl
