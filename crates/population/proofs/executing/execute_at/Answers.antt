use native.Mathlib.Omega.{arith}
use Rattle.frame.proofs.Copies.{reaches_there}
use Rattle.frame.proofs.Tests.{holds, fails}
use Rattle.population.proofs.Executes.{not_there, ran_at}
use Rattle.population.specs.Places.{inside}
use Rattle.population.proofs.executing.execute_at.Goals as goal

pub returns-then-not-reaches : goal.returns-then-not-reaches
unfolding inside
returns-then-not-reaches c = not_there _ _ _ _ _ (fails c.if-not-reaches.true c.reaches.ensures)

pub overflow_add-to : goal.overflow_add-to
overflow_add-to c = omega (arith, reaches_there _ _ _ (holds c.if-not-reaches.false c.reaches.ensures))

pub slice_bounds-execute-end : goal.slice_bounds-execute-end
slice_bounds-execute-end c = omega (arith, reaches_there _ _ _ (holds c.if-not-reaches.false c.reaches.ensures))

pub returns : goal.returns
unfolding inside
returns c =
    ran_at _ _ _ _ _ (holds c.if-not-reaches.false c.reaches.ensures) _ _ _ c.execute.auto.image c.execute.ensures
