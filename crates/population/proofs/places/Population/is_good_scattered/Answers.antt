use mathlib.Core.Path.{refl}
use native.Mathlib.Omega.{arith}
use Rattle.frame.proofs.Tests.{holds, fails}
use Rattle.population.proofs.Below.{none_below, below_more}
use Rattle.population.proofs.Populations.{population_not, population_is}
use Rattle.population.proofs.places.Population.is_good_scattered.Goals as goal

pub loop-i-init : goal.loop-i-init
loop-i-init c = none_below _ 0 refl

pub returns-then-not-is_good_at : goal.returns-then-not-is_good_at
returns-then-not-is_good_at c =
    population_not _ _ _ c.requires _ c.loop-i-test.true (fails c.if-not-is_good_at.true c.is_good_at.ensures)

pub loop-i-preserved : goal.loop-i-preserved
loop-i-preserved c = below_more _ _ c.loop-i.invariant (holds c.if-not-is_good_at.false c.is_good_at.ensures)

pub returns : goal.returns
returns c = population_is _ _ _ c.requires _ (omega arith) c.loop-i-test.false c.loop-i.invariant
