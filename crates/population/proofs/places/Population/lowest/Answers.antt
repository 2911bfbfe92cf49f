use mathlib.Core.Path.{sym, ◌∙◌}
use Rattle.frame.proofs.Tests.{holds, fails}
use Rattle.population.proofs.Firsts.{first_none, first_here, first_next}
use Rattle.population.proofs.Selects.{lowest_many, lowest_few}
use Rattle.population.specs.Places.{place_at}
use Rattle.population.specs.Lowest.{selected_at}
use Rattle.population.proofs.places.Population.lowest.Goals as goal

pub returns-then-self-gt16 : goal.returns-then-self-gt16
returns-then-self-gt16 c = lowest_many _ _ _ _ _ c.if-self-gt16.true

pub loop-i-init : goal.loop-i-init
loop-i-init c = lowest_few _ _ _ _ _ c.if-self-gt16.false

pub returns-then-is_selected : goal.returns-then-is_selected
unfolding selected_at place_at
returns-then-is_selected c =
    sym (c.loop-i.invariant ∙ first_here _ _ _ _ c.loop-i-test.true (holds c.if-is_selected.true c.is_selected.ensures))

pub loop-i-preserved : goal.loop-i-preserved
unfolding selected_at place_at
loop-i-preserved c = c.loop-i.invariant ∙ first_next _ _ _ _ c.loop-i-test.true (fails c.if-is_selected.false c.is_selected.ensures)

pub returns : goal.returns
returns c = sym (c.loop-i.invariant ∙ first_none _ _ _ _ c.loop-i-test.false)
