use mathlib.Core.Path.{sym, ◌∙◌}
use Rattle.frame.proofs.Tests.{holds, fails}
use Rattle.population.proofs.Populations.{alone_decides, not_apart}
use Rattle.population.specs.Places.{place_at}
use Rattle.population.proofs.places.Population.is_good_at.Goals as goal

pub returns-then-is_apart_below : goal.returns-then-is_apart_below
unfolding place_at
returns-then-is_apart_below c =
    alone_decides _ _ _ (holds c.if-is_apart_below.true c.is_apart_below.ensures) _ c.is_good_in.ensures

pub returns-else-is_apart_below : goal.returns-else-is_apart_below
returns-else-is_apart_below c =
    c.if-is_apart_below.false ∙ sym (not_apart _ _ _ (fails c.if-is_apart_below.false c.is_apart_below.ensures))
