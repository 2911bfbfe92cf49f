use mathlib.Core.Path.{◌≡◌, refl, sym}
use native.Mathlib.Omega.{arith}
use Rattle.frame.proofs.Tests.{holds, fails}
use Rattle.population.proofs.Below.{none_below, below_more, below_not}
use Rattle.population.specs.Places.{apart_from, apart_below, place_at}
use Rattle.population.proofs.places.Population.is_apart_below.Goals as goal

pub loop-j-init : goal.loop-j-init
loop-j-init c = none_below _ 0 refl

pub returns-then-not-is_apart_from : goal.returns-then-not-is_apart_from
unfolding apart_below apart_from place_at
returns-then-not-is_apart_from c =
    sym (below_not _ _ c.loop-j.j c.loop-j-test.true (fails c.if-not-is_apart_from.true c.is_apart_from.ensures))

pub loop-j-preserved : goal.loop-j-preserved
unfolding apart_from place_at
loop-j-preserved c = below_more _ _ c.loop-j.invariant (holds c.if-not-is_apart_from.false c.is_apart_from.ensures)

pub returns : goal.returns
unfolding apart_below
returns c = let all : c.loop-j.j ≡ c.args.i = omega arith in sym (rw all at c.loop-j.invariant)
