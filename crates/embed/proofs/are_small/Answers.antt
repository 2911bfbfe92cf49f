-- `are_small` meets its contract. The loop's invariant: the first i numbers are small enough.
use mathlib.Core.Path.{◌≡◌, refl, ap, sym, ◌∙◌}
use native.Mathlib.Omega.{arith}
use Rattle.population.proofs.Below.{none_below}
use Rattle.population.specs.Below.{all_below}
use Rattle.reader.specs.Tallies.{limit}
use Rattle.embed.proofs.Placing.{far_one, small_more}
use Rattle.embed.specs.Placed.{small_at}
use Rattle.embed.proofs.are_small.Goals as goal

pub loop-i-init : goal.loop-i-init
loop-i-init c = none_below _ 0 refl

pub returns-then-numbers-i-gt-LIMIT : goal.returns-then-numbers-i-gt-LIMIT
unfolding limit
returns-then-numbers-i-gt-LIMIT c = far_one _ _ _ c.loop-i-test.true c.if-numbers-i-gt-LIMIT.true

pub loop-i-preserved : goal.loop-i-preserved
unfolding limit
loop-i-preserved c = small_more _ _ c.loop-i.invariant c.if-numbers-i-gt-LIMIT.false

pub returns : goal.returns
returns c =
    let all : c.loop-i.i ≡ c.args.n = omega arith in
    sym c.loop-i.invariant ∙ ap (all_below (small_at _)) all
