-- `lay_out` meets its contract: each turn gives one more tag its place, behind those before it.
use native.Mathlib.Omega.{arith}
use Rattle.console.proofs.Placing.{placed_is, at_first, one_there, small, one_more, all_laid}
use Rattle.console.proofs.places.lay_out.Goals as goal

pub loop-i-init : goal.loop-i-init
loop-i-init c = at_first _ _ (placed_is _ _ c.min-placed.ensures)

pub overflow_cast-size : goal.overflow_cast-size
overflow_cast-size c =
    omega (arith, small _ _ (placed_is _ _ c.min-placed.ensures) c.requires _ _ _ c.loop-i.invariant c.loop-i-test.true)

pub overflow_add-from : goal.overflow_add-from
overflow_add-from c =
    let l = c.loop-i.invariant in
    let placed = placed_is _ _ c.min-placed.ensures in
    omega (arith, l.little, small _ _ placed c.requires _ _ _ l c.loop-i-test.true, (one_there c.args.sizes.now _ placed _ c.loop-i-test.true).0)

pub loop-i-preserved : goal.loop-i-preserved
loop-i-preserved c = one_more _ _ (placed_is _ _ c.min-placed.ensures) c.requires _ _ _ c.loop-i.invariant c.loop-i-test.true

pub returns : goal.returns
returns c = all_laid _ _ (placed_is _ _ c.min-placed.ensures) _ _ _ c.loop-i.invariant c.loop-i-test.false
