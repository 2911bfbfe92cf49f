-- `places_of` meets its contract: `lay_out` is asked only where no tag is too long.
use Rattle.console.proofs.Placing.{none_placed, none_long, placed_each}
use Rattle.console.proofs.places.places_of.Goals as goal

pub returns-then-too_long : goal.returns-then-too_long
returns-then-too_long c = none_placed _ _ c.too_long.ensures c.if-too_long.true

pub lay_out-requires : goal.lay_out-requires
lay_out-requires c = none_long _ _ c.too_long.ensures c.if-too_long.false

pub returns : goal.returns
returns c = placed_each _ _ c.too_long.ensures _ c.if-too_long.false c.lay_out.ensures
