-- `are_places` meets its contract.
use borrow.Author.Tests.{ne_eqb}
use mathlib.Core.Path.{◌∙◌}
use native.Mathlib.Omega.{arith}
use Rattle.embed.proofs.Placing.{used_small, used_there, odd, even}
use Rattle.embed.proofs.are_places.Goals as goal

pub overflow_mul-used_of : goal.overflow_mul-used_of
overflow_mul-used_of c = omega (arith, used_small _ _ c.used_of.ensures)

pub are_small-requires : goal.are_small-requires
are_small-requires c = (omega (arith, used_small _ _ c.used_of.ensures), used_there c.args.numbers.now _ c.used_of.ensures)

pub returns-then-n-eq0 : goal.returns-then-n-eq0
returns-then-n-eq0 c = even c.args.numbers.now c.if-n-eq0.true _ c.used_of.ensures _ c.are_small.ensures

pub returns-else-n-eq0 : goal.returns-else-n-eq0
returns-else-n-eq0 c = ne_eqb _ _ c.if-n-eq0.false ∙ odd c.args.numbers.now c.if-n-eq0.false
