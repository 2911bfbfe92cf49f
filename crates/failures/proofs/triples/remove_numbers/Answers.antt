-- `remove_numbers` meets its contract: of so many records the numbers move, and what is read lies within them.
use native.Mathlib.Omega.{arith}
use Prim.Native.Nat.{◌*◌}
use mathlib.Core.Path.{sym, ap, ◌∙◌}
use Rattle.failures.specs.Lists.{moved_up}
use Rattle.failures.proofs.Moves.{moved_none}
use Rattle.failures.proofs.Threes.{left_there}
use Rattle.failures.proofs.triples.remove_numbers.Goals as goal

pub overflow_mul-n : goal.overflow_mul-n
overflow_mul-n c = omega (arith, left_there c.args.numbers.now c.args.held c.args.n _ c.kept-left.ensures c.if-left-gt0.true)

pub overflow_mul-left : goal.overflow_mul-left
overflow_mul-left c = omega (arith, left_there c.args.numbers.now c.args.held c.args.n _ c.kept-left.ensures c.if-left-gt0.true)

pub move_up-requires : goal.move_up-requires
move_up-requires c = λ k l. omega (arith, l, left_there c.args.numbers.now c.args.held c.args.n _ c.kept-left.ensures c.if-left-gt0.true)

pub returns-else-left-gt0 : goal.returns-else-left-gt0
returns-else-left-gt0 c = (
  c.kept-left.ensures,
  sym
      (ap (moved_up c.args.numbers.now (3 * c.args.n)) {y = 0} (omega (arith, c.kept-left.ensures))
      ∙ moved_none c.args.numbers.now (3 * c.args.n)),
)
