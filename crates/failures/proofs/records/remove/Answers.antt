-- `remove` meets its contract: what is read lies within the places.
use Rattle.std.proofs.Common.{arith}
use Rattle.failures.proofs.Moves.{moves_fit}
use Rattle.failures.proofs.records.remove.Goals as goal

pub move_up-requires : goal.move_up-requires
move_up-requires c = λ k l. moves_fit _ c.args.held c.args.n k (omega (arith, l, c.kept-left.ensures))
