-- `put_spaces` meets its contract: with room all of them are filled in.
use Prim.Native.Nat.{ℕ}
use mathlib.Core.Path.{refl}
use native.Mathlib.Omega.{arith}
use Rattle.std.proofs.Common.{rules}
use Rattle.std.proofs.lemmas.List.{length-replicate}
use Rattle.text.proofs.Puts.{filled_put}
use Rattle.text.proofs.Writing.{lays_put, lays_nothing}
use Rattle.text.specs.Laying.{spaces}
use Rattle.text.proofs.writer.Writer.put_spaces.Goals as goal

pub returns-then-has_room : goal.returns-then-has_room
unfolding spaces
returns-then-has_room c =
    let few = length-replicate {A = ℕ} c.args.n 32 in
    let bytes = filled_put c.args.self.now.buffer.now _ c.args.self.now.at c.args.n _ 32 (search rules) (omega arith) (c.fill.ensures.after (λ y e. e)) in
    lays_put (search rules) refl bytes (omega arith)

pub returns-else-has_room : goal.returns-else-has_room
unfolding spaces
returns-else-has_room c =
    let few = length-replicate {A = ℕ} c.args.n 32 in
    lays_nothing _ _ (search rules)
