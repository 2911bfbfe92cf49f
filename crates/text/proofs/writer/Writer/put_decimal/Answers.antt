-- `put_decimal` meets its contract. The loop's invariant: those stored, with those of what is left, are those of the number.
use Prim.Native.Nat.{ℕ, ◌+◌, ◌≤◌}
use lib.ListN.{length, length-set}
use mathlib.Core.List.{[]}
use mathlib.Core.Path.{◌≡◌, ap, ◌∙◌}
use native.Mathlib.Omega.{arith}
use Rattle.std.proofs.Common.{rules}
use Rattle.text.proofs.Decimals.{digit_put, digits_none, length_decimal, all_digits}
use Rattle.text.proofs.Writing.{lays_put, lays_nothing}
use Rattle.text.specs.Digits.{digits}
use Rattle.text.proofs.writer.Writer.put_decimal.Goals as goal

pub loop-i-preserved : goal.loop-i-preserved
loop-i-preserved c =
    let l = c.loop-i in record {
      same_reference = l.invariant.same_reference;
      same_length = simp length-set l.invariant.same_length;
      stored = digit_put l.self.buffer.now _ l.i l.left c.loop-i-test.true ∙ l.invariant.stored;
    }

pub returns-after-loop-i : goal.returns-after-loop-i
returns-after-loop-i c =
    let l = c.loop-i in
    let few = length_decimal c.args.n c.width-w.result c.width-w.ensures.value in
    let none : digits l.i l.left ≡ [] = ap (λ (k : ℕ). digits k l.left) (omega arith) ∙ digits_none l.left in
    let room : c.args.self.now.at + c.width-w.result ≤ length c.args.self.now.buffer.now = search rules in
    lays_put (omega arith) l.invariant.same_reference
    (rw none at l.invariant.stored ∙ all_digits _ _ _ _ c.width-w.ensures.value) (omega arith)

pub returns-else-has_room : goal.returns-else-has_room
returns-else-has_room c =
    let few = length_decimal c.args.n c.width-w.result c.width-w.ensures.value in
    lays_nothing _ _ (rw few (search rules))
