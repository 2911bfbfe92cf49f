-- `put_decimal` meets its contract. The loop's invariant: those stored, with those of what is left, are those of the number.
use lib.ListN.{length}
use lib.Seq.{sets}
use mathlib.Core.Path.{◌≡◌}
use Rattle.text.specs.Digits.{digits}
use Rattle.text.proofs.writer.Writer.put_decimal.Given as goal

abbrev pub invariant-loop-i : goal.invariant-loop-i
invariant-loop-i l =
    record {
      same_reference : l.self.buffer.ghost_name ≡ l.initial.self.buffer.ghost_name;
      same_length : length l.self.buffer.now ≡ length l.initial.self.buffer.now;
      stored : sets l.self.buffer.now l.at (digits l.i l.left) ≡ sets l.initial.self.buffer.now l.at (digits l.w l.n);
    }
