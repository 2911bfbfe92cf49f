-- `copy` meets its contract. The loop's invariant: all n bytes are there and have room, the first i of them stand where they go, and all
-- else is as it was.
use Rattle.std.proofs.Common.{◌≡◌, ◌+◌, ◌≤◌, length}
use lib.Seq.{paste}
use Rattle.frame.specs.Bytes.{part}
use Rattle.frame.proofs.copying.copy.Given as goal

abbrev pub invariant-loop-i : goal.invariant-loop-i
invariant-loop-i l =
    record {
      there : l.start + l.n ≤ length l.from;
      room : l.at + l.n ≤ length l.initial.to;
      copied_is : l.to ≡ paste l.initial.to l.at (part l.from l.start l.n) l.i;
      same_length : length l.to ≡ length l.initial.to;
    }
