-- `write` meets its contract. The loop's invariant: what was put, and what the rest of the buffer takes from the state reached, is the
-- piece.
use Prim.Native.Nat.{suc}
use lib.ListN.{length}
use mathlib.Core.Path.{◌≡◌}
use Rattle.machine.specs.Machine.{work}
use Rattle.frame.specs.Bytes.{pick}
use Rattle.report.proofs.Pieces.{Going}
use Rattle.report.specs.Writing.{state_at}
use Rattle.report.proofs.writing.write.Given as goal

abbrev pub invariant-loop-progress : goal.invariant-loop-progress
invariant-loop-progress l =
    record {
      same_reference : l.writer.buffer.ghost_name ≡ l.initial.writer.buffer.ghost_name;
      memory_length : length l.memory ≡ length l.initial.memory;
      output_length : length l.output ≡ length l.initial.output;
      going : Going l.input l.initial.writer.buffer.now (state_at l.initial.memory l.population l.initial.selection l.initial.output l.initial.progress) l.initial.progress.over l.writer.buffer.now l.writer.at (state_at l.memory l.population l.selection l.output l.progress) l.progress.over;
    }

abbrev pub decreases-loop-progress : goal.decreases-loop-progress
decreases-loop-progress l =
    pick l.progress.over 0 (suc (work l.input (state_at l.memory l.population l.selection l.output l.progress)))
