-- `write` meets its contract. The loop's invariant: what was put, and what the rest of the buffer takes from the state reached, is the piece.
use lib.ListN.{length}
use mathlib.Core.Path.{◌≡◌}
use Rattle.sheet.proofs.Tellings.{GoingOn}
use Rattle.sheet.specs.Sheet.{teller}
use Rattle.sheet.specs.Writing.{standing_at}
use Rattle.text.specs.Telling.{left}
use Rattle.sheet.proofs.telling.write.Given as goal

abbrev pub invariant-loop-progress : goal.invariant-loop-progress
invariant-loop-progress l =
    record {
      same_reference : l.writer.buffer.ghost_name ≡ l.initial.writer.buffer.ghost_name;
      memory_length : length l.memory ≡ length l.initial.memory;
      output_length : length l.output ≡ length l.initial.output;
      going : GoingOn l.input l.initial.writer.buffer.now l.initial.progress.over (standing_at l.initial.memory l.population l.initial.selection l.initial.output l.initial.progress) l.writer.buffer.now l.writer.at l.progress.over (standing_at l.memory l.population l.selection l.output l.progress);
    }

abbrev pub decreases-loop-progress : goal.decreases-loop-progress
decreases-loop-progress l =
    left (teller l.input) l.progress.over (standing_at l.memory l.population l.selection l.output l.progress)
