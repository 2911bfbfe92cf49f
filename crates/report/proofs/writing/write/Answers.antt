-- `write` meets its contract. The loop's invariant: what was put, and what the rest of the buffer takes from the state reached, is the
-- piece.
use mathlib.Core.Path.{refl, ◌∙◌}
use Rattle.std.proofs.Common.{rules}
use Rattle.report.proofs.Pieces.{going, goes, falls, filled, ended}
use Rattle.report.proofs.writing.write.Goals as goal
use Rattle.report.proofs.writing.write.Goals.{then-loop-progress-test+else-has_room, else-loop-progress-test}

pub loop-progress-init : goal.loop-progress-init
loop-progress-init c = record { same_reference = refl; memory_length = refl; output_length = refl; going = going _ _ _ _ }

pub loop-progress-smaller : goal.loop-progress-smaller
loop-progress-smaller c = falls _ _ _ _ _ (search rules) c.write_line.ensures

pub loop-progress-preserved : goal.loop-progress-preserved
loop-progress-preserved c =
    let l = c.loop-progress in
    let line = c.write_line in
    record {
      same_reference = line.ensures.line.same_reference ∙ l.invariant.same_reference;
      memory_length = line.auto.memory ∙ l.invariant.memory_length;
      output_length = line.auto.output ∙ l.invariant.output_length;
      going = goes _ _ _ _ _ _ _ _ l.invariant.going (search rules) (search rules) line.ensures;
    }

pub returns : goal.returns
returns c =
    let l = c.loop-progress in
    elim c.loop-progress-test.branch [
      | then-loop-progress-test+else-has_room w ↦ filled _ _ _ _ _ _ _ _ _ c.if-buffer-lt-LONGEST_LINE.false (search rules) l.invariant.going (search rules)
      | else-loop-progress-test w ↦ ended _ _ _ _ _ _ _ _ _ c.if-buffer-lt-LONGEST_LINE.false (search rules) l.invariant.going (search rules)
    ]
