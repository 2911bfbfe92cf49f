-- `write` meets its contract. The loop's invariant: what was put, and what the rest of the buffer takes from the state reached, is the piece.
use mathlib.Core.Path.{refl, ◌∙◌}
use Rattle.std.proofs.Common.{rules}
use Rattle.sheet.proofs.Tellings.{goes, less, held}
use Rattle.text.proofs.Written.{going, filled, ended}
use Rattle.sheet.proofs.telling.write.Goals as goal
use Rattle.sheet.proofs.telling.write.Goals.{then-loop-progress-test+else-has_room, else-loop-progress-test}

pub loop-progress-init : goal.loop-progress-init
loop-progress-init c = record { same_reference = refl; memory_length = refl; output_length = refl; going = going _ _ _ _ _ _ }

pub loop-progress-smaller : goal.loop-progress-smaller
loop-progress-smaller c = less _ _ _ _ _ (search rules) c.write_part.ensures

pub loop-progress-preserved : goal.loop-progress-preserved
loop-progress-preserved c =
    let l = c.loop-progress in
    let part = c.write_part in
    record {
      same_reference = part.ensures.same_reference ∙ l.invariant.same_reference;
      memory_length = part.auto.memory ∙ l.invariant.memory_length;
      output_length = part.auto.output ∙ l.invariant.output_length;
      going = goes _ _ _ _ _ _ _ _ l.invariant.going (search rules) (search rules) part.ensures;
    }

pub returns : goal.returns
returns c =
    let l = c.loop-progress in
    held c.args.input.now (search rules)
    (elim c.loop-progress-test.branch [
      | then-loop-progress-test+else-has_room w ↦ filled _ _ _ _ _ _ _ _ _ _ l.invariant.going (search rules)
      | else-loop-progress-test w ↦ ended _ _ _ _ _ _ _ _ _ _ l.invariant.going (search rules)
    ])
