-- `print_rows` meets its contract: each piece is written from where the one before left off, by calls of the run, and the sheet ends.
use Rattle.poldrisk_sheet.proofs.Printing.{Going}
use Rattle.sheet.specs.Sheet.{teller}
use Rattle.sheet.specs.Writing.{standing_at}
use Rattle.text.specs.Telling.{left}
use Rattle.poldrisk_sheet.proofs.print_rows.Given as goal

abbrev pub invariant-loop-progress : goal.invariant-loop-progress
invariant-loop-progress l =
    Going l.commands l.population l.initial.memory l.initial.output l.initial.buffer l.memory l.output l.selection l.buffer l.progress

abbrev pub decreases-loop-progress : goal.decreases-loop-progress
decreases-loop-progress l =
    left (teller l.commands) l.progress.over (standing_at l.memory l.population l.selection l.output l.progress)
