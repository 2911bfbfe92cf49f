-- `print_pieces` meets its contract: each piece is written from the state that the one before left, and the report ends.
use lib.ListN.{length}
use Rattle.console.proofs.Printing.{Going}
use Rattle.report.specs.Report.{steps_from}
use Rattle.report.specs.Writing.{state_at}
use Rattle.console.proofs.print_pieces.Given as goal

abbrev pub invariant-loop-progress : goal.invariant-loop-progress
invariant-loop-progress l =
    Going l.commands l.population l.initial.memory l.initial.output l.initial.buffer l.memory l.output l.selection l.buffer l.progress

abbrev pub decreases-loop-progress : goal.decreases-loop-progress
decreases-loop-progress l =
    length (steps_from l.commands l.progress.over (state_at l.memory l.population l.selection l.output l.progress))
