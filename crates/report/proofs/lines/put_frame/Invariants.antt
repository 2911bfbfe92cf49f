-- `put_frame` meets its contract. The loop's invariant: the bytes put, with those that are still to come, are the whole line.
use Rattle.report.proofs.LinePuts.{SoFar}
use Rattle.report.proofs.lines.put_frame.Given as goal

abbrev pub invariant-loop-i : goal.invariant-loop-i
invariant-loop-i l = SoFar l.frame l.i l.initial.writer l.writer
