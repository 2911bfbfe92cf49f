-- `start` meets its contract: a fresh tally at the first byte, and an empty list.
use Rattle.report.proofs.writing.Progress.start.Goals as goal

pub returns : goal.returns
returns c = rw (c.fresh.ensures, c.blank.ensures)
