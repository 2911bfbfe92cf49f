-- `start` meets its contract: a fresh tally at the first byte, and no items.
use Rattle.sheet.proofs.telling.Progress.start.Goals as goal

pub returns : goal.returns
returns c = rw (c.fresh.ensures, c.none.ensures)
