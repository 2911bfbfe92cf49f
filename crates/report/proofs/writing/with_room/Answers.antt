-- `with_room` meets its contract: a full list is emptied.
use Rattle.report.proofs.writing.with_room.Goals as goal

pub returns-then-held-lt8 : goal.returns-then-held-lt8
returns-then-held-lt8 c = c.if-held-lt8.true
