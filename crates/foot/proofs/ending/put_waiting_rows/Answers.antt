-- `put_waiting_rows` meets its contract: none, or one.
use Rattle.foot.proofs.FootTexts.{waits_not, waits}
use Rattle.foot.proofs.ending.put_waiting_rows.Goals as goal

pub returns-then-cursor-size : goal.returns-then-cursor-size
returns-then-cursor-size c = waits _ _ c.if-cursor-size.true c.put_waiting.ensures

pub returns-else-cursor-size : goal.returns-else-cursor-size
returns-else-cursor-size c = waits_not _ _ _ c.if-cursor-size.false
