-- `put_right` meets its contract: as many columns are passed as the number leaves free.
use Rattle.std.proofs.Common.{rules}
use Rattle.text.proofs.Writing.{right_put, right_nothing}
use Rattle.text.proofs.writer.Writer.put_right.Goals as goal

pub returns-then-has_room : goal.returns-then-has_room
returns-then-has_room c = right_put _ _ _ _ c.args.self.now c.width.ensures.value c.missing.ensures c.put_decimal.ensures

pub returns-else-has_room : goal.returns-else-has_room
returns-else-has_room c = right_nothing _ _ _ (search rules)
