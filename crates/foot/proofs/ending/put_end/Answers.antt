-- `put_end` meets its contract: nothing without room; else the text.
use Rattle.foot.proofs.FootTexts.{ends, ends_nothing}
use Rattle.std.proofs.Common.{rules}
use Rattle.foot.proofs.ending.put_end.Goals as goal

pub returns-then-has_room : goal.returns-then-has_room
returns-then-has_room c = ends _ (search rules) c.put_end_text.ensures

pub returns-else-has_room : goal.returns-else-has_room
returns-else-has_room c = ends_nothing _ _ (search rules)
