-- `put_text` meets its contract: with room the text is copied whole.
use Rattle.std.proofs.Common.{rules}
use mathlib.Core.Path.{refl}
use native.Mathlib.Omega.{arith}
use Rattle.text.proofs.Puts.{part_put}
use Rattle.text.proofs.Writing.{lays_put, lays_nothing}
use Rattle.text.proofs.writer.Writer.put_text.Goals as goal

pub returns-then-has_room : goal.returns-then-has_room
returns-then-has_room c = lays_put (search rules) refl (part_put _ _ _ _ _ (search rules) c.copy_from_slice.ensures.after (omega arith)) refl

pub returns-else-has_room : goal.returns-else-has_room
returns-else-has_room c = lays_nothing _ _ (search rules)
