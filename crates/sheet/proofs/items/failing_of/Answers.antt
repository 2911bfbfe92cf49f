-- `failing_of` meets its contract: one answer for each outcome.
use mathlib.Core.Path.{ap, sym, ◌∙◌}
use Rattle.sheet.proofs.Joining.{passed, failed, none_failed}
use Rattle.sheet.specs.Items.{failing}
use Rattle.sheet.proofs.items.failing_of.Goals as goal

pub returns-then-byte_at-ne255 : goal.returns-then-byte_at-ne255
returns-then-byte_at-ne255 c = passed _ _ c.byte_at.ensures c.if-byte_at-ne255.true ∙ ap (failing _) (sym c.in-Answered.is)

pub returns-else-byte_at-ne255 : goal.returns-else-byte_at-ne255
returns-else-byte_at-ne255 c = failed _ _ c.byte_at.ensures _ c.if-byte_at-ne255.false c.byte_at-in-Answered.ensures ∙ ap (failing _) (sym c.in-Answered.is)

pub returns-in-Dropped : goal.returns-in-Dropped
unfolding failing
returns-in-Dropped c = rw c.in-Dropped.is

pub returns-in-AtEnd : goal.returns-in-AtEnd
returns-in-AtEnd c = none_failed _ _ c.in-AtEnd.is
