-- `items_after` meets its contract, case by case.
use mathlib.Core.Path.{ap, sym, ◌∙◌}
use Rattle.frame.proofs.Tests.{holds, fails}
use Rattle.sheet.proofs.Joining.{error_item, drop_grown, drop_item}
use Rattle.sheet.specs.Items.{items_after}
use Rattle.sheet.proofs.items.items_after.Goals as goal

pub returns-then-is_joined : goal.returns-then-is_joined
returns-then-is_joined c =
    drop_grown _ _ _ _ (holds c.if-is_joined.true c.is_joined.ensures) c.with_dropped.ensures
    ∙ ap (items_after _ _) (sym c.in-Drop.is)

pub returns-in-Passed : goal.returns-in-Passed
unfolding items_after
returns-in-Passed c = rw c.in-Passed.is

pub returns-in-Error : goal.returns-in-Error
returns-in-Error c =
    error_item _ _ _ _ _ c.one_more.ensures c.fresh.ensures ∙ ap (items_after _ _) (sym c.in-Error.is)

pub returns-else-is_joined : goal.returns-else-is_joined
returns-else-is_joined c =
    drop_item _ _ _ _ _ _ (fails c.if-is_joined.false c.is_joined.ensures) c.one_more-in-Drop.ensures c.fresh-in-Drop.ensures
    c.with_dropped-in-Drop.ensures
    ∙ ap (items_after _ _) (sym c.in-Drop.is)
