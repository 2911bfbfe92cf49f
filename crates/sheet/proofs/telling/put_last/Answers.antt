-- `put_last` meets its contract: nothing, or the rows of the last item.
use Rattle.sheet.proofs.Parts.{not_told, no_item, an_item}
use Rattle.sheet.proofs.telling.put_last.Goals as goal
use Rattle.sheet.proofs.telling.put_last.Goals.{else-told-via-then-told+else-items-ne0, else-told-via-else-told}

pub returns-then-items-ne0 : goal.returns-then-items-ne0
returns-then-items-ne0 c = an_item _ _ _ _ _ c.if-told.true c.if-items-ne0.true c.code_at-code.ensures c.command_at-parsed.ensures c.put_item.ensures

pub returns-else-told : goal.returns-else-told
returns-else-told c =
    elim c.else-told.branch [
      | else-told-via-then-told+else-items-ne0 w ↦ no_item _ _ _ _ w.if-told.true w.if-items-ne0.false
      | else-told-via-else-told w ↦ not_told _ _ _ _ w.if-told.false
    ]
