-- `write_part` meets its contract: the machine's step, and its part.
use Rattle.sheet.proofs.Parts.{one_part}
use Rattle.sheet.specs.Writing.{standing_at}
use Rattle.sheet.proofs.telling.write_part.Goals as goal

pub returns : goal.returns
returns c =
    let a = c.args in
    one_part a.input.now (standing_at a.memory.now a.population.now a.selection.now a.output.now a.progress.now) _ _ _ _ c.call-called.ensures.0
    _ _ _ _ c.failing_of-failing.ensures c.is_last-over.ensures c.is_told-told.ensures c.items_after.ensures c.requires c.put_last.ensures c.put_end.ensures
