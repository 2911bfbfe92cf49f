-- `Items::none` meets its contract.
use mathlib.Core.Path.{ap}
use Rattle.reader.specs.declared.tally.Tally.{Tally}
use Rattle.sheet.specs.Items.{item_of, items_of}
use Rattle.sheet.proofs.items.Items.none.Goals as goal

pub returns : goal.returns
returns c = ap (λ (t : Tally). items_of 0 (item_of 0 0 0 t)) c.fresh.ensures
