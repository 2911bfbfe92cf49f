-- `one_more` meets its contract: at the most that the number can hold it stays.
use native.Mathlib.Omega.{arith}
use Rattle.sheet.proofs.Joining.{saturated}
use Rattle.sheet.proofs.items.one_more.Goals as goal

pub returns : goal.returns
returns c = saturated _ _ (omega arith) c.saturating_add.ensures
