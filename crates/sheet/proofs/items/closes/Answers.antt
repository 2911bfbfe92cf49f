-- `closes` meets its contract: one answer for each meaning of a call.
use Rattle.sheet.specs.Items.{closes}
use Rattle.sheet.proofs.items.closes.Goals as goal

pub returns-in-Passed : goal.returns-in-Passed
unfolding closes
returns-in-Passed c = rw c.in-Passed.is

pub returns-in-Error : goal.returns-in-Error
unfolding closes
returns-in-Error c = rw c.in-Error.is

pub returns-in-Drop : goal.returns-in-Drop
unfolding closes
returns-in-Drop c = rw (c.in-Drop.is, c.is_joined.ensures)
