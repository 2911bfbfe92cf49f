-- Each table is what plain steps give: one computed test for each works out the whole of it.
use mathlib.Core.Path.{refl}
use Rattle.crc.specs.Crc.{leaving, shifted, added, bit_step, bit_steps, entered}
use Rattle.crc.specs.Tables.{polynomial_of, entries, table_of, far_table}
use Rattle.crc.proofs.Direction.far.Goals as goal

pub returns-in-HighFirst : goal.returns-in-HighFirst
unfolding far_table polynomial_of table_of entries bit_steps bit_step leaving shifted added entered
returns-in-HighFirst c = rw c.in-HighFirst.is refl

pub returns-in-LowFirst : goal.returns-in-LowFirst
unfolding far_table polynomial_of table_of entries bit_steps bit_step leaving shifted added entered
returns-in-LowFirst c = rw c.in-LowFirst.is refl
