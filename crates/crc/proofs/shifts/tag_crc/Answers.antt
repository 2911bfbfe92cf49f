-- `tag_crc` meets its contract: the register is complemented.
use mathlib.Core.Path.{ap}
use Prim.Native.Nat.{ℕ, ◌-◌}
use Rattle.crc.specs.Crc.{tag_crc}
use Rattle.crc.proofs.shifts.tag_crc.Goals as goal

pub returns : goal.returns
unfolding tag_crc
returns c = ap (λ (worked : ℕ). 0xFFFF - worked) c.shifted_crc.ensures
