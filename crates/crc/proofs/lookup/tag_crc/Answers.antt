-- `tag_crc` meets its contract: the register is complemented.
use mathlib.Core.Path.{ap}
use Prim.Native.Nat.{ℕ, ◌-◌}
use Rattle.crc.specs.Crc.{tag_crc}
use Rattle.crc.specs.Tables.{polynomial_of}
use Rattle.crc.proofs.lookup.tag_crc.Goals as goal

pub returns : goal.returns
unfolding tag_crc polynomial_of
returns c = ap (λ (worked : ℕ). 0xFFFF - worked) c.bound_crc.ensures
