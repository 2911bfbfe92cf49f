-- `crc_of` meets its contract: what is worked, with the bytes left, is the whole CRC.
use lib.ListN.{drop}
use mathlib.Core.Path.{◌≡◌}
use Rattle.crc.specs.Crc.{crc}
use Rattle.crc.proofs.Crc16.crc_of.Given as goal

abbrev pub invariant-loop-b : goal.invariant-loop-b
invariant-loop-b l =
    crc l.self.direction l.self.polynomial l.worked (drop l.b-index l.bytes) ≡ crc l.self.direction l.self.polynomial l.register l.bytes
