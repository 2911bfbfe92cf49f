-- `crc_of` meets its contract: what is worked, with the bytes left, is the whole CRC.
use Prim.Native.Nat.{◌*◌}
use lib.ListN.{drop}
use mathlib.Core.Path.{◌≡◌}
use Rattle.crc.specs.Tables.{table_crc}
use Rattle.crc.proofs.lookup.Tables.crc_of.Given as goal

abbrev pub invariant-loop-pair : goal.invariant-loop-pair
invariant-loop-pair l =
    table_crc l.self.direction l.self.near.now l.self.far.now l.worked (drop (l.pair-index * 2) l.bytes)
    ≡ table_crc l.self.direction l.self.near.now l.self.far.now l.register l.bytes
