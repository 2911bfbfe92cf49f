-- `by_twos` meets its contract: what is worked, with the bytes left, is the whole CRC.
use Prim.Native.Nat.{◌*◌}
use lib.ListN.{drop}
use mathlib.Core.Path.{◌≡◌}
use Rattle.crc.specs.Crc.{crc}
use Rattle.crc.specs.declared.Direction.TheVariants.{HighFirst}
use Rattle.crc.proofs.shifts.by_twos.Given as goal

abbrev pub invariant-loop-pair : goal.invariant-loop-pair
invariant-loop-pair l = crc HighFirst 0x1021 l.worked (drop (l.pair-index * 2) l.bytes) ≡ crc HighFirst 0x1021 l.register l.bytes
