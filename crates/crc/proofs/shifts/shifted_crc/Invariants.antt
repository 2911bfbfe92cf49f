-- `shifted_crc` meets its contract: what is worked, with the bytes left, is the whole CRC.
use Rattle.std.proofs.Common.{◌≡◌, ◌*◌, ◌<◌, drop}
use Rattle.crc.specs.Crc.{crc}
use Rattle.crc.specs.declared.Direction.TheVariants.{HighFirst}
use Rattle.crc.proofs.shifts.shifted_crc.Given as goal

abbrev pub invariant-loop-eight : goal.invariant-loop-eight
invariant-loop-eight l =
    (l.worked < 0x10000) × (crc HighFirst 0x1021 l.worked (drop (l.eight-index * 8) l.bytes) ≡ crc HighFirst 0x1021 l.register l.bytes)
