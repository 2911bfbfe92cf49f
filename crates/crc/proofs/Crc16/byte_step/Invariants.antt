-- `byte_step` meets its contract: what is worked, with the bits left, is the whole byte's step.
use Prim.Native.Nat.{◌-◌}
use mathlib.Core.Path.{◌≡◌}
use Rattle.crc.specs.Crc.{bit_steps, byte_step}
use Rattle.crc.proofs.Crc16.byte_step.Given as goal

abbrev pub invariant-loop : goal.invariant-loop
invariant-loop l =
    bit_steps l.self.direction l.self.polynomial (8 - l.counter) l.worked ≡ byte_step l.self.direction l.self.polynomial l.register l.b
