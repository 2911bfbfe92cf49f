-- `byte_step` meets its contract: what is worked, with the bits left, is the whole byte's step.
use mathlib.Core.Path.{sym, ap, ◌∙◌}
use native.Mathlib.Omega.{arith}
use Rattle.crc.specs.Crc.{bit_steps, byte_step}
use Rattle.crc.proofs.Steps.{bits_next, bits_none}
use Rattle.crc.proofs.Crc16.byte_step.Goals as goal

pub loop-init : goal.loop-init
unfolding byte_step
loop-init c = ap (bit_steps _ _ 8) c.enter-worked.ensures

pub loop-preserved : goal.loop-preserved
loop-preserved c =
    ap (bit_steps _ _ _) c.bit_step-worked.ensures
    ∙ (bits_next _ _ _ _ (omega arith) ∙ c.loop.invariant)

pub returns : goal.returns
returns c = sym (bits_none _ _ _ _ (omega arith)) ∙ c.loop.invariant
