-- `crc_of` meets its contract: what is worked, with the bytes left, is the whole CRC.
use lib.ListN.{length-drop}
use mathlib.Core.Path.{◌∙◌}
use native.Mathlib.Omega.{arith}
use Rattle.crc.proofs.Steps.{bytes_next, none_left}
use Rattle.crc.proofs.Crc16.crc_of.Goals as goal

pub loop-b-preserved : goal.loop-b-preserved
loop-b-preserved c = rw c.byte_step-worked.ensures (bytes_next _ _ _ _ _ c.loop-b-test.true ∙ c.loop-b.invariant)

pub returns : goal.returns
returns c = none_left _ _ _ _ (omega (arith, length-drop c.loop-b.b-index c.args.bytes.now)) ∙ c.loop-b.invariant
