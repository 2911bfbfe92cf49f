-- `bit_step` meets its contract: each return is one of the laws of a bit.
use Rattle.crc.proofs.Steps.{high_one, high_zero, low_one, low_zero}
use Rattle.crc.proofs.Crc16.bit_step.Goals as goal

pub returns-then-register-ge32768 : goal.returns-then-register-ge32768
returns-then-register-ge32768 c = rw c.in-HighFirst.is (high_one _ _ c.if-register-ge32768.true)

pub returns-then-register-eq1 : goal.returns-then-register-eq1
returns-then-register-eq1 c = rw c.in-LowFirst.is (low_one _ _ c.if-register-eq1.true)

pub returns-else-register-ge32768 : goal.returns-else-register-ge32768
returns-else-register-ge32768 c = rw c.in-HighFirst.is (high_zero _ _ c.if-register-ge32768.false)

pub returns-else-register-eq1 : goal.returns-else-register-eq1
returns-else-register-eq1 c = rw c.in-LowFirst.is (low_zero _ _ c.if-register-eq1.false)
