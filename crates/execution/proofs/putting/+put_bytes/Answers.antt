-- All bytes but the last stand where they go, and then the last one does.
use native.Mathlib.Omega.{arith}
use Rattle.execution.proofs.Acts.{last_byte}
use Rattle.frame.specs.Bytes.{bytes_of}
use Rattle.execution.proofs.putting.+put_bytes.Goals as goal

pub returns-then-count-eq0 : goal.returns-then-count-eq0
unfolding bytes_of
returns-then-count-eq0 t c = rw c.if-count-eq0.true

pub returns : goal.returns
returns t c = rw c.put_bytes.ensures (last_byte _ _ _ _ (omega arith))
