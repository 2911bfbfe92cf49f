-- All bytes but the last are put by a call of itself, and then that one. The measure is the count.
use Rattle.execution.proofs.putting.+put_bytes.Given as goal

abbrev pub decreases-put_bytes : goal.decreases-put_bytes
decreases-put_bytes l = l.count
