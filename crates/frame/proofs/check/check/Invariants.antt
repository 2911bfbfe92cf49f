-- `check` meets its contract: what is accumulated, with the sum of the rest, is the whole sum modulo 256.
use Rattle.std.proofs.Common.{◌≡◌, ◌+◌, ◌%◌, drop}
use Rattle.frame.specs.Frames.{sum, check_of}
use Rattle.frame.proofs.check.check.Given as goal

abbrev pub invariant-loop-b : goal.invariant-loop-b
invariant-loop-b l = (l.total + sum (drop l.b-index l.bytes)) % 256 ≡ check_of l.bytes
