-- After k moves the first k of the items that are kept stand where they go, and no other place has changed.
use Rattle.std.proofs.Common.{◌≡◌}
use Rattle.failures.specs.Lists.{moved_up}
use Rattle.failures.proofs.records.move_up.Given as goal

abbrev pub invariant-loop-k : goal.invariant-loop-k
invariant-loop-k g l = l.items ≡ moved_up l.initial.items l.n l.k
