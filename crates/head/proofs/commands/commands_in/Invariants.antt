-- `commands_in` meets its contract. The loop's invariant: so many are counted, and those in the rest are still to come.
use Prim.Native.Nat.{◌+◌, ◌≤◌}
use lib.ListN.{length}
use mathlib.Core.Path.{◌≡◌}
use Rattle.head.specs.Commands.{commands_in}
use Rattle.head.proofs.commands.commands_in.Given as goal

abbrev pub invariant-loop-rest : goal.invariant-loop-rest
invariant-loop-rest l =
    record {
      few : l.n + length l.rest ≤ length l.input;
      counted : l.n + commands_in l.rest ≡ commands_in l.input;
    }

abbrev pub decreases-loop-rest : goal.decreases-loop-rest
decreases-loop-rest l = length l.rest
