-- `are_small` meets its contract. The loop's invariant: the first i numbers are small enough.
use mathlib.Core.Bool.{true}
use mathlib.Core.Path.{◌≡◌}
use Rattle.population.specs.Below.{all_below}
use Rattle.embed.specs.Placed.{small_at}
use Rattle.embed.proofs.are_small.Given as goal

abbrev pub invariant-loop-i : goal.invariant-loop-i
invariant-loop-i l = all_below (small_at l.numbers) l.i ≡ true
