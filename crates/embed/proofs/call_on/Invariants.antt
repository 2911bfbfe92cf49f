-- `call_on` meets its contract: the crate's call between unpacking and storing. The loop's invariant: the crate has the places of the first i tags.
use Prim.Native.Nat.{◌*◌, ◌≤◌}
use lib.ListN.{length}
use mathlib.Core.Bool.{true}
use mathlib.Core.Path.{◌≡◌}
use Rattle.population.specs.Below.{all_below}
use Rattle.embed.specs.Placed.{small_at, placed}
use Rattle.embed.proofs.call_on.Given as goal

abbrev pub invariant-loop-i : goal.invariant-loop-i
invariant-loop-i l =
    record {
      few : l.i-end ≤ 16;
      there : 2 * l.i-end ≤ length l.numbers;
      small : all_below (small_at l.numbers) (2 * l.i-end) ≡ true;
      places_are : l.population.places ≡ placed l.numbers l.i;
      tags_are : l.population.tags ≡ l.tags;
    }
