use Prim.Native.Nat.{◌-◌}
use mathlib.Core.Path.{◌≡◌}
use Rattle.population.specs.Lowest.{selected_at, first_tag, lowest}
use Rattle.population.proofs.places.Population.lowest.Given as goal

abbrev pub invariant-loop-i : goal.invariant-loop-i
invariant-loop-i l =
    lowest l.memory l.self.tags l.self.places l.selection l.start
    ≡ first_tag (selected_at l.memory l.selection l.self.places) l.self.places l.i (l.self.tags - l.i)
