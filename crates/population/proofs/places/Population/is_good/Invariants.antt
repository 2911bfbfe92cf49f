use mathlib.Core.Bool.{true}
use mathlib.Core.Path.{◌≡◌}
use Rattle.population.proofs.Rising.{ends_by}
use Rattle.population.specs.Below.{all_below}
use Rattle.population.specs.Places.{good_at}
use Rattle.population.proofs.places.Population.is_good.Given as goal

abbrev pub invariant-loop-i : goal.invariant-loop-i
invariant-loop-i l = (all_below (good_at l.memory l.self.places) l.i ≡ true) × (all_below (ends_by l.self.places l.end) l.i ≡ true)
