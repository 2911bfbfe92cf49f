use mathlib.Core.Bool.{true}
use mathlib.Core.Path.{◌≡◌}
use Rattle.population.specs.Below.{all_below}
use Rattle.population.specs.Places.{apart_from}
use Rattle.population.proofs.places.Population.is_apart_below.Given as goal

abbrev pub invariant-loop-j : goal.invariant-loop-j
invariant-loop-j l = all_below (apart_from l.self.places l.i) l.j ≡ true
