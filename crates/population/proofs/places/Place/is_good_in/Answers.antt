use Rattle.population.proofs.Populations.{alone_outside, alone_inside}
use Rattle.population.proofs.places.Place.is_good_in.Goals as goal

pub returns-in-Some : goal.returns-in-Some
returns-in-Some c = alone_inside _ _ c.in-Some.ensures.0 _ c.in-Some.ensures.1 _ c.is_good.ensures

pub returns-in-None : goal.returns-in-None
returns-in-None c = alone_outside _ _ c.in-None.ensures
