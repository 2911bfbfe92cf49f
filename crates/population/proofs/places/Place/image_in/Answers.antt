-- `Place::image_in` meets its contract: what `get` hands out is the image.
use Rattle.population.proofs.Populations.{got}
use Rattle.population.proofs.places.Place.image_in.Goals as goal

pub returns : goal.returns
returns c = got _ _ _ c.end.ensures _ c.get.ensures.lookup.0
