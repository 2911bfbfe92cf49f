-- The lent numbers as places: two for each tag, where it begins and how many bytes it has.
use Rattle.std.specs.Prelude.{ℕ, zero, suc, ◌+◌, ◌*◌, ◌/◌, ◌%◌, Bool, ◌&&◌, List, eqb, ltb, leb, length, get_or, set, replicate}
use Rattle.frame.specs.Bytes.{pick}
use Rattle.population.specs.Below.{all_below}
use Rattle.population.specs.Places.{nowhere}
use Rattle.population.specs.declared.places.Place.{Place}
use Rattle.reader.specs.Tallies.{limit}

unfoldable pub tags_in : List ℕ → ℕ
tags_in numbers = length numbers / 2

-- more tags than sixteen are refused by the machine, whatever stands behind the sixteenth
unfoldable pub used_of : ℕ → ℕ
used_of tags = pick (ltb 16 tags) 16 tags

-- a place holds numbers as large as a count
unfoldable pub small_at : List ℕ → ℕ → Bool
small_at numbers i = leb (get_or numbers i 0) limit

unfoldable pub places_fit : List ℕ → Bool
places_fit numbers = eqb (length numbers % 2) 0 && all_below (small_at numbers) (2 * used_of (tags_in numbers))

-- the place of tag i
unfoldable pub place_in : List ℕ → ℕ → Place
place_in numbers i = record { from = get_or numbers (2 * i) 0; size = get_or numbers (2 * i + 1) 0 }

-- the places of the first n tags, in a row of sixteen
unfoldable pub placed : List ℕ → ℕ → List Place
placed numbers zero = replicate 16 nowhere
placed numbers (suc n) = set (placed numbers n) n (place_in numbers n)
