-- P5: "A crate holds up to 16 tags, each with its place in one lent memory and its own image; more tags, places that overlap or leave the memory, a
-- bad image .. make it bad". The crate of tags is called a population here, as the Gen2 standard does.
use Rattle.std.specs.Prelude.{ℕ, ◌+◌, Bool, ◌&&◌, ◌||◌, List, leb, get_or}
use Rattle.frame.specs.Bytes.{part, reaches}
use Rattle.image.specs.Image.{good}
use Rattle.population.specs.Below.{all_below}
use Rattle.population.specs.declared.places.Place.{Place}

-- what the list of places reads as behind its end
abbrev pub nowhere : Place
nowhere = record { from = 0; size = 0 }

-- the place of tag i
unfoldable pub place_at : List Place → ℕ → Place
place_at places i = get_or places i nowhere

-- all bytes of a place are in the memory; and these bytes
unfoldable pub inside : List ℕ → Place → Bool
inside memory p = reaches memory p.from p.size

unfoldable pub image_at : List ℕ → Place → List ℕ
image_at memory p = part memory p.from p.size

-- the one ends before the other begins
unfoldable pub apart : Place → Place → Bool
apart p q = leb (p.from + p.size) q.from || leb (q.from + q.size) p.from

unfoldable pub apart_from : List Place → ℕ → ℕ → Bool
apart_from places i j = apart (place_at places i) (place_at places j)

-- place i overlaps none before it. Of all tags, these are all pairs.
unfoldable pub apart_below : List Place → ℕ → Bool
apart_below places i = all_below (apart_from places i) i

-- an image that is there and good
unfoldable pub good_alone : List ℕ → Place → Bool
good_alone memory p = inside memory p && good (image_at memory p)

unfoldable pub good_at : List ℕ → List Place → ℕ → Bool
good_at memory places i =
    inside memory (place_at places i) && (apart_below places i && good (image_at memory (place_at places i)))

unfoldable pub good_population : List ℕ → ℕ → List Place → Bool
good_population memory tags places = leb tags 16 && all_below (good_at memory places) tags
