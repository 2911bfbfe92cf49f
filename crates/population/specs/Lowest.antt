-- P5: "the lowest-numbered present tag that matches".
use Rattle.std.specs.Prelude.{ℕ, zero, suc, ◌+◌, ◌-◌, Bool, ◌&&◌, List, Option, None, Some, eqb, ltb}
use Rattle.frame.specs.Bytes.{pick, byte}
use Rattle.population.specs.Matching.{matches}
use Rattle.population.specs.Places.{place_at, inside, image_at}
use Rattle.population.specs.declared.places.Place.{Place}

-- an image is that of a present tag ("22 | 0 present") that matches; and the tag at a place of the memory
unfoldable pub selected_image : List ℕ → List ℕ → Bool
selected_image s image = eqb (byte image 22) 0 && matches image s

unfoldable pub selected : List ℕ → List ℕ → Place → Bool
selected memory s p = inside memory p && selected_image s (image_at memory p)

unfoldable pub selected_at : List ℕ → List ℕ → List Place → ℕ → Bool
selected_at memory s places i = selected memory s (place_at places i)

-- no tag, and tag n at its place
abbrev pub no_tag : Option (ℕ × Place)
no_tag = None

abbrev pub tag_at : ℕ → Place → Option (ℕ × Place)
tag_at n p = Some (n, p)

-- the first of the k tags from number i on that passes a test
unfoldable pub first_tag : (ℕ → Bool) → List Place → ℕ → ℕ → Option (ℕ × Place)
first_tag test places i zero = None
first_tag test places i (suc k) = pick (test i) (Some (i, place_at places i)) (first_tag test places (i + 1) k)

-- from number `start` on; more than sixteen tags are none
unfoldable pub lowest : List ℕ → ℕ → List Place → List ℕ → ℕ → Option (ℕ × Place)
lowest memory tags places s start =
    pick (ltb 16 tags) None (first_tag (selected_at memory s places) places start (tags - start))
