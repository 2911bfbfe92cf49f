-- Where the selection stands in the bytes that are lent for it.
use Rattle.std.specs.Prelude.{ℕ, List, leb, take, replicate}
use Rattle.frame.specs.Bytes.{pick}

-- The first `count` of the 39 lent bytes are the selection. More than there are stand for as many zeros, which no Set Select takes.
unfoldable pub selection_in : List ℕ → ℕ → List ℕ
selection_in bytes count = pick (leb count 39) (take count bytes) (replicate count 0)
