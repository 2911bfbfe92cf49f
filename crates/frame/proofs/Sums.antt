-- Laws of the sum of bytes: one byte more, and none left.
use Rattle.std.proofs.Common.{◌≡◌, ℕ, ◌+◌, ◌<◌, ◌≤◌, List, length, get_or, drop, add-one, drop_of_length-le, drop-cons}
use Rattle.frame.specs.Frames.{sum}

-- the sum from i on is the byte at i with the sum behind it
pub sum_next : (bytes : List ℕ) (i : ℕ) → i < length bytes → sum (drop i bytes) ≡ get_or bytes i 0 + sum (drop (i + 1) bytes)
unfolding sum
sum_next bytes i inside = rw (add-one, drop-cons bytes i 0)

pub sum_behind : (bytes : List ℕ) (i : ℕ) → length bytes ≤ i → sum (drop i bytes) ≡ 0
unfolding sum
sum_behind bytes i behind = rw (drop_of_length-le bytes behind)
