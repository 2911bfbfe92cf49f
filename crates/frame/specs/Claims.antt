-- The claims page of the frames: the words in which every other claims page speaks of bytes, pinned down byte by byte, and the round trip of a frame. A
-- number that is put together wrongly in definition and code alike would stand on both sides of the other pages' tables. Proved in
-- proofs/Claimed.antt.
use Rattle.std.specs.Prelude.{◌≡◌, ℕ, ◌+◌, ◌*◌, ◌^◌, ◌≤◌, List, [], ◌∷◌, ◌++◌, length, take, drop, slice_index}
use Rattle.frame.specs.Bytes.{byte, number, double, part}
use Rattle.frame.specs.Finding.{find}
use Rattle.frame.specs.Formats.{commands, code_in, parameters_in}
use Rattle.frame.specs.Frames.{sum, frame_of}
use Rattle.frame.specs.declared.finding.Found.TheVariants.{Accept}

-- "all two-byte numbers high byte first"; a password is four bytes in the same order; "the sum of all bytes"
pub record Words (bytes : List ℕ) (i n : ℕ) : Type 0 where
  pub byte_at : byte bytes i ≡ slice_index bytes i
  pub number_at : number bytes i ≡ byte bytes i * 2 ^ 8 + byte bytes (i + 1)
  pub double_at : double bytes i ≡ byte bytes i * 2 ^ 24 + byte bytes (i + 1) * 2 ^ 16 + byte bytes (i + 2) * 2 ^ 8 + byte bytes (i + 3)
  pub part_from : part bytes i n ≡ take n (drop i bytes)
  pub sum_of_none : sum [] ≡ 0
  pub sum_of_more : sum (n ∷ bytes) ≡ n + sum bytes

-- What the frame rules write, the finding rules read: a command frame, whatever bytes stand behind it, is accepted with its code and its parameters.
pub record ReadBack (code : ℕ) (p input : List ℕ) : Type 0 where
  pub accepted : find commands input ≡ Accept (length p)
  pub same_code : code_in input ≡ code
  pub same_parameters : parameters_in input ≡ p

abbrev pub RoundTrip : Type 0
RoundTrip = (code : ℕ) (p behind : List ℕ) → length p ≤ 80 → ReadBack code p (frame_of 0x00 code p ++ behind)
