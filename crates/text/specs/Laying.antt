-- What a function promises that lays a piece of text into a lent buffer, whatever room there is.
use Rattle.std.specs.Prelude.{ℕ, ◌+◌, ◌≤◌, List, ◌≡◌, length, replicate}
use Rattle.std.proofs.lemmas.List.Edits.{sets}
use Rattle.frame.specs.Bytes.{pick, reaches}

-- the piece stands at `at`, and the result is the place behind it; where it has no room nothing is stored, and the result is `at`
pub record Laid (piece : List ℕ) (at : ℕ) (before after : List ℕ) (result : ℕ) : Type 0 where
  pub bytes_are : after ≡ pick (reaches before at (length piece)) (sets before at piece) before
  pub result_is : result ≡ pick (reaches before at (length piece)) (at + length piece) at

-- as `Laid`, for a piece of at most `most` bytes: where so many have no room, nothing is stored
pub record LaidWithin (most : ℕ) (piece : List ℕ) (at : ℕ) (before after : List ℕ) (result : ℕ) : Type 0 where
  pub bytes_are : after ≡ pick (reaches before at most) (sets before at piece) before
  pub result_is : result ≡ pick (reaches before at most) (at + length piece) at
  pub short : length piece ≤ most

unfoldable pub spaces : ℕ → List ℕ
spaces n = replicate n 32
