-- What a function that puts a piece into a slice promises of it.
use Rattle.std.specs.Prelude.{◌≡◌, ℕ, ◌+◌, List, length}
use Rattle.std.proofs.lemmas.List.Edits.{sets}

-- the piece stands at `at`, and the result is the place behind it
pub record Put (piece : List ℕ) (at : ℕ) (before after : List ℕ) (result : ℕ) : Type 0 where
  pub output_is : after ≡ sets before at piece
  pub next_is : result ≡ at + length piece
