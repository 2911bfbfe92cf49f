-- Closing a frame round parameters that already stand where they go, in bytes 5 to 5 + PL of the output. Where the frame
-- does not fit, or is longer than any answer, nothing is written.
use Rattle.std.specs.Prelude.{◌≡◌, ℕ, Bool, ◌&&◌, List, length, nat_le}
use Rattle.frame.specs.Bytes.{pick, part}
use Rattle.frame.specs.Frames.{frame_of, frame_length, longest_answer, written}

-- "Answers have at most 136 bytes."
unfoldable pub closable : ℕ → List ℕ → Bool
closable pl output = nat_le (frame_length pl) longest_answer && nat_le (frame_length pl) (length output)

-- the output after
unfoldable pub closed : ℕ → ℕ → ℕ → List ℕ → List ℕ
closed type code pl output = pick (closable pl output) (written (frame_of type code (part output 5 pl)) output) output

-- the bytes written
unfoldable pub closed_length : ℕ → List ℕ → ℕ
closed_length pl output = pick (closable pl output) (frame_length pl) 0

-- what `close` promises of the output it was lent, the output it leaves and its result
pub record Closing (type code pl : ℕ) (before after : List ℕ) (result : ℕ) : Type 0 where
  pub output_is : after ≡ closed type code pl before
  pub length_is : result ≡ closed_length pl before
