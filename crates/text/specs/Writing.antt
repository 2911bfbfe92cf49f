-- What a function promises of the writer that it was lent: what it lays or puts, and that the writer keeps the reference to its buffer, so that the one who
-- lent the buffer knows what stands there in the end.
use Rattle.std.specs.Prelude.{ℕ, ◌+◌, ◌-◌, ◌≤◌, List, ◌≡◌, length}
use Rattle.frame.specs.Putting.{Put}
use Rattle.text.specs.Digits.{decimal}
use Rattle.text.specs.Laying.{Laid, LaidWithin}
use Rattle.text.specs.declared.writer.Writer.{Writer}

-- the piece is laid at the writer's place, which is behind it then; where it has no room all stays
pub record Lays (piece : List ℕ) (before after : Writer) : Type 0 where
  pub same_reference : after.buffer.ghost_name ≡ before.buffer.ghost_name
  pub laid : Laid piece before.at before.buffer.now after.buffer.now after.at

-- as `Lays`, for a piece of at most `most` bytes: where so many have no room all stays
pub record LaysWithin (most : ℕ) (piece : List ℕ) (before after : Writer) : Type 0 where
  pub same_reference : after.buffer.ghost_name ≡ before.buffer.ghost_name
  pub laid : LaidWithin most piece before.at before.buffer.now after.buffer.now after.at

-- a piece of at most `most` bytes is put where so many have room: what a function promises that puts its pieces one behind the other
pub record Puts (most : ℕ) (piece : List ℕ) (before after : Writer) : Type 0 where
  pub same_reference : after.buffer.ghost_name ≡ before.buffer.ghost_name
  pub same_length : length after.buffer.now ≡ length before.buffer.now
  pub short : length piece ≤ most
  pub put : before.at + most ≤ length before.buffer.now → Put piece before.at before.buffer.now after.buffer.now after.at

-- The buffer holds these bytes, and the writer may stand anywhere: what a function promises that writes over rows that stand there already.
pub record Holds (bytes : List ℕ) (before after : Writer) : Type 0 where
  pub same_reference : after.buffer.ghost_name ≡ before.buffer.ghost_name
  pub same_length : length after.buffer.now ≡ length before.buffer.now
  pub bytes_are : after.buffer.now ≡ bytes

-- a number ends with the last of so many columns, or is longer than they are and begins with the first; what lies before it stays
pub record PutsRight (columns n : ℕ) (before after : Writer) : Type 0 where
  pub same_reference : after.buffer.ghost_name ≡ before.buffer.ghost_name
  pub same_length : length after.buffer.now ≡ length before.buffer.now
  pub put : before.at + columns ≤ length before.buffer.now → before.at + length (decimal n) ≤ length before.buffer.now
      → Put (decimal n) (before.at + (columns - length (decimal n))) before.buffer.now after.buffer.now after.at
