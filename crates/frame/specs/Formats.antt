-- Frame formats: five bytes in front of the parameters (head, a second byte, two more, the last of the length), two behind. The finding rules, and what
-- is proved of them, are over any format; the reader's commands are one.
use Rattle.std.specs.Prelude.{ℕ, ◌+◌, Bool, List, ◌==◌, nat_eq}
use Rattle.frame.specs.Bytes.{byte, number, part}
use Rattle.frame.specs.Frames.{check_of, longest_command}

-- Of the bytes from the head on: which second bytes are right, how many parameter bytes there are and how many there may be, and what makes check
-- and end of a frame with n of them right.
pub record Format : Type 0 where
  pub head : ℕ
  pub second_right : ℕ → Bool
  pub length_in : List ℕ → ℕ
  pub longest : ℕ
  pub check_right : ℕ → List ℕ → Bool
  pub end_right : ℕ → List ℕ → Bool

-- "BB, type, code, PL as two bytes high first, PL parameter bytes, check, 7E": where a frame's fields stand
unfoldable pub code_in : List ℕ → ℕ
code_in rest = byte rest 2

unfoldable pub pl_in : List ℕ → ℕ
pl_in rest = number rest 3

unfoldable pub parameters_in : List ℕ → List ℕ
parameters_in rest = part rest 5 (pl_in rest)

-- "Check is the sum of all bytes from type to the last parameter, modulo 256."
unfoldable pub sum_right : ℕ → List ℕ → Bool
sum_right n rest = byte rest (5 + n) == check_of (part rest 1 (4 + n))

unfoldable pub last_right : ℕ → List ℕ → Bool
last_right n rest = byte rest (6 + n) == 0x7E

-- the reader protocol's frames, for the types and the longest PL that are asked for
abbrev pub reader_frames : (ℕ → Bool) → ℕ → Format
reader_frames types most =
    record { head = 0xBB; second_right = types; length_in = pl_in; longest = most; check_right = sum_right; end_right = last_right }

-- "Type 00 is a command"; "Commands here have PL at most 80"
abbrev pub commands : Format
commands = reader_frames (λ type. nat_eq type 0x00) longest_command
