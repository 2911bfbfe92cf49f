-- A text that is told part by part, each from a state that the one before left, and written in pieces that fit a buffer.
use Rattle.std.specs.Prelude.{ℕ, zero, suc, ◌-◌, ◌≤◌, Bool, ◌||◌, List, [], ◌∷◌, ◌++◌, ◌≡◌, ltb, length}
use Rattle.frame.specs.Bytes.{pick}
use Rattle.frame.specs.Frames.{written}

-- what is told from a state, the state that this leaves, whether it is the last part, and how many more there may be
pub record Teller (S : Type 0) : Type 0 where
  pub part : S → List ℕ
  pub next : S → S
  pub last : S → Bool
  pub work : S → ℕ

-- as many parts as may be left
unfoldable pub left : {S : Type 0} → Teller S → Bool → S → ℕ
left t over s = pick over 0 (suc (t.work s))

unfoldable pub text_by : {S : Type 0} → ℕ → Teller S → S → List ℕ
text_by zero t s = []
text_by (suc n) t s = t.part s ++ pick (t.last s) [] (text_by n t (t.next s))

-- the text from a state on; of one that is over nothing is left
unfoldable pub text_from : {S : Type 0} → Teller S → Bool → S → List ℕ
text_from t over s = pick over [] (text_by (left t over s) t s)

-- ---- a piece

-- its bytes, and where the text stands behind it
pub record Piece (S : Type 0) : Type 0 where
  pub bytes : List ℕ
  pub over : Bool
  pub state : S

abbrev pub nothing : {S : Type 0} → Bool → S → Piece S
nothing over s = record { bytes = []; over = over; state = s }

abbrev pub behind : {S : Type 0} → List ℕ → Piece S → Piece S
behind bytes p = record { bytes = bytes ++ p.bytes; over = p.over; state = p.state }

-- the next part goes in as long as the longest, of `most` bytes, has room
unfoldable pub fill_by : {S : Type 0} → ℕ → Teller S → ℕ → ℕ → Bool → S → Piece S
fill_by zero t most room over s = nothing over s
fill_by (suc n) t most room over s =
    pick (over || ltb room most) (nothing over s)
    (behind (t.part s) (fill_by n t most (room - length (t.part s)) (t.last s) (t.next s)))

unfoldable pub fill : {S : Type 0} → Teller S → ℕ → ℕ → Bool → S → Piece S
fill t most room over s = fill_by (left t over s) t most room over s

-- pieces one behind the other, for buffers of these lengths
unfoldable pub pieces : {S : Type 0} → Teller S → ℕ → List ℕ → Bool → S → Piece S
pieces t most [] over s = nothing over s
pieces t most (room ∷ rooms) over s =
    behind (fill t most room over s).bytes (pieces t most rooms (fill t most room over s).over (fill t most room over s).state)

-- What a function promises that writes a piece into a buffer: its bytes stand at the start, and what lies behind them stays.
pub record Wrote {S : Type 0} (p : Piece S) (before after : List ℕ) (used : ℕ) (over : Bool) (s : S) : Type 0 where
  pub used_is : used ≡ length p.bytes
  pub within : used ≤ length before
  pub buffer_is : after ≡ written p.bytes before
  pub over_is : over ≡ p.over
  pub state_is : s ≡ p.state
