-- A piece of the report: which steps' lines go into a buffer, and what is left to tell behind it.
use Rattle.std.specs.Prelude.{ℕ, ◌-◌, Bool, List, [], ◌∷◌, ◌++◌, eqb, ltb, length, replicate}
use Rattle.machine.specs.Machine.{State, call, Step, after}
use Rattle.frame.specs.Bytes.{pick}
use Rattle.report.specs.Lines.{longest_line, line_of}
use Rattle.report.specs.Report.{steps_from, lines_of}

-- the steps whose lines go into `room` bytes: the next one as long as the longest line still has room
unfoldable pub fitting : List ℕ → ℕ → State → List Step → List Step
fitting input room s [] = []
fitting input room s (x ∷ rest) =
    pick (ltb room longest_line) [] (x ∷ fitting input (room - length (line_of input s x)) x.next rest)

unfoldable pub piece_of : List ℕ → ℕ → Bool → State → List Step
piece_of input room over s = fitting input room s (steps_from input over s)

-- the state that a piece leaves: as many calls are made as it has steps
unfoldable pub left_by : List ℕ → ℕ → Bool → State → State
left_by input room over s = after (replicate (length (piece_of input room over s)) (call input)) s

-- the report is over behind a piece that has all the steps
unfoldable pub over_by : List ℕ → ℕ → Bool → State → Bool
over_by input room over s = eqb (length (piece_of input room over s)) (length (steps_from input over s))

-- ---- pieces one behind the other

-- the bytes of the pieces together, and where the report stands behind them
pub record Together : Type 0 where
  pub bytes : List ℕ
  pub over : Bool
  pub state : State

-- for buffers of these lengths, each piece from where the one before left off
unfoldable pub pieces : List ℕ → List ℕ → Bool → State → Together
pieces input [] over s = record { bytes = []; over = over; state = s }
pieces input (room ∷ rooms) over s =
    record {
      bytes =
          lines_of input s (piece_of input room over s)
          ++ (pieces input rooms (over_by input room over s) (left_by input room over s)).bytes;
      over = (pieces input rooms (over_by input room over s) (left_by input room over s)).over;
      state = (pieces input rooms (over_by input room over s) (left_by input room over s)).state;
    }
