-- What the functions that write the report promise.
use Rattle.std.specs.Prelude.{ℕ, ◌-◌, ◌≤◌, ◌<◌, Bool, false, List, ◌≡◌, length, take, replicate}
use Rattle.machine.specs.Lent.{selection_in}
use Rattle.machine.specs.Machine.{State, state_of, call, step}
use Rattle.calls.specs.declared.calling.Called.{Called}
use Rattle.failures.specs.Records.{blank}
use Rattle.frame.specs.Bytes.{byte}
use Rattle.frame.specs.Frames.{written}
use Rattle.population.specs.declared.places.Population.{Population}
use Rattle.reader.specs.Readers.{fresh_bench}
use Rattle.report.specs.Lines.{longest_line, line_for, line_of, ends}
use Rattle.report.specs.Pieces.{piece_of, left_by, over_by}
use Rattle.report.specs.Report.{lines_of}
use Rattle.report.specs.declared.writing.Progress.{Progress}
use Rattle.text.specs.Writing.{Puts}
use Rattle.text.specs.declared.writer.Writer.{Writer}

-- ---- one call and its line

-- a frame that a call answered with has a length, and stands in the output
pub record Framed (length most : ℕ) : Type 0 where
  pub some : 0 < length
  pub at_most_136 : length ≤ 136
  pub there : length ≤ most

-- the line of a call that was made at the cursor
abbrev pub line_by : List ℕ → ℕ → Called → List ℕ → List ℕ
line_by input cursor r output =
    line_for r.outcome (take r.length output) (byte input cursor) r.state.reader.tally (length input - r.state.reader.cursor)

-- ---- a piece of the report

-- the state that a report goes on from
abbrev pub state_at : List ℕ → Population → List ℕ → List ℕ → Progress → State
state_at memory population bytes output p =
    state_of memory population.places population.tags (selection_in bytes p.state.selected) output p.state.reader p.state.next

abbrev pub started : Progress
started = record { state = fresh_bench; records = replicate 8 blank; held = 0; over = false }

-- one call is made, its line is put, and the state is the one that the call leaves
pub record OneLine (input : List ℕ) (s : State) (before after : Writer) (next : State) (over : Bool) : Type 0 where
  pub line : Puts longest_line (line_of input s (step (call input) s)) before after
  pub next_is : next ≡ (step (call input) s).next
  pub over_is : over ≡ ends (step (call input) s).outcome

-- a buffer shorter than the longest line is refused: nothing changes
pub record Refused (before after : List ℕ) (p q : Progress) (s next : State) : Type 0 where
  pub short : length before < longest_line
  pub buffer_is : after ≡ before
  pub progress_is : q ≡ p
  pub next_is : next ≡ s

-- What `write` comes to, in any other buffer: the lines of the piece stand at its start, and what lies behind them stays. The state is the one after as many
-- calls as the piece has steps.
pub record Wrote (input before after : List ℕ) (s : State) (over : Bool) (next : State) (last : Bool) (used : ℕ) : Type 0 where
  pub long : longest_line ≤ length before
  pub used_is : used ≡ length (lines_of input s (piece_of input (length before) over s))
  pub within : used ≤ length before
  pub buffer_is : after ≡ written (lines_of input s (piece_of input (length before) over s)) before
  pub next_is : next ≡ left_by input (length before) over s
  pub over_is : last ≡ over_by input (length before) over s

-- ---- a report that is one line

-- the line stands at the start, and the buffer behind it stays; where it has no room, nothing is written
pub record Told (line before after : List ℕ) (used : ℕ) : Type 0 where
  pub short : length before < length line → (used ≡ 0) × (after ≡ before)
  pub long : length line ≤ length before → (used ≡ length line) × (after ≡ written line before)
