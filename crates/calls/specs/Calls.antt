-- The step of a call as the code hands it back: memory, selection and output in the lent slices, the rest by value.
use Rattle.std.specs.Prelude.{ℕ, ◌+◌, ◌≤◌, ◌<◌, Bool, true, List, ◌≡◌, length}
use Rattle.std.proofs.lemmas.List.Edits.{sets}
use Rattle.machine.specs.Lent.{selection_in}
use Rattle.machine.specs.Machine.{State, state_of, call, Step, parameters_at, decide, unless, plain_error, select_taken, counted, step_unless}
use Rattle.calls.specs.declared.calling.Called.{Called}
use Rattle.machine.specs.declared.deciding.Aimed.{Aimed}
use Rattle.machine.specs.declared.deciding.Job.{Job}
use Rattle.machine.specs.declared.deciding.Job.TheVariants.{Stay, DropByte, Select, Miss, Aim}
use Rattle.frame.specs.Bytes.{pick, byte}
use Rattle.frame.specs.Frames.{written}
use Rattle.image.specs.Image.{good}
use Rattle.population.specs.Executing.{replaced}
use Rattle.population.specs.Places.{inside, image_at}
use Rattle.population.specs.Selections.{taken}
use Rattle.population.specs.declared.places.Place.{Place}
use Rattle.reader.specs.Tallies.{with_good, with_error}
use Rattle.reader.specs.declared.state.Reader.{Reader}
use Rattle.reader.specs.Readers.{reader_of}
use Rattle.reader.specs.declared.outcome.Outcome.{Outcome}
use Rattle.reader.specs.declared.outcome.Outcome.TheVariants.{Answered}
use Rattle.tag.specs.Answers.{answer, changed, is_error}
use Rattle.tag.specs.Errors.{Verdict}

-- what a call hands back by value
abbrev pub called_of : Outcome → ℕ → Reader → ℕ → ℕ → Called
called_of outcome length reader next count =
    record { outcome = outcome; length = length; state = record { reader = reader; next = next; selected = count } }

abbrev pub step_of : Called → List ℕ → List Place → ℕ → List ℕ → List ℕ → Step
step_of r memory places tags selection output =
    record {
      outcome = r.outcome;
      length = r.length;
      next = state_of memory places tags (selection_in selection r.state.selected) output r.state.reader r.state.next;
    }

-- ---- all 39 lent bytes, and how many of them are the selection
pub record Lent : Type 0 where
  pub bytes : List ℕ
  pub count : ℕ

abbrev pub lent_of : List ℕ → ℕ → Lent
lent_of bytes count = record { bytes = bytes; count = count }

-- A Set Select that is taken: its parameters stand in front, the bytes behind them stay, and the count is their number.
unfoldable pub with_selected : List ℕ → Lent → Lent
with_selected p l = pick (taken p) (lent_of (sets l.bytes 0 p) (length p)) l

-- No other job changes a byte or the count.
unfoldable pub lent_after : List ℕ → ℕ → Lent → Job → Lent
lent_after input cursor l (Stay outcome) = l
lent_after input cursor l (DropByte r) = l
lent_after input cursor l (Select pl) = with_selected (parameters_at input cursor pl) l
lent_after input cursor l (Miss e pl) = l
lent_after input cursor l (Aim a) = l

unfoldable pub lent_by : Bool → List ℕ → State → Lent → Lent
lent_by list_full input s l = lent_after input s.reader.cursor l (unless list_full (decide input s))

-- What stands in front of them is the machine's selection after a call as before it, for any input of bytes. It is proved in proofs/Callers.antt.
abbrev pub LentSelection : Type 0
LentSelection =
    (list_full : Bool) (input : List ℕ) (s : State) (l : Lent)
    → ((i : ℕ) → byte input i < 256)
    → length l.bytes ≡ 39
    → selection_in l.bytes l.count ≡ s.selection
    → selection_in (lent_by list_full input s l).bytes (lent_by list_full input s l).count ≡ (step_unless list_full (call input) s).next.selection

-- ---- in parts

-- a command for one tag: its image is good, and the answer has room
pub record Ready (memory output : List ℕ) (place : Place) : Type 0 where
  pub there : inside memory place ≡ true
  pub image_good : good (image_at memory place) ≡ true
  pub room : 136 ≤ length output

-- what the tests have shown of a job, before it is done: the bytes that it looks at are there, and an answer has room
pub record Framed (input output : List ℕ) (reader : Reader) (pl : ℕ) : Type 0 where
  pub frame_there : reader.cursor + (7 + pl) ≤ length input
  pub room : 136 ≤ length output

pub record Aimable (input memory output : List ℕ) (a : Aimed) : Type 0 where
  pub ready : Ready memory output a.place
  pub parameters_there : a.first + a.pl ≤ length input
  pub numbered : a.number < 16

abbrev pub Doable : List ℕ → List ℕ → List ℕ → Reader → Job → Type 0
Doable input memory output reader (Stay outcome) = Unit
Doable input memory output reader (DropByte r) = reader.cursor < length input
Doable input memory output reader (Select pl) = Framed input output reader pl
Doable input memory output reader (Miss e pl) = Framed input output reader pl
Doable input memory output reader (Aim a) = Aimable input memory output a

-- what `aim` promises of memory and output, those that it leaves, and its result
pub record AimDone (memory output p : List ℕ) (a : Aimed) (reader : Reader) (next count : ℕ) (act : Verdict) (memory_left output_left : List ℕ) (r : Called) : Type 0 where
  pub memory_is : memory_left ≡ replaced memory a.place (changed (image_at memory a.place) p act)
  pub output_is : output_left ≡ written (answer (image_at memory a.place) act) output
  pub result_is : r
      ≡ called_of Answered (length (answer (image_at memory a.place) act)) (reader_of a.behind (counted act reader.tally)) (pick (is_error act) 16 next)
      count

-- an answer of the reader itself, with no tag left to hand out
pub record Told (frame output output_left : List ℕ) (reader : Reader) (count : ℕ) (r : Called) : Type 0 where
  pub output_is : output_left ≡ written frame output
  pub result_is : r ≡ called_of Answered (length frame) reader 16 count

-- Set Select: the selection becomes the parameters `p`, where they are such as it takes
pub record Selected (bytes output p : List ℕ) (reader : Reader) (count behind : ℕ) (bytes_left output_left : List ℕ) (r : Called) : Type 0 where
  pub selection_is : selection_in bytes_left r.state.selected ≡ pick (taken p) p (selection_in bytes count)
  pub lent_is : lent_of bytes_left r.state.selected ≡ with_selected p (lent_of bytes count)
  pub output_is : output_left ≡ written (pick (taken p) select_taken (plain_error 0x17)) output
  pub outcome_is : r.outcome ≡ Answered
  pub length_is : r.length ≡ length (pick (taken p) select_taken (plain_error 0x17))
  pub reader_is : r.state.reader ≡ reader_of behind (pick (taken p) (with_good reader.tally) (with_error reader.tally))
  pub next_is : r.state.next ≡ 16
