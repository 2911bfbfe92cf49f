-- Request P5 over document 01, "Demand 2's machine": a state, one step for each call, and the run of a list of calls. A step is decided first, test by
-- test, and then carried out.
use Rattle.std.specs.Prelude.{ℕ, ◌+◌, ◌-◌, ◌*◌, ◌/◌, Bool, false, not, List, [], ◌∷◌, eqb, leb, ltb, length, drop}
use Rattle.reader.specs.Outcomes.{number_of}
use Rattle.reader.specs.Readers.{reader_of}
use Rattle.reader.specs.declared.outcome.Outcome.{Outcome}
use Rattle.reader.specs.declared.outcome.Outcome.TheVariants.{Answered, AtEnd, Incomplete, Dropped, PastEnd, BadImage, ShortOutput, FullTally, FullList}
use Rattle.machine.specs.declared.deciding.Aimed.{Aimed}
use Rattle.machine.specs.declared.deciding.Job.{Job}
use Rattle.machine.specs.declared.deciding.Job.TheVariants.{Stay, DropByte, Select, Miss, Aim}
use Rattle.frame.specs.Bytes.{pick, byte, part}
use Rattle.frame.specs.Finding.{find}
use Rattle.frame.specs.Formats.{commands}
use Rattle.frame.specs.Frames.{frame_of, frame_length, longest_answer, written}
use Rattle.frame.specs.declared.finding.Found.{Found}
use Rattle.frame.specs.declared.finding.Found.TheVariants.{End, Drop, Wait, Accept}
use Rattle.frame.specs.declared.finding.Reason.{Reason}
use Rattle.population.specs.Executing.{replaced}
use Rattle.population.specs.Lowest.{lowest}
use Rattle.population.specs.Places.{image_at, good_population}
use Rattle.population.specs.Selections.{taken, good_selection}
use Rattle.std.specs.Prelude.{Option, None, Some}
use Rattle.population.specs.declared.places.Place.{Place}
use Rattle.reader.specs.Tallies.{full, with_good, with_error, with_dropped}
use Rattle.reader.specs.declared.state.Reader.{Reader}
use Rattle.reader.specs.declared.tally.Tally.{Tally}
use Rattle.tag.specs.Answers.{answer, changed, is_error}
use Rattle.tag.specs.Commands.{parse, act_of}
use Rattle.tag.specs.Errors.{Verdict}
use Rattle.tag.specs.declared.commands.Parsed.{Parsed}
use Rattle.tag.specs.declared.commands.Parsed.TheVariants.{Malformed, Inventory, Read, Write, Lock, Kill}

-- "A crate holds up to 16 tags, each with its place in one lent memory". The selection is the parameters of the Set Select that made it, none where it is
-- empty; `next` is the number of the first tag that may still be handed out, and 16 is none.
pub record State : Type 0 where
  pub memory : List ℕ
  pub places : List Place
  pub tags : ℕ
  pub selection : List ℕ
  pub output : List ℕ
  pub reader : Reader
  pub next : ℕ

abbrev pub state_of : List ℕ → List Place → ℕ → List ℕ → List ℕ → Reader → ℕ → State
state_of memory places tags selection output reader next =
    record { memory = memory; places = places; tags = tags; selection = selection; output = output; reader = reader; next = next }

-- "A list of calls feeds it the input bytes of each call."
pub data Call : Type 0 where
  call : List ℕ → Call

-- "It gives an answer number, a length and the next state."
pub record Step : Type 0 where
  pub outcome : Outcome
  pub length : ℕ
  pub next : State

-- ---- what a call is to do

-- the code and the `pl` parameter bytes of the frame at the cursor
unfoldable pub code_at : List ℕ → ℕ → ℕ
code_at input cursor = byte input (cursor + 2)

unfoldable pub parameters_at : List ℕ → ℕ → ℕ → List ℕ
parameters_at input cursor pl = part input (cursor + 5) pl

-- "or answer as with no tag": document 01's plain errors for a state that is not 0, behind the plain 17 of code and fields; inventory "with none .. answers
-- plain 15"
unfoldable pub error_without : Parsed → ℕ
error_without Malformed = 0x17
error_without Inventory = 0x15
error_without (Read password bank pointer count) = 0x09
error_without (Write password bank pointer count) = 0x10
error_without (Lock password mask action) = 0x13
error_without (Kill password) = 0x12

-- "Read, Write, Lock and Kill go to the lowest-numbered present tag that matches", and so does an inventory, which hands it out
unfoldable pub aim_job : List ℕ → ℕ → ℕ → Option (ℕ × Place) → Job
aim_job input cursor pl None = Miss (error_without (parse (code_at input cursor) (parameters_at input cursor pl))) pl
aim_job input cursor pl (Some (number, place)) =
    Aim
    record { number = number; place = place; code = code_at input cursor; first = cursor + 5; pl = pl; behind = cursor + frame_length pl }

-- an accepted command; Set Select looks at no tag
unfoldable pub command_job : List ℕ → List ℕ → ℕ → List Place → List ℕ → ℕ → ℕ → Job
command_job input memory tags places selection cursor pl =
    pick (eqb (code_at input cursor) 0x0C) (Select pl) (aim_job input cursor pl (lowest memory tags places selection 0))

unfoldable pub found_job : List ℕ → List ℕ → ℕ → List Place → List ℕ → ℕ → Found → Job
found_job input memory tags places selection cursor End = Stay AtEnd
found_job input memory tags places selection cursor Wait = Stay Incomplete
found_job input memory tags places selection cursor (Drop r) = DropByte r
found_job input memory tags places selection cursor (Accept pl) = command_job input memory tags places selection cursor pl

unfoldable pub find_job : List ℕ → List ℕ → ℕ → List Place → List ℕ → ℕ → Job
find_job input memory tags places selection cursor =
    found_job input memory tags places selection cursor (find commands (drop cursor input))

-- "Inventory hands out each matching present tag exactly once, in rising number, one per call, then takes the next command": an inventory with no
-- parameters at that tag. "The cursor moves with the first of them only".
unfoldable pub hand_out : ℕ → Job → Option (ℕ × Place) → Job
hand_out cursor else None = else
hand_out cursor else (Some (number, place)) =
    Aim record { number = number; place = place; code = 0x22; first = 0; pl = 0; behind = cursor }

-- "one no longer present and matching at its turn is passed over"
unfoldable pub waiting : State → Option (ℕ × Place)
waiting s = lowest s.memory s.tags s.places s.selection s.next

-- "Tests in the order 10, 11, 12, 13, then the finding rules"; "a selection that is neither empty nor one that Set Select takes" is among those that "make it
-- bad (11)"
unfoldable pub decide : List ℕ → State → Job
decide input s =
    pick (ltb (length input) s.reader.cursor) (Stay PastEnd)
    (pick (not (good_selection s.selection)) (Stay BadImage)
    (pick (not (good_population s.memory s.tags s.places)) (Stay BadImage)
    (pick (ltb (length s.output) longest_answer) (Stay ShortOutput)
    (pick (full s.reader.tally) (Stay FullTally)
    (hand_out s.reader.cursor (find_job input s.memory s.tags s.places s.selection s.reader.cursor) (waiting s))))))

-- ---- and what that comes to

-- "Each answer 0 or 3 raises exactly one of them by one"
unfoldable pub counted : Verdict → Tally → Tally
counted act t = pick (is_error act) (with_error t) (with_good t)

-- "Under 1, 2 and 10 to 13 the next state is the old one"
unfoldable pub unchanged : State → Outcome → Step
unchanged s outcome = record { outcome = outcome; length = 0; next = s }

-- "under 3 only cursor and tally change"
unfoldable pub dropped : State → Reason → Step
dropped s r =
    record {
      outcome = Dropped r;
      length = 0;
      next =
          state_of s.memory s.places s.tags s.selection s.output
          (reader_of (s.reader.cursor + 1) (with_dropped r s.reader.tally)) s.next;
    }

-- an answer of the reader itself: the memory stays, and no tag is left to hand out
unfoldable pub told : State → List ℕ → List ℕ → Reader → Step
told s frame selection reader =
    record {
      outcome = Answered;
      length = length frame;
      next = state_of s.memory s.places s.tags selection (written frame s.output) reader 16;
    }

-- "anything else, or the Reserved bank, is plain 17"; "It answers 00"
abbrev pub plain_error : ℕ → List ℕ
plain_error e = frame_of 0x01 0xFF (e ∷ [])

abbrev pub select_taken : List ℕ
select_taken = frame_of 0x01 0x0C (0x00 ∷ [])

unfoldable pub selecting : State → List ℕ → ℕ → Step
selecting s p behind =
    pick (taken p) (told s select_taken p (reader_of behind (with_good s.reader.tally)))
    (told s (plain_error 0x17) s.selection (reader_of behind (with_error s.reader.tally)))

unfoldable pub missed : State → ℕ → ℕ → Step
missed s e behind = told s (plain_error e) s.selection (reader_of behind (with_error s.reader.tally))

-- Only an inventory that found a tag leaves tags to hand out: those behind it.
unfoldable pub next_after : Aimed → Verdict → ℕ
next_after a act = pick (is_error act) 16 (pick (eqb a.code 0x22) (a.number + 1) 16)

-- the image that a command for one tag is for, and what the command comes to on it
unfoldable pub image_for : State → Aimed → List ℕ
image_for s a = image_at s.memory a.place

unfoldable pub act_for : State → Aimed → List ℕ → Verdict
act_for s a p = act_of (image_for s a) a.code p

unfoldable pub acted : State → Aimed → List ℕ → Verdict → Step
acted s a p act =
    record {
      outcome = Answered;
      length = length (answer (image_for s a) act);
      next =
          state_of (replaced s.memory a.place (changed (image_for s a) p act)) s.places s.tags s.selection
          (written (answer (image_for s a) act) s.output) (reader_of a.behind (counted act s.reader.tally)) (next_after a act);
    }

unfoldable pub aimed : State → Aimed → List ℕ → Step
aimed s a p = acted s a p (act_for s a p)

unfoldable pub carried_out : List ℕ → State → Job → Step
carried_out input s (Stay outcome) = unchanged s outcome
carried_out input s (DropByte r) = dropped s r
carried_out input s (Select pl) = selecting s (parameters_at input s.reader.cursor pl) (s.reader.cursor + frame_length pl)
carried_out input s (Miss e pl) = missed s e (s.reader.cursor + frame_length pl)
carried_out input s (Aim a) = aimed s a (part input a.first a.pl)

-- "A call looks at the input from the cursor"
unfoldable pub input_of : Call → List ℕ
input_of (call input) = input

unfoldable pub rest_of : Call → State → List ℕ
rest_of c s = drop s.reader.cursor (input_of c)

unfoldable pub step : Call → State → Step
step c s = carried_out (input_of c) s (decide (input_of c) s)

-- P12: "With the list full every call .. answers 14, tested after 13": a call that none of 10 to 13 refuses
unfoldable pub is_refused : Job → Bool
is_refused (Stay outcome) = leb 10 (number_of outcome)
is_refused (DropByte r) = false
is_refused (Select pl) = false
is_refused (Miss e pl) = false
is_refused (Aim a) = false

unfoldable pub unless : Bool → Job → Job
unless full job = pick full (pick (is_refused job) job (Stay FullList)) job

unfoldable pub step_unless : Bool → Call → State → Step
step_unless full c s = carried_out (input_of c) s (unless full (decide (input_of c) s))

-- Each answer 0 or 3 lowers this, so that it bounds the calls that take something: a byte that is left; 15 for each inventory that may still come, which has seven
-- bytes, and answers with one tag itself; and the tags that may still be handed out.
unfoldable pub tags_left : Option (ℕ × Place) → ℕ
tags_left None = 0
tags_left (Some (number, place)) = 16 - number

unfoldable pub bytes_left : List ℕ → State → ℕ
bytes_left input s = length input - s.reader.cursor

unfoldable pub work : List ℕ → State → ℕ
work input s = bytes_left input s + 15 * (bytes_left input s / 7) + tags_left (waiting s)

-- "The steps run in the order of the list of calls, each from the state that the one before left; an empty list of calls
-- leaves the start."
unfoldable pub run : List Call → State → List Step
run [] s = []
run (c ∷ calls) s = step c s ∷ run calls (step c s).next

unfoldable pub after : List Call → State → State
after [] s = s
after (c ∷ calls) s = after calls (step c s).next
