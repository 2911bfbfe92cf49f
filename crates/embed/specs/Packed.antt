-- The packed state: how thirteen numbers are a reader's state, a length, a reason, the hand-out, the selection's length and the number of records held, and
-- one call on it, beside the list of failures.
use Rattle.std.specs.Prelude.{ℕ, ◌+◌, ◌%◌, Bool, true, false, not, ◌||◌, List, [], ◌∷◌, ◌≡◌, eqb, ltb, length, get_or}
use Rattle.reader.specs.Outcomes.{number_of, reason_of}
use Rattle.machine.specs.Lent.{selection_in}
use Rattle.calls.specs.Calls.{Lent, lent_of, lent_by}
use Rattle.machine.specs.Machine.{State, state_of, Step}
use Rattle.embed.specs.Placed.{tags_in, used_of, places_fit, placed}
use Rattle.std.specs.Prelude.{Option, None, Some}
use Rattle.failures.specs.Listing.{place_for, record_in, is_list_full, step_beside, failure_beside}
use Rattle.failures.specs.Lists.{room_in, numbers_with}
use Rattle.failures.specs.declared.record.Record.{Record}
use Rattle.frame.specs.Bytes.{pick}
use Rattle.reader.specs.Tallies.{tally_of, limit}
use Rattle.reader.specs.declared.state.Reader.{Reader}

-- a reader's state, the length of the frame written, the reason of a drop, the first tag still to hand out, the selection's length and how many records are
-- held, as thirteen numbers
abbrev pub packed : Reader → ℕ → ℕ → ℕ → ℕ → ℕ → List ℕ
packed reader written reason next count held =
    reader.cursor ∷ reader.tally.good ∷ reader.tally.error ∷ reader.tally.header ∷ reader.tally.kind ∷ reader.tally.long ∷ reader.tally.check
    ∷ reader.tally.end ∷ written ∷ reason ∷ next ∷ count ∷ held ∷ []

-- the seven counts among them, and whether one is more than a count can be
abbrev pub counts_in : List ℕ → List ℕ
counts_in state =
    get_or state 1 0 ∷ get_or state 2 0 ∷ get_or state 3 0 ∷ get_or state 4 0 ∷ get_or state 5 0 ∷ get_or state 6 0 ∷ get_or state 7 0 ∷ []

unfoldable pub any_above : List ℕ → Bool
any_above [] = false
any_above (n ∷ counts) = ltb limit n || any_above counts

-- the numbers as a reader's state
abbrev pub reader_at : List ℕ → Reader
reader_at state =
    record {
      cursor = get_or state 0 0;
      tally =
          tally_of (get_or state 1 0) (get_or state 2 0) (get_or state 3 0) (get_or state 4 0) (get_or state 5 0) (get_or state 6 0) (get_or state 7 0);
    }

unfoldable pub reader_in : List ℕ → Option Reader
reader_in state = pick (any_above (counts_in state)) None (Some (reader_at state))

-- how many records are held
abbrev pub held_in : List ℕ → ℕ
held_in state = get_or state 12 0

-- the list is lent as three numbers for each record
unfoldable pub records_fit : List ℕ → Bool
records_fit records = eqb (length records % 3) 0

-- what a call leaves: the answer number, and all that was lent
pub record Left : Type 0 where
  pub answer : ℕ
  pub memory : List ℕ
  pub output : List ℕ
  pub selection : List ℕ
  pub records : List ℕ
  pub state : List ℕ

abbrev pub left_by : ℕ → List ℕ → List ℕ → List ℕ → List ℕ → List ℕ → Left
left_by answer memory output bytes records state =
    record { answer = answer; memory = memory; output = output; selection = bytes; records = records; state = state }

-- the machine's step, the 39 bytes of the selection with their count, and the list with the number held, packed
unfoldable pub told : Step → Lent → List ℕ → ℕ → Left
told s l records held =
    left_by (number_of s.outcome) s.next.memory s.next.output l.bytes records
    (packed s.next.reader s.length (reason_of s.outcome) s.next.next l.count held)

-- the machine's state of what is lent
unfoldable pub state_in : List ℕ → List ℕ → List ℕ → List ℕ → List ℕ → Reader → State
state_in memory output numbers bytes state reader =
    state_of memory (placed numbers (used_of (tags_in numbers))) (tags_in numbers) (selection_in bytes (get_or state 11 0)) output reader (get_or state 10 0)

-- the list with the failure of a call, if it has one, behind the records held
unfoldable pub listed_in : List ℕ → ℕ → List Record → List ℕ
listed_in records held failure = numbers_with records (place_for (room_in records) held failure) (record_in failure)

-- one call on it, beside the list
unfoldable pub stepped : List ℕ → State → Lent → List ℕ → ℕ → Left
stepped input s l records held =
    told (step_beside input s (room_in records) held) (lent_by (is_list_full (room_in records) held) input s l)
    (listed_in records held (failure_beside input s (room_in records) held)) (held + length (failure_beside input s (room_in records) held))

-- it is made where the thirteen numbers are a reader's state and the others are places
pub record Unpacking (numbers state : List ℕ) (reader : Reader) : Type 0 where
  pub fits : reader_in state ≡ Some reader
  pub are_places : places_fit numbers ≡ true

-- counts that no tally can hold are refused with 21, then numbers that are no places with 22 and such as are no records with 23, and nothing changes; else the
-- call is the machine's step
unfoldable pub called_with : List ℕ → List ℕ → List ℕ → List ℕ → List ℕ → List ℕ → List ℕ → Option Reader → Left
called_with input memory output numbers bytes records state None = left_by 21 memory output bytes records state
called_with input memory output numbers bytes records state (Some reader) =
    pick (not (places_fit numbers)) (left_by 22 memory output bytes records state)
    (pick (not (records_fit records)) (left_by 23 memory output bytes records state)
    (stepped input (state_in memory output numbers bytes state reader) (lent_of bytes (get_or state 11 0)) records (held_in state)))

-- a state that does not have thirteen numbers is refused with 20, and nothing changes
unfoldable pub called : List ℕ → List ℕ → List ℕ → List ℕ → List ℕ → List ℕ → List ℕ → Left
called input memory output numbers bytes records state =
    pick (not (eqb (length state) 13)) (left_by 20 memory output bytes records state)
    (called_with input memory output numbers bytes records state (reader_in state))
