-- What one call makes of the list, on plain numbers: where the next record goes, and what it is.
use Rattle.std.specs.Prelude.{ℕ, ◌+◌, Bool, List, [], ◌∷◌, Option, None, Some, ◌≡◌, leb, length}
use Rattle.calls.specs.Calls.{step_of, lent_of, lent_by}
use Rattle.machine.specs.Machine.{State, call, Step, step_unless}
use Rattle.failures.specs.Records.{blank, failure_of}
use Rattle.failures.specs.declared.listing.Listed.{Listed}
use Rattle.failures.specs.declared.record.Record.{Record}

-- a failure as the code hands it on: its record, or none
unfoldable pub as_failure : List Record → Option Record
as_failure [] = None
as_failure (r ∷ rest) = Some r

-- where it goes: behind those held, or behind the list's room, where no place is
unfoldable pub place_for : ℕ → ℕ → List Record → ℕ
place_for room held [] = room
place_for room held (r ∷ rest) = held

unfoldable pub record_in : List Record → Record
record_in [] = blank
record_in (r ∷ rest) = r

-- "With the list full": the number held is at the room, or above it
unfoldable pub is_list_full : ℕ → ℕ → Bool
is_list_full room held = leb room held

-- the step of the crate beside such a list
abbrev pub step_beside : List ℕ → State → ℕ → ℕ → Step
step_beside input s room held = step_unless (is_list_full room held) (call input) s

abbrev pub failure_beside : List ℕ → State → ℕ → ℕ → List Record
failure_beside input s room held = failure_of input s (step_beside input s room held)

-- the state s is that before the call, and `bytes` and `count` are its selection, all 39 bytes; the other lists are those that the call left
pub record Beside (input : List ℕ) (s : State) (bytes : List ℕ) (count room held : ℕ) (memory_left bytes_left output_left : List ℕ) (r : Listed) : Type 0 where
  pub step_is : step_of r.called memory_left s.places s.tags bytes_left output_left ≡ step_beside input s room held
  pub lent_is : lent_of bytes_left r.called.state.selected ≡ lent_by (is_list_full room held) input s (lent_of bytes count)
  pub failure_is : r.failure ≡ as_failure (failure_beside input s room held)
  pub held_is : r.held ≡ held + length (failure_beside input s room held)
