-- What is lent to the C functions, read as the machine of the list of failures: each of them makes the machine's step, so that all that is claimed of its runs is
-- claimed of them. The statements are proved in proofs/Machines.antt.
use Rattle.std.specs.Prelude.{ℕ, ◌<◌, true, false, List, ◌≡◌, length, get_or}
use Rattle.embed.specs.Acknowledged.{acknowledged_on}
use Rattle.embed.specs.Packed.{counts_in, any_above, reader_at, held_in, records_fit, Left, state_in, called}
use Rattle.embed.specs.Placed.{places_fit}
use Rattle.failures.specs.Lists.{room_in, slots_in}
use Rattle.failures.specs.Machine.{State, state_of, call, acknowledge, Step, step}
use Rattle.failures.specs.Records.{records_in}
use Rattle.frame.specs.Bytes.{byte}

abbrev pub machine_of : List ℕ → List ℕ → List ℕ → List ℕ → List ℕ → List ℕ → State
machine_of memory output numbers bytes records state =
    state_of (state_in memory output numbers bytes state (reader_at state)) (room_in records) (records_in (slots_in records) (held_in state))

-- a call's number, the reason and the length that it tells, and the machine that it leaves
pub record Steps (numbers : List ℕ) (left : Left) (x : Step) : Type 0 where
  pub number_is : left.answer ≡ x.number
  pub reason_is : get_or left.state 9 0 ≡ x.reason
  pub length_is : get_or left.state 8 0 ≡ x.length
  pub machine_is : machine_of left.memory left.output numbers left.selection left.records left.state ≡ x.next

-- For any input of bytes and anything lent that is not refused with 20 to 23.
abbrev pub CallIsStep : Type 0
CallIsStep =
    (input memory output numbers bytes records state : List ℕ)
    → ((i : ℕ) → byte input i < 256)
    → length bytes ≡ 39
    → length state ≡ 13
    → any_above (counts_in state) ≡ false
    → places_fit numbers ≡ true
    → records_fit records ≡ true
    → Steps numbers (called input memory output numbers bytes records state) (step (call input) (machine_of memory output numbers bytes records state))

-- An acknowledge call is lent the records and the numbers alone: the machine is any that has them.
abbrev pub AcknowledgeIsStep : Type 0
AcknowledgeIsStep =
    (memory output numbers bytes records state : List ℕ) (n : ℕ)
    → length state ≡ 13
    → records_fit records ≡ true
    → ((acknowledged_on records state n).answer ≡ (step (acknowledge n) (machine_of memory output numbers bytes records state)).number)
    × (machine_of memory output numbers bytes (acknowledged_on records state n).records (acknowledged_on records state n).state
    ≡ (step (acknowledge n) (machine_of memory output numbers bytes records state)).next)
