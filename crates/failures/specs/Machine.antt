-- P12 over the machine of a crate: the same state, with a list of failures beside it, and a call that acknowledges some of them.
use Rattle.std.specs.Prelude.{ℕ, Bool, ◌&&◌, List, [], ◌∷◌, ◌++◌, leb, length, drop}
use Rattle.machine.specs.Machine as Inner
use Rattle.failures.specs.Records.{failure_of}
use Rattle.failures.specs.declared.record.Record.{Record}
use Rattle.frame.specs.Bytes.{pick}
use Rattle.reader.specs.Outcomes.{number_of, reason_of}

-- the crate with its reader, how many records have room, and those that are held
pub record State : Type 0 where
  pub bench : Inner.State
  pub room : ℕ
  pub records : List Record

abbrev pub state_of : Inner.State → ℕ → List Record → State
state_of bench room records = record { bench = bench; room = room; records = records }

-- "acknowledge calls standing among its calls"
pub data Call : Type 0 where
  call : List ℕ → Call
  acknowledge : ℕ → Call

pub record Step : Type 0 where
  pub number : ℕ
  pub reason : ℕ
  pub length : ℕ
  pub next : State

-- "With the list full": "a number held above the room .. counts as full", and a list without room is always full
unfoldable pub is_full : State → Bool
is_full s = leb s.room (length s.records)

-- the call on the crate, unless the list is full
unfoldable pub bench_step : List ℕ → State → Inner.Step
bench_step input s = Inner.step_unless (is_full s) (Inner.call input) s.bench

-- "Each error answer and each drop adds exactly one record, in order."
unfoldable pub listed : List ℕ → State → Inner.Step → Step
listed input s x =
    record {
      number = number_of x.outcome;
      reason = reason_of x.outcome;
      length = x.length;
      next = state_of x.next s.room (s.records ++ failure_of input s.bench x);
    }

-- "An acknowledge call answers 16, removes the first n records, and the rest move up"; "n above the number held, or a number held above the room, is refused with 15"
unfoldable pub may_acknowledge : ℕ → State → Bool
may_acknowledge n s = leb n (length s.records) && leb (length s.records) s.room

unfoldable pub acknowledged : ℕ → State → Step
acknowledged n s =
    pick (may_acknowledge n s)
    record { number = 16; reason = 0; length = 0; next = state_of s.bench s.room (drop n s.records) }
    record { number = 15; reason = 0; length = 0; next = s }

unfoldable pub step : Call → State → Step
step (call input) s = listed input s (bench_step input s)
step (acknowledge n) s = acknowledged n s

unfoldable pub run : List Call → State → List Step
run [] s = []
run (c ∷ calls) s = step c s ∷ run calls (step c s).next

unfoldable pub after : List Call → State → State
after [] s = s
after (c ∷ calls) s = after calls (step c s).next
