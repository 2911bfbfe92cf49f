-- The claims page of the list of failures: what P12 promises, each as a named statement with its words beside it. With room in the list a call is the one of the
-- machine's page (`WithRoom`), so that all that is claimed there holds. Each statement is proved in proofs/Claimed.antt.
use Rattle.std.specs.Prelude.{ℕ, ◌+◌, ◌*◌, ◌%◌, ◌≤◌, ◌<◌, Bool, true, false, not, ◌&&◌, ◌||◌, List, [], ◌∷◌, ◌++◌, ◌⊎◌, ◌≢◌, ◌≡◌, eqb, leb, ltb, length, drop, replicate}
use Rattle.machine.specs.Machine as Inner
use Rattle.machine.specs.Claims.{inventories, with_memory as bench_with_memory}
use Rattle.machine.specs.Secrecy.{is_none, MayDiffer, Outside}
use Rattle.failures.specs.Machine.{State, state_of, Call, call, acknowledge, Step, step, run, after}
use Rattle.failures.specs.Secrecy.{accepted, SameCall, Throughout}
use Rattle.failures.specs.declared.record.Record.{Record}
use Rattle.frame.specs.Bytes.{pick, first_of, byte, number, part}
use Rattle.frame.specs.Frames.{sum}
use Rattle.population.specs.Claims.{place_of_tag, image_of}
use Rattle.population.specs.Lowest.{lowest, no_tag}
use Rattle.population.specs.Places.{good_population}
use Rattle.population.specs.Selections.{good_selection}
use Rattle.reader.specs.Outcomes.{number_of, reason_of}
use Rattle.reader.specs.Readers.{fresh_reader}
use Rattle.reader.specs.declared.tally.Tally.{Tally}

-- the input from the cursor on
abbrev pub rest_of : List ℕ → State → List ℕ
rest_of input s = drop s.bench.reader.cursor input

-- ---- the answer numbers

-- "With the list full every call but acknowledge answers 14, tested after 13", before a tag that is still to hand out and the finding rules
abbrev pub AnswerNumbers : Type 0
AnswerNumbers =
    (input : List ℕ) (s : State)
    → (step (call input) s).number
    ≡ first_of
    ((ltb (length input) s.bench.reader.cursor, 10)
    ∷ (not (good_selection s.bench.selection), 11)
    ∷ (not (good_population s.bench.memory s.bench.tags s.bench.places), 11)
    ∷ (ltb (length s.bench.output) 136, 12)
    ∷ (eqb s.bench.reader.tally.good 4294967295, 13)
    ∷ (eqb s.bench.reader.tally.error 4294967295, 13)
    ∷ (eqb s.bench.reader.tally.header 4294967295, 13)
    ∷ (eqb s.bench.reader.tally.kind 4294967295, 13)
    ∷ (eqb s.bench.reader.tally.long 4294967295, 13)
    ∷ (eqb s.bench.reader.tally.check 4294967295, 13)
    ∷ (eqb s.bench.reader.tally.end 4294967295, 13)
    ∷ (leb s.room (length s.records), 14)
    ∷ (not (is_none (lowest s.bench.memory s.bench.tags s.bench.places s.bench.selection s.bench.next)), 0)
    ∷ (eqb (length (rest_of input s)) 0, 1)
    ∷ (not (eqb (byte (rest_of input s) 0) 0xBB), 3)
    ∷ (leb 2 (length (rest_of input s)) && not (eqb (byte (rest_of input s) 1) 0x00), 3)
    ∷ (leb 5 (length (rest_of input s)) && ltb 80 (number (rest_of input s) 3), 3)
    ∷ (ltb (length (rest_of input s)) (7 + number (rest_of input s) 3), 2)
    ∷ (not (eqb (byte (rest_of input s) (5 + number (rest_of input s) 3)) (sum (part (rest_of input s) 1 (4 + number (rest_of input s) 3)) % 256)), 3)
    ∷ (not (eqb (byte (rest_of input s) (6 + number (rest_of input s) 3)) 0x7E), 3)
    ∷ [])
    0

-- "An acknowledge call answers 16"; "n above the number held, or a number held above the room, is refused with 15"
abbrev pub AcknowledgeNumbers : Type 0
AcknowledgeNumbers =
    (n : ℕ) (s : State)
    → (step (acknowledge n) s).number
    ≡ first_of ((ltb (length s.records) n, 15) ∷ (ltb s.room (length s.records), 15) ∷ []) 16

-- under 14 and 15 "changes nothing"
abbrev pub NothingChanges : Type 0
NothingChanges = (c : Call) (s : State) → ((step c s).number ≡ 14) ⊎ ((step c s).number ≡ 15) → ((step c s).next ≡ s) × ((step c s).length ≡ 0)

-- "removes the first n records, and the rest move up"; "It makes no other test and touches nothing else."
abbrev pub Acknowledged : Type 0
Acknowledged = (n : ℕ) (s : State) → (step (acknowledge n) s).number ≡ 16 → (step (acknowledge n) s).next ≡ state_of s.bench s.room (drop n s.records)

-- with room the call is that of the crate, in number, reason, length and all that it leaves of the crate
pub record SameAs (x : Step) (y : Inner.Step) : Type 0 where
  pub same_number : x.number ≡ number_of y.outcome
  pub same_reason : x.reason ≡ reason_of y.outcome
  pub same_length : x.length ≡ y.length
  pub same_bench : x.next.bench ≡ y.next

abbrev pub WithRoom : Type 0
WithRoom = (input : List ℕ) (s : State) → length s.records < s.room → SameAs (step (call input) s) (Inner.step (Inner.call input) s.bench)

-- ---- the records

-- "Each error answer and each drop adds exactly one record": "cursor before the call, command code .. or drop reason, error byte (.. 0 for a drop)". An error answer
-- is one with code FF; its error byte stands behind the five bytes in front. Nothing else adds one, and the room stays.
pub record Lists (input : List ℕ) (s : State) (x : Step) : Type 0 where
  pub error_listed : x.number ≡ 0 → byte x.next.bench.output 2 ≡ 0xFF
      → x.next.records
      ≡ s.records
      ++ (record { cursor = s.bench.reader.cursor; code = byte (rest_of input s) 2; error = byte x.next.bench.output 5 } ∷ [])
  pub drop_listed : x.number ≡ 3 → x.next.records ≡ s.records ++ (record { cursor = s.bench.reader.cursor; code = x.reason; error = 0 } ∷ [])
  pub good_not_listed : x.number ≡ 0 → byte x.next.bench.output 2 ≢ 0xFF → x.next.records ≡ s.records
  pub others_not_listed : x.number ≢ 0 → x.number ≢ 3 → x.next.records ≡ s.records
  pub room_stays : x.next.room ≡ s.room

abbrev pub EachFailureListed : Type 0
EachFailureListed = (input : List ℕ) (s : State) → Lists input s (step (call input) s)

-- the failures of a history, in order: what each of its calls added
unfoldable pub failure_in : State → Step → List Record
failure_in s x = drop (length s.records) x.next.records

unfoldable pub failures : List Call → State → List Record
failures [] s = []
failures (call input ∷ calls) s = failure_in s (step (call input) s) ++ failures calls (step (call input) s).next
failures (acknowledge n ∷ calls) s = failures calls (step (acknowledge n) s).next

-- and how many of them were acknowledged
unfoldable pub acknowledged_in : List Call → State → ℕ
acknowledged_in [] s = 0
acknowledged_in (call input ∷ calls) s = acknowledged_in calls (step (call input) s).next
acknowledged_in (acknowledge n ∷ calls) s = pick (eqb (step (acknowledge n) s).number 16) n 0 + acknowledged_in calls (step (acknowledge n) s).next

-- the list is exactly the failures of the history, in order, less those acknowledged
abbrev pub ListIsHistory : Type 0
ListIsHistory =
    (calls : List Call) (s : State) → (after calls s).records ≡ drop (acknowledged_in calls s) (s.records ++ failures calls s)

-- "records plus acknowledged records equal errors plus drops since the start"
abbrev pub failed : Tally → ℕ
failed t = t.error + t.header + t.kind + t.long + t.check + t.end

abbrev pub Balance : Type 0
Balance =
    (calls : List Call) (s : State)
    → length (after calls s).records + acknowledged_in calls s + failed s.bench.reader.tally
    ≡ length s.records + failed (after calls s).bench.reader.tally

-- ---- the bound on calls

-- how many steps of a run pass a test, and the calls that take something
unfoldable pub count : (Step → Bool) → List Step → ℕ
count test [] = 0
count test (x ∷ steps) = pick (test x) 1 0 + count test steps

unfoldable pub takes : Step → Bool
takes x = eqb x.number 0 || eqb x.number 3

-- "the bound on calls holds while there is room": as many calls answer 0 or 3, before one answers 1 or 2, or finds no room
abbrev pub Bound : Type 0
Bound =
    (input : List ℕ) (s : State)
    → length input ≤ 65536
    → s.bench.reader ≡ fresh_reader
    → good_selection s.bench.selection ≡ true
    → good_population s.bench.memory s.bench.tags s.bench.places ≡ true
    → 136 ≤ length s.bench.output
    → Inner.waiting s.bench ≡ no_tag
    → (k : ℕ)
    × (k ≤ length input + 15 * inventories (accepted (replicate k (call input)) s))
    × (count takes (run (replicate k (call input)) s) ≡ k)
    × (((step (call input) (after (replicate k (call input)) s)).number ≡ 1)
    ⊎ (((step (call input) (after (replicate k (call input)) s)).number ≡ 2) ⊎ ((step (call input) (after (replicate k (call input)) s)).number ≡ 14)))

-- ---- Demand 3: the log, and the list, do not tell the passwords

-- "demand 3 covers it, with the same room in both runs and acknowledge calls standing among its calls": s is the start of the one run, and the other has the memory n
-- in its place. The list may start with anything, so also empty.
pub record Premises (s : State) (n : List ℕ) (differs : ℕ → Bool) (calls : List Call) (t : State) : Type 0 where
  pub first_good : good_population s.bench.memory s.bench.tags s.bench.places ≡ true
  pub second_good : good_population n s.bench.tags s.bench.places ≡ true
  pub same_size : length s.bench.memory ≡ length n
  pub differing : (i : ℕ) → i < s.bench.tags → differs i ≡ true
      → MayDiffer (image_of s.bench.memory (place_of_tag s.bench.places i)) (image_of n (place_of_tag s.bench.places i)) (accepted calls s) (accepted calls t)
  pub others : (i : ℕ) → i < s.bench.tags → differs i ≡ false
      → image_of s.bench.memory (place_of_tag s.bench.places i) ≡ image_of n (place_of_tag s.bench.places i)
  pub outside : (k : ℕ) → Outside s.bench.tags s.bench.places k → byte s.bench.memory k ≡ byte n k

abbrev pub with_memory : State → List ℕ → State
with_memory s n = state_of (bench_with_memory s.bench n) s.room s.records

-- For a list of calls of any length.
abbrev pub Demand3 : Type 0
Demand3 =
    (s : State) (n : List ℕ) (differs : ℕ → Bool) (calls : List Call)
    → Premises s n differs calls (with_memory s n)
    → Throughout (SameCall s.bench.tags s.bench.places differs s.bench.memory n) (run calls s) (run calls (with_memory s n))
