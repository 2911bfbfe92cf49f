-- What is stored of a call makes the packed state that of the reader after it.
use Prim.Native.Nat.{ℕ, ◌+◌}
use lib.ListN.{length, set, get_or}
use mathlib.Core.Bool.{Bool}
use mathlib.Core.List.{List, [], ◌∷◌}
use mathlib.Core.Logic.{◌≢◌}
use mathlib.Core.Path.{◌≡◌, refl, ap, ap₂, sym, subst, ◌∙◌}
use native.Mathlib.Omega.{arith}
use Rattle.reader.specs.Outcomes.{number_of, reason_of}
use Rattle.reader.specs.Readers.{reader_of}
use Rattle.reader.specs.declared.outcome.Outcome.{Outcome}
use Rattle.reader.specs.declared.outcome.Outcome.TheVariants.{Answered, AtEnd, Incomplete, Dropped, PastEnd, BadImage, ShortOutput, FullTally, FullList}
use Rattle.calls.proofs.Callers.{DropsStay, call_cases}
use Rattle.calls.specs.Calls.{called_of, Lent, lent_of, lent_by}
use Rattle.machine.specs.Machine.{State, state_of, call, Step, unchanged, dropped, step_unless}
use Rattle.calls.specs.declared.calling.Called.{Called}
use Rattle.embed.proofs.Packing.{thirteen_cases}
use Rattle.embed.specs.Kept.{kept, count_for, place_for, kept_drop, kept_answer, kept_by}
use Rattle.embed.specs.Packed.{packed, any_above, reader_in, held_in}
use Rattle.std.specs.Prelude.{Option, Some}
use Rattle.failures.proofs.Numbers.{none_listed}
use Rattle.failures.specs.Listing.{is_list_full, failure_beside, Beside}
use Rattle.failures.specs.Records.{failure_of}
use Rattle.failures.specs.declared.listing.Listed.{Listed}
use Rattle.failures.specs.declared.record.Record.{Record}
use Rattle.frame.proofs.Picks.{by_test}
use Rattle.frame.specs.Finding.{reason_number}
use Rattle.frame.specs.declared.finding.Reason.{Reason}
use Rattle.frame.specs.declared.finding.Reason.TheVariants.{NoHeader, WrongType, TooLong, WrongCheck, WrongEnd}
use Rattle.population.specs.declared.places.Place.{Place}
use Rattle.reader.specs.Tallies.{tally_of, with_dropped}
use Rattle.reader.specs.declared.state.Reader.{Reader}
use Rattle.reader.specs.declared.tally.Tally.{Tally}

-- the numbers that a reader was made of are that reader's, packed
Made : Reader → List ℕ → Type 0
Made reader state = reader_in state ≡ Some reader → state ≡ packed reader (get_or state 8 0) (get_or state 9 0) (get_or state 10 0) (get_or state 11 0) (held_in state)

made_of : (reader : Reader) (state : List ℕ) → length state ≡ 13 → Made reader state
unfolding Made reader_in
made_of reader =
    thirteen_cases (Made reader) λ s0 s1 s2 s3 s4 s5 s6 s7 s8 s9 s10 s11 s12.
    by_test
    (λ (u : Option Reader).
    u ≡ Some reader → (s0 ∷ s1 ∷ s2 ∷ s3 ∷ s4 ∷ s5 ∷ s6 ∷ s7 ∷ s8 ∷ s9 ∷ s10 ∷ s11 ∷ s12 ∷ []) ≡ packed reader s8 s9 s10 s11 s12)
    (any_above (s1 ∷ s2 ∷ s3 ∷ s4 ∷ s5 ∷ s6 ∷ s7 ∷ []))
    (λ high e. let z : ◌≡◌ {A = ℕ} 0 1 = cc in absurd (omega arith))
    (λ fits e.
    let same : ◌≡◌ {A = Reader} record { cursor = s0; tally = tally_of s1 s2 s3 s4 s5 s6 s7 } reader = cc in
    ap (λ (r : Reader). packed r s8 s9 s10 s11 s12) same)

-- the stores of a drop, its reason told apart
pub drop_stored : (state : List ℕ) (reader : Reader) (reason kind : Reason) (held n : ℕ) → n ≡ reason_number reason → reason ≡ kind
    → set (set (set (set (set state 0 reader.cursor) 8 0) 9 n) 12 held) (place_for kind) (count_for kind reader.tally) ≡ kept_drop state reader reason held
unfolding kept_drop
drop_stored state reader reason kind held n e k =
    ap (λ (m : ℕ). set (set (set (set (set state 0 reader.cursor) 8 0) 9 m) 12 held) (place_for kind) (count_for kind reader.tally)) e
    ∙ ap (λ (r : Reason). set (set (set (set (set state 0 reader.cursor) 8 0) 9 (reason_number reason)) 12 held) (place_for r) (count_for r reader.tally)) (sym k)

-- ---- how a call ends, and what it then stores

pub others_kept : (state : List ℕ) (c : Called) (held : ℕ) (o : Outcome) → (o ≡ Answered → ⊥) → ((r : Reason) → o ≡ Dropped r → ⊥) → kept state ≡ kept_by state c held o
unfolding kept_by
others_kept state c held Answered not_answered not_dropped = absurd (not_answered refl)
others_kept state c held (Dropped r) not_answered not_dropped = absurd (not_dropped r refl)
others_kept state c held AtEnd not_answered not_dropped = refl
others_kept state c held Incomplete not_answered not_dropped = refl
others_kept state c held PastEnd not_answered not_dropped = refl
others_kept state c held BadImage not_answered not_dropped = refl
others_kept state c held ShortOutput not_answered not_dropped = refl
others_kept state c held FullTally not_answered not_dropped = refl
others_kept state c held FullList not_answered not_dropped = refl

module _ (before : Reader) (w k next count held : ℕ) where
  abbrev Stored : Called → ℕ → Type 0
  Stored c left =
      kept_by (packed before w k next count held) c left c.outcome ≡ packed c.state.reader c.length (reason_of c.outcome) c.state.next c.state.selected left

  abbrev Stays : Outcome → Type 0
  Stays o = Stored (called_of o 0 before next count) held

  stays : (o : Outcome) → number_of o ≢ 0 → number_of o ≢ 3 → Stays o
  unfolding kept_by kept reason_of number_of
  stays Answered not0 not3 = absurd (not0 refl)
  stays (Dropped r) not0 not3 = absurd (not3 refl)
  stays AtEnd not0 not3 = refl
  stays Incomplete not0 not3 = refl
  stays PastEnd not0 not3 = refl
  stays BadImage not0 not3 = refl
  stays ShortOutput not0 not3 = refl
  stays FullTally not0 not3 = refl
  stays FullList not0 not3 = refl

  -- a call that neither answers nor drops lists nothing
  stays_held : (o : Outcome) (f : List Record) → number_of o ≢ 0 → number_of o ≢ 3 → f ≡ []
      → Stored (called_of o 0 before next count) (held + length f)
  stays_held o f not0 not3 none =
      subst (Stored (called_of o 0 before next count)) (omega (arith, ap (λ (l : List Record). length l) none))
      (stays o not0 not3)

  drops : (left : ℕ) (r : Reason)
      → Stored (called_of (Dropped r) 0 (reader_of (before.cursor + 1) (with_dropped r before.tally)) next count) left
  unfolding kept_by kept_drop count_for place_for with_dropped reason_number reason_of
  drops left NoHeader = refl
  drops left WrongType = refl
  drops left TooLong = refl
  drops left WrongCheck = refl
  drops left WrongEnd = refl

  answers : (left : ℕ) (c : Called) (o : Outcome) → o ≡ Answered → DropsStay before.tally c.state.reader.tally
      → kept_by (packed before w k next count held) c left o ≡ packed c.state.reader c.length (reason_of o) c.state.next c.state.selected left
  unfolding kept_by kept_answer reason_of
  answers left c o e same =
      ap (kept_by (packed before w k next count held) c left) e
      ∙ sym (ap (λ (t : Tally). packed (reader_of c.state.reader.cursor t) c.length 0 c.state.next c.state.selected left) same)
      ∙ sym (ap (λ (x : Outcome). packed c.state.reader c.length (reason_of x) c.state.next c.state.selected left) e)

-- what a call hands back, of its step and the lent bytes
abbrev handed_back : Step → Lent → Called
handed_back x m = called_of x.outcome x.length x.next.reader x.next.next m.count

-- from the numbers before the call to those after it
pub stored_is : (input memory output : List ℕ) (places : List Place) (tags : ℕ) (selection bytes state : List ℕ) (before : Reader) (room : ℕ) (r : Listed)
    (memory' output' bytes' : List ℕ)
    → length state ≡ 13
    → reader_in state ≡ Some before
    → Beside input (state_of memory places tags selection output before (get_or state 10 0)) bytes (get_or state 11 0) room (held_in state) memory' bytes' output' r
    → kept_by state r.called r.held r.called.outcome
    ≡ packed r.called.state.reader r.called.length (reason_of r.called.outcome) r.called.state.next r.called.state.selected r.held
unfolding Made unchanged dropped failure_of
stored_is input memory output places tags selection bytes state before room r memory' output' bytes' thirteen fit b =
    let w : ℕ = get_or state 8 0 in
    let k : ℕ = get_or state 9 0 in
    let next : ℕ = get_or state 10 0 in
    let count : ℕ = get_or state 11 0 in
    let held : ℕ = held_in state in
    let s : State = state_of memory places tags selection output before next in
    let full : Bool = is_list_full room held in
    let P : Step → Lent → Type 0 = λ x m. Stored before w k next count held (handed_back x m) (held + length (failure_of input s x)) in
    let stored : P (step_unless full (call input) s) (lent_by full input s (lent_of bytes count)) =
    call_cases input s (lent_of bytes count) P
    (λ o not0 not3. stays_held before w k next count held o _ not0 not3 (none_listed _ _ _ o not0 not3))
    (λ d. drops before w k next count held _ d) (λ x m e same. answers before w k next count held _ (handed_back x m) x.outcome e same) full
    in
    let c : Called = r.called in
    subst (λ (l : List ℕ). kept_by l c r.held c.outcome ≡ packed c.state.reader c.length (reason_of c.outcome) c.state.next c.state.selected r.held)
    (sym (made_of before state thirteen fit))
    (subst (Stored before w k next count held c) (sym b.held_is)
    (subst (λ (d : Called). Stored before w k next count held d (held + length (failure_beside input s room held))) (sym (ap₂ handed_back b.step_is b.lent_is)) stored))
