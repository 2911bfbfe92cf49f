-- The C functions make the steps of the machine with its list of failures.
use Prim.Native.Nat.{ℕ, ◌+◌, ◌*◌, ◌/◌, ◌%◌, ◌≤◌, ◌<◌}
use borrow.Author.Tests.{eqb-true, eqb-false, leb-false}
use lib.Dec.{eqb, leb}
use lib.ListN.{length, get_or, set, drop, length-append}
use mathlib.Core.Bool.{Bool, true}
use mathlib.Core.List.{List, [], ◌∷◌, ◌++◌, append-nil}
use mathlib.Core.Path.{◌≡◌, refl, ap, ap₂, sym, subst, ◌∙◌}
use native.Mathlib.Omega.{arith}
use Rattle.calls.proofs.Callers.{lent_selection}
use Rattle.machine.specs.Lent.{selection_in}
use Rattle.calls.specs.Calls.{Lent, lent_of, lent_by}
use Rattle.machine.specs.Machine as Inner
use Rattle.machine.specs.Machine.{unchanged, dropped, told as told_by, selecting, missed, acted, aimed, carried_out, step_unless, unless, input_of, decide}
use Rattle.machine.specs.declared.deciding.Job.{Job}
use Rattle.machine.specs.declared.deciding.Job.TheVariants.{Stay, DropByte, Select, Miss, Aim}
use Rattle.embed.proofs.Acknowledging.{not_acknowledged, is_acknowledged}
use Rattle.embed.proofs.Packing.{thirteen_cases, all_fit, carried_out_lem}
use Rattle.embed.specs.Acknowledged.{ListLeft, list_left_by, acknowledged_on}
use Rattle.embed.specs.Machines.{machine_of, Steps, CallIsStep, AcknowledgeIsStep}
use Rattle.embed.specs.Packed.{reader_at, reader_in, held_in, records_fit, Left, told, state_in, listed_in, stepped}
use Rattle.failures.proofs.Listings.{each_failure_listed}
use Rattle.failures.proofs.Lists.{length_records, added, not_added, removed, may_acknowledge_is}
use Rattle.failures.proofs.Numbers.{acknowledges, refuses, done, none_listed, full_bench}
use Rattle.failures.proofs.Threes.{length_slots, length_numbers_added, slots_added, slots_removed, length_numbers_removed}
use Rattle.failures.specs.Listing.{place_for, record_in, is_list_full, step_beside, failure_beside}
use Rattle.failures.specs.Lists.{may_remove, kept_of, moved_up, room_in, slots_in}
use Rattle.failures.specs.Machine.{State, state_of, call, acknowledge, Step, is_full, bench_step, listed, may_acknowledge, step}
use Rattle.failures.specs.Records.{records_in, failure_of}
use Rattle.failures.specs.declared.record.Record.{Record}
use Rattle.frame.proofs.Picks.{by_test}
use Rattle.frame.proofs.Tests.{either}
use Rattle.frame.specs.Bytes.{byte}
use Rattle.population.specs.Selections.{taken}
use Rattle.population.specs.declared.places.Place.{Place}
use Rattle.reader.specs.Outcomes.{number_of, reason_of}

-- ---- the list, read as records

module _ (input : List ℕ) (s : State) where
  abbrev failure : List Record
  failure = failure_of input s.bench (bench_step input s)

  as_many : (l : List Record) → (step (call input) s).next.records ≡ s.records ++ l → length failure ≡ length l
  unfolding step listed
  as_many l e = omega (arith, ap (λ (k : List Record). length k) e, length-append s.records failure, length-append s.records l)

  none_more : (step (call input) s).next.records ≡ s.records → length failure ≤ 1
  none_more e = omega (arith, as_many [] (e ∙ sym (append-nil s.records)))

  one_at_most : length failure ≤ 1
  one_at_most =
      let x : Step = step (call input) s in
      let l = each_failure_listed input s in
      either (eqb x.number 0)
      (λ answered.
      either (eqb (byte x.next.bench.output 2) 0xFF)
      (λ error. omega (arith, as_many _ (l.error_listed (eqb-true _ _ answered) (eqb-true _ _ error))))
      (λ good. none_more (l.good_not_listed (eqb-true _ _ answered) (eqb-false _ _ good))))
      (λ not0.
      either (eqb x.number 3) (λ drops. omega (arith, as_many _ (l.drop_listed (eqb-true _ _ drops))))
      (λ not3. none_more (l.others_not_listed (eqb-false _ _ not0) (eqb-false _ _ not3))))

  -- there is room for it
  has_room : 1 ≤ length failure → length s.records < s.room
  unfolding is_full failure_of unchanged
  has_room some =
      either (is_full s)
      (λ full.
      let r = full_bench input s full in
      let none : failure ≡ [] =
      ap (failure_of input s.bench) r.1.1 ∙ none_listed _ _ _ r.0 (λ z. omega (arith, z, r.1.0)) (λ z. omega (arith, z, r.1.0)) in
      absurd (omega (arith, some, ap (λ (l : List Record). length l) none)))
      (λ less. leb-false s.room (length s.records) less)

room_stays : (records : List ℕ) (held : ℕ) (f : List Record) → room_in (listed_in records held f) ≡ room_in records
unfolding listed_in
room_stays records held f = ap (λ (n : ℕ). n / 3) (length_numbers_added records (place_for (room_in records) held f) (record_in f))

listed_in_lem : (records : List ℕ) (held : ℕ) (f : List Record) → length f ≤ 1 → (1 ≤ length f → held < room_in records)
    → records_in (slots_in (listed_in records held f)) (held + length f) ≡ records_in (slots_in records) held ++ f
unfolding listed_in place_for record_in
listed_in_lem records held [] few room =
    let item : Record = record_in [] in
    let same : held + length {A = Record} [] ≡ held = omega arith in
    ap₂ (λ (slots : List Record) (k : ℕ). records_in slots k) (slots_added records (room_in records) item) same
    ∙ ap (λ (at : ℕ). records_in (set (slots_in records) at item) held) (sym (length_slots records))
    ∙ not_added (slots_in records) held item
    ∙ sym (append-nil (records_in (slots_in records) held))
listed_in_lem records held (r ∷ []) few room =
    let more : held + length (r ∷ []) ≡ held + 1 = omega arith in
    ap₂ (λ (slots : List Record) (k : ℕ). records_in slots k) (slots_added records held r) more
    ∙ added (slots_in records) held r (omega (arith, room (omega arith), length_slots records))
listed_in_lem records held (r ∷ q ∷ rest) few room = absurd (omega arith)

-- ---- the crate: places and tags stay, and the lent bytes are its selection

abbrev Placed : Inner.State → Inner.Step → Type 0
Placed s x = (x.next.places ≡ s.places) × (x.next.tags ≡ s.tags)

placed_by : (input : List ℕ) (s : Inner.State) (job : Job) → Placed s (carried_out input s job)
unfolding carried_out unchanged dropped selecting missed told_by aimed acted
placed_by input s (Stay o) = (refl, refl)
placed_by input s (DropByte r) = (refl, refl)
placed_by input s (Select pl) = by_test (Placed s) (taken _) (λ _. (refl, refl)) (λ _. (refl, refl))
placed_by input s (Miss e pl) = (refl, refl)
placed_by input s (Aim a) = (refl, refl)

bench_is : (input : List ℕ) (s : Inner.State) (full : Bool) (chosen : List ℕ) → chosen ≡ (step_unless full (Inner.call input) s).next.selection
    → Inner.state_of (step_unless full (Inner.call input) s).next.memory s.places s.tags chosen (step_unless full (Inner.call input) s).next.output
    (step_unless full (Inner.call input) s).next.reader (step_unless full (Inner.call input) s).next.next
    ≡ (step_unless full (Inner.call input) s).next
unfolding step_unless input_of
bench_is input s full chosen e =
    let y : Inner.State = (carried_out input s (unless full (decide input s))).next in
    let stays = placed_by input s (unless full (decide input s)) in
    ap₂ (λ (places : List Place) (tags : ℕ). Inner.state_of y.memory places tags chosen y.output y.reader y.next) (sym stays.0) (sym stays.1)
    ∙ ap (λ (selection : List ℕ). Inner.state_of y.memory y.places y.tags selection y.output y.reader y.next) e

-- ---- a call

module _ (input memory output numbers bytes records state : List ℕ) where
  abbrev bench : Inner.State
  bench = state_in memory output numbers bytes state (reader_at state)

  abbrev machine : State
  machine = machine_of memory output numbers bytes records state

  abbrev after : Inner.Step
  after = step_beside input bench (room_in records) (held_in state)

  abbrev lent_after : Lent
  lent_after = lent_by (is_list_full (room_in records) (held_in state)) input bench (lent_of bytes (get_or state 11 0))

  -- the list is full by the number held as by the records read
  beside_is : bench_step input machine ≡ after
  unfolding bench_step is_full is_list_full
  beside_is = ap (λ (held : ℕ). step_unless (leb (room_in records) held) (Inner.call input) bench) (length_records (slots_in records) (held_in state))

  failure_is : failure input machine ≡ failure_beside input bench (room_in records) (held_in state)
  failure_is = ap (failure_of input bench) beside_is

  records_are : records_in (slots_in (listed_in records (held_in state) (failure input machine))) (held_in state + length (failure input machine))
      ≡ records_in (slots_in records) (held_in state) ++ failure input machine
  records_are =
      listed_in_lem records (held_in state) (failure input machine) (one_at_most input machine)
      (λ some. omega (arith, has_room input machine some, length_records (slots_in records) (held_in state)))

  module _ (are : (i : ℕ) → byte input i < 256) (whole : length bytes ≡ 39) where
    bench_left : Inner.state_of after.next.memory bench.places bench.tags (selection_in lent_after.bytes lent_after.count) after.next.output
        after.next.reader after.next.next
        ≡ after.next
    unfolding state_in
    bench_left =
        let full : Bool = is_list_full (room_in records) (held_in state) in
        bench_is input bench full (selection_in lent_after.bytes lent_after.count) (lent_selection full input bench (lent_of bytes (get_or state 11 0)) are whole refl)

    stepped_is : Steps numbers (stepped input bench (lent_of bytes (get_or state 11 0)) records (held_in state)) (step (call input) machine)
    unfolding stepped told state_in step listed
    stepped_is =
        let held : ℕ = held_in state in
        let f : List Record = failure_beside input bench (room_in records) held in
        record {
          number_is = sym (ap (λ (y : Inner.Step). number_of y.outcome) beside_is);
          reason_is = sym (ap (λ (y : Inner.Step). reason_of y.outcome) beside_is);
          length_is = sym (ap (λ (y : Inner.Step). y.length) beside_is);
          machine_is =
              ap₂ (λ (b : Inner.State) (room : ℕ). state_of b room (records_in (slots_in (listed_in records held f)) (held + length f))) bench_left (room_stays records held f)
              ∙ ap (λ (l : List Record). state_of after.next (room_in records) (records_in (slots_in (listed_in records held l)) (held + length l))) (sym failure_is)
              ∙ ap (state_of after.next (room_in records)) records_are
              ∙ ap (λ (y : Inner.Step). state_of y.next (room_in records) (records_in (slots_in records) held ++ failure input machine)) (sym beside_is);
        }

pub call_is_step : CallIsStep
unfolding records_fit
call_is_step input memory output numbers bytes records state are whole thirteen fits places three =
    let left : Left = stepped input (bench input memory output numbers bytes records state) (lent_of bytes (get_or state 11 0)) records (held_in state) in
    subst (λ (l : Left). Steps numbers l (step (call input) (machine_of memory output numbers bytes records state)))
    (carried_out_lem input memory output numbers bytes records state (reader_in state) (reader_at state) thirteen refl (sym (all_fit state fits)) places
    (eqb-true (length records % 3) 0 three) left refl)
    (stepped_is input memory output numbers bytes records state are whole)

-- ---- an acknowledge call

module _ (memory output numbers bytes : List ℕ) (k : ℕ) where
  abbrev SameBench : List ℕ → Type 0
  SameBench state =
      (state_in memory output numbers bytes (set state 12 k) (reader_at (set state 12 k)) ≡ state_in memory output numbers bytes state (reader_at state))
      × (held_in (set state 12 k) ≡ k)

  -- the number held is that alone
  held_alone : (state : List ℕ) → length state ≡ 13 → SameBench state
  unfolding state_in
  held_alone = thirteen_cases SameBench λ s0 s1 s2 s3 s4 s5 s6 s7 s8 s9 s10 s11 s12. (refl, refl)

module _ (memory output numbers bytes records state : List ℕ) (n : ℕ) where
  abbrev lent_to : State
  lent_to = machine_of memory output numbers bytes records state

  abbrev left : ℕ
  left = kept_of (room_in records) (held_in state) n

  abbrev Acknowledges : ListLeft → Step → Type 0
  Acknowledges l x = (l.answer ≡ x.number) × (machine_of memory output numbers bytes l.records l.state ≡ x.next)

  may_is : may_acknowledge n lent_to ≡ may_remove (room_in records) (held_in state) n
  may_is =
      subst (λ (room : ℕ). may_acknowledge n (state_of lent_to.bench room (records_in (slots_in records) (held_in state))) ≡ may_remove room (held_in state) n)
      (length_slots records) (may_acknowledge_is (slots_in records) (held_in state) n lent_to.bench)

  records_left : may_remove (room_in records) (held_in state) n ≡ true
      → records_in (slots_in (moved_up records (3 * n) (3 * left))) left ≡ drop n (records_in (slots_in records) (held_in state))
  records_left may =
      ap (λ (slots : List Record). records_in slots left) (slots_removed records (held_in state) n)
      ∙ subst
      (λ (room : ℕ). may_remove room (held_in state) n ≡ true
      → records_in (moved_up (slots_in records) n (kept_of room (held_in state) n)) (kept_of room (held_in state) n) ≡ drop n (records_in (slots_in records) (held_in state)))
      (length_slots records) (removed (slots_in records) (held_in state) n) may

  taken_off : length state ≡ 13 → may_remove (room_in records) (held_in state) n ≡ true
      → Acknowledges (list_left_by 16 (moved_up records (3 * n) (3 * left)) (set state 12 left)) (done n lent_to)
  taken_off thirteen may =
      let alone = held_alone memory output numbers bytes left state thirteen in
      let moved : List ℕ = moved_up records (3 * n) (3 * left) in (
        refl,
        ap₂ (λ (b : Inner.State) (held : ℕ). state_of b (room_in moved) (records_in (slots_in moved) held)) alone.0 alone.1
            ∙ ap₂ (state_of lent_to.bench) (ap (λ (l : ℕ). l / 3) (length_numbers_removed records (held_in state) n)) (records_left may),
      )

  acknowledge_step : length state ≡ 13 → length records % 3 ≡ 0 → Acknowledges (acknowledged_on records state n) (step (acknowledge n) lent_to)
  acknowledge_step thirteen three =
      either (may_remove (room_in records) (held_in state) n)
      (λ may.
      subst (λ (l : ListLeft). Acknowledges l (step (acknowledge n) lent_to)) (is_acknowledged records state n thirteen three may left _ refl refl)
      (subst (Acknowledges _) (sym (acknowledges n lent_to (may_is ∙ may))) (taken_off thirteen may)))
      (λ not.
      subst (λ (l : ListLeft). Acknowledges l (step (acknowledge n) lent_to)) (not_acknowledged records state n thirteen three not)
      (subst (Acknowledges _) (sym (refuses n lent_to (may_is ∙ not))) (refl, refl)))

pub acknowledge_is_step : AcknowledgeIsStep
unfolding records_fit
acknowledge_is_step memory output numbers bytes records state n thirteen three =
    acknowledge_step memory output numbers bytes records state n thirteen (eqb-true (length records % 3) 0 three)
