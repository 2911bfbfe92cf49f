-- The list after a history, and the balance with the tally.
use Prim.Native.Nat.{ℕ, ◌+◌, ◌≤◌}
use borrow.Author.Tests.{leb-true}
use lib.Dec.{eqb, leb}
use lib.ListN.{length, drop, length-append, length-drop}
use lib.Seq.{drop-append-le, drop-append_seam, drop-drop}
use mathlib.Core.Bool.{true}
use mathlib.Core.List.{List, [], ◌∷◌, ◌++◌, append-nil, append_assoc}
use mathlib.Core.Path.{◌≡◌, refl, ap, sym, subst, ◌∙◌}
use native.Mathlib.Nat.{zero-add}
use native.Mathlib.Omega.{arith}
use Rattle.machine.proofs.Claimed.{history}
use Rattle.machine.specs.Claims.{count, is_error, is_dropped}
use Rattle.machine.specs.Machine as Inner
use Rattle.failures.proofs.Numbers.{done, acknowledges, refuses, full_bench, room_bench, none_listed}
use Rattle.failures.specs.Claims.{failure_in, failures, acknowledged_in, ListIsHistory, failed, Balance}
use Rattle.failures.specs.Machine.{State, call, acknowledge, Step, is_full, bench_step, listed, may_acknowledge, step, after}
use Rattle.failures.specs.Records.{failure_for, failure_of}
use Rattle.failures.specs.declared.record.Record.{Record}
use Rattle.frame.proofs.Picks.{pick_true, pick_false}
use Rattle.frame.proofs.Tests.{either, and_left}
use Rattle.frame.specs.Bytes.{pick, byte}
use Rattle.frame.specs.Finding.{reason_number}
use Rattle.frame.specs.declared.finding.Reason.TheVariants.{NoHeader, WrongType, TooLong, WrongCheck, WrongEnd}
use Rattle.reader.specs.Outcomes.{number_of, reason_of}
use Rattle.reader.specs.declared.outcome.Outcome.{Outcome}
use Rattle.reader.specs.declared.outcome.Outcome.TheVariants.{Answered, AtEnd, Incomplete, Dropped, PastEnd, BadImage, ShortOutput, FullTally, FullList}
use Rattle.reader.specs.declared.tally.Tally.{Tally}

-- an acknowledge call that is taken removes no more than are held
few : (n : ℕ) (s : State) → may_acknowledge n s ≡ true → n ≤ length s.records
unfolding may_acknowledge
few n s h = leb-true n (length s.records) (and_left (leb n (length s.records)) _ h)

-- ---- the list

-- a call adds its failure behind those held
added : (input : List ℕ) (s : State) → failure_in s (step (call input) s) ≡ failure_of input s.bench (bench_step input s)
unfolding failure_in step listed
added input s = drop-append_seam s.records (failure_of input s.bench (bench_step input s))

pub adds : (input : List ℕ) (s : State) → (step (call input) s).next.records ≡ s.records ++ failure_in s (step (call input) s)
unfolding step listed
adds input s = ap (λ (l : List Record). s.records ++ l) (sym (added input s))

pub list_is_history : ListIsHistory
unfolding after failures acknowledged_in
list_is_history [] s = sym (append-nil s.records)
list_is_history (call input ∷ calls) s =
    let next : State = (step (call input) s).next in
    list_is_history calls next
    ∙ ap (λ (l : List Record). drop (acknowledged_in calls next) (l ++ failures calls next)) (adds input s)
    ∙ ap (drop (acknowledged_in calls next)) (append_assoc s.records (failure_in s (step (call input) s)) (failures calls next))
list_is_history (acknowledge n ∷ calls) s =
    let Goal : Step → Type 0 = λ x.
    (after calls x.next).records ≡ drop (pick (eqb x.number 16) n 0 + acknowledged_in calls x.next) (s.records ++ failures calls x.next) in
    either (may_acknowledge n s)
    (λ yes.
    let t : State = (done n s).next in
    let rest : List Record = failures calls t in
    let k : ℕ = acknowledged_in calls t in
    subst Goal (sym (acknowledges n s yes))
    (list_is_history calls t
    ∙ ap (drop k) (sym (drop-append-le n s.records rest (few n s yes)))
    ∙ drop-drop k n (s.records ++ rest)
    ∙ ap (λ (m : ℕ). drop (m + k) (s.records ++ rest)) (sym (pick_true n 0))))
    (λ no.
    subst Goal (sym (refuses n s no))
    (list_is_history calls s
    ∙ ap (λ (m : ℕ). drop m (s.records ++ failures calls s)) (sym (zero-add (acknowledged_in calls s)))
    ∙ ap (λ (m : ℕ). drop (m + acknowledged_in calls s) (s.records ++ failures calls s)) (sym (pick_false n 0))))

-- ---- the balance

-- what a step adds to the counts of failures is what it adds to the list
counted_one : (x : Inner.Step) (cursor code : ℕ) (o : Outcome) → x.outcome ≡ o
    → pick (is_error x) 1 0 + pick (is_dropped 1 x) 1 0 + pick (is_dropped 2 x) 1 0 + pick (is_dropped 3 x) 1 0 + pick (is_dropped 4 x) 1 0 + pick (is_dropped 5 x) 1 0
    ≡ length (failure_for cursor code x.next.output o)
unfolding is_error is_dropped failure_for number_of reason_of reason_number
counted_one x cursor code Answered e =
    either (eqb (byte x.next.output 2) 0xFF) (λ error. simp (e, error, pick_true, pick_false)) (λ good. simp (e, good, pick_false))
counted_one x cursor code (Dropped NoHeader) e = simp (e, pick_true, pick_false)
counted_one x cursor code (Dropped WrongType) e = simp (e, pick_true, pick_false)
counted_one x cursor code (Dropped TooLong) e = simp (e, pick_true, pick_false)
counted_one x cursor code (Dropped WrongCheck) e = simp (e, pick_true, pick_false)
counted_one x cursor code (Dropped WrongEnd) e = simp (e, pick_true, pick_false)
counted_one x cursor code AtEnd e = simp (e, pick_false)
counted_one x cursor code Incomplete e = simp (e, pick_false)
counted_one x cursor code PastEnd e = simp (e, pick_false)
counted_one x cursor code BadImage e = simp (e, pick_false)
counted_one x cursor code ShortOutput e = simp (e, pick_false)
counted_one x cursor code FullTally e = simp (e, pick_false)
counted_one x cursor code FullList e = simp (e, pick_false)

-- one call of the crate
bench_grows : (c : Inner.Call) (s : Inner.State) (cursor code : ℕ)
    → failed (Inner.step c s).next.reader.tally
    ≡ failed s.reader.tally + length (failure_for cursor code (Inner.step c s).next.output (Inner.step c s).outcome)
unfolding Inner.run Inner.after count
bench_grows c s cursor code =
    let x : Inner.Step = Inner.step c s in
    let h = history (c ∷ []) s in
    omega (
      arith,
      ap (λ (t : Tally). t.error) h,
      ap (λ (t : Tally). t.header) h,
      ap (λ (t : Tally). t.kind) h,
      ap (λ (t : Tally). t.long) h,
      ap (λ (t : Tally). t.check) h,
      ap (λ (t : Tally). t.end) h,
      counted_one x cursor code x.outcome refl,
    )

grows : (input : List ℕ) (s : State)
    → failed (bench_step input s).next.reader.tally ≡ failed s.bench.reader.tally + length (failure_of input s.bench (bench_step input s))
unfolding failure_of Inner.unchanged
grows input s =
    let cursor : ℕ = s.bench.reader.cursor in
    let code : ℕ = Inner.code_at input cursor in
    let Goal : Inner.Step → Type 0 = λ x. failed x.next.reader.tally ≡ failed s.bench.reader.tally + length (failure_for cursor code x.next.output x.outcome) in
    either (is_full s)
    (λ full.
    let r = full_bench input s full in
    subst Goal (sym r.1.1)
    (omega (arith, ap length (none_listed cursor code s.bench.output r.0 (λ z. omega (arith, r.1.0)) (λ z. omega (arith, r.1.0))))))
    (λ room. subst Goal (sym (room_bench input s room)) (bench_grows (Inner.call input) s.bench cursor code))

longer : (input : List ℕ) (s : State) → length (step (call input) s).next.records ≡ length s.records + length (failure_of input s.bench (bench_step input s))
unfolding step listed
longer input s = length-append s.records (failure_of input s.bench (bench_step input s))

fuller : (input : List ℕ) (s : State)
    → failed (step (call input) s).next.bench.reader.tally ≡ failed s.bench.reader.tally + length (failure_of input s.bench (bench_step input s))
unfolding step listed
fuller input s = grows input s

pub balance : Balance
unfolding after acknowledged_in
balance [] s = omega arith
balance (call input ∷ calls) s =
    let next : State = (step (call input) s).next in
    omega (arith, balance calls next, longer input s, fuller input s)
balance (acknowledge n ∷ calls) s =
    let Goal : Step → Type 0 = λ x.
    length (after calls x.next).records + (pick (eqb x.number 16) n 0 + acknowledged_in calls x.next) + failed s.bench.reader.tally
    ≡ length s.records + failed (after calls x.next).bench.reader.tally in
    either (may_acknowledge n s)
    (λ yes.
    let t : State = (done n s).next in
    subst Goal (sym (acknowledges n s yes)) (rw pick_true (omega (arith, balance calls t, length-drop n s.records, few n s yes))))
    (λ no. subst Goal (sym (refuses n s no)) (rw pick_false (omega (arith, balance calls s))))
