-- The answer numbers with a list of failures, and what stays under those that refuse.
use Prim.Native.Nat.{ℕ, ◌≤◌, ◌<◌}
use borrow.Author.Tests.{lt-leb, le-leb, ltb-true, ltb-false}
use lib.Dec.{leb, ltb}
use lib.ListN.{length, drop}
use mathlib.Core.Bool.{Bool, true, false}
use mathlib.Core.List.{List, [], ◌++◌, append-nil}
use mathlib.Core.Logic.{◌≢◌, ⊎_elim}
use mathlib.Core.Path.{◌≡◌, refl, ap, sym, ◌∙◌}
use native.Mathlib.Omega.{arith}
use Rattle.machine.proofs.Answering.{unless_numbers}
use Rattle.machine.proofs.Claimed.{nothing_changes as bench-nothing-changes}
use Rattle.machine.proofs.Listing.{room_step, full_stays}
use Rattle.machine.specs.Machine as Inner
use Rattle.machine.specs.Machine.{input_of, rest_of as bench_rest, unchanged}
use Rattle.failures.specs.Claims.{AnswerNumbers, AcknowledgeNumbers, NothingChanges, Acknowledged, WithRoom}
use Rattle.failures.specs.Machine.{State, state_of, call, acknowledge, Step, is_full, bench_step, listed, may_acknowledge, acknowledged, step}
use Rattle.failures.specs.Records.{failure_for, failure_of}
use Rattle.failures.specs.declared.record.Record.{Record}
use Rattle.frame.proofs.Picks.{pick_true, pick_false}
use Rattle.frame.proofs.Tests.{either}
use Rattle.frame.specs.Bytes.{first_of}
use Rattle.reader.specs.Outcomes.{number_of, reason_of}
use Rattle.reader.specs.declared.outcome.Outcome.{Outcome}
use Rattle.reader.specs.declared.outcome.Outcome.TheVariants.{Answered, AtEnd, Incomplete, Dropped, PastEnd, BadImage, ShortOutput, FullTally, FullList}

pub answer_numbers : AnswerNumbers
unfolding step listed bench_step is_full bench_rest input_of
answer_numbers input s = unless_numbers (is_full s) (Inner.call input) s.bench

-- ---- acknowledge

module _ (n : ℕ) (s : State) where
  abbrev held : ℕ
  held = length s.records

  pub too_many : held < n → may_acknowledge n s ≡ false
  unfolding may_acknowledge
  too_many h = simp (lt-leb n held h)

  pub above_room : s.room < held → may_acknowledge n s ≡ false
  unfolding may_acknowledge
  above_room h = either (leb n held) (λ e. simp (e, lt-leb held s.room h)) (λ e. simp e)

  pub may : n ≤ held → held ≤ s.room → may_acknowledge n s ≡ true
  unfolding may_acknowledge
  may h k = simp (le-leb n held h, le-leb held s.room k)

  -- what is told of it
  abbrev pub done : Step
  done = record { number = 16; reason = 0; length = 0; next = state_of s.bench s.room (drop n s.records) }

  abbrev pub refused : Step
  refused = record { number = 15; reason = 0; length = 0; next = s }

  pub acknowledges : may_acknowledge n s ≡ true → step (acknowledge n) s ≡ done
  unfolding step acknowledged
  acknowledges e = rw (e, pick_true)

  pub refuses : may_acknowledge n s ≡ false → step (acknowledge n) s ≡ refused
  unfolding step acknowledged
  refuses e = rw (e, pick_false)

pub acknowledge_numbers : AcknowledgeNumbers
unfolding first_of
acknowledge_numbers n s =
    let held : ℕ = length s.records in
    either (ltb held n)
    (λ above. ap (λ (x : Step). x.number) (refuses n s (too_many n s (ltb-true held n above))) ∙ sym (rw (above, pick_true)))
    (λ few.
    either (ltb s.room held)
    (λ over. ap (λ (x : Step). x.number) (refuses n s (above_room n s (ltb-true s.room held over))) ∙ sym (rw (few, over, pick_true, pick_false)))
    (λ fits.
    ap (λ (x : Step). x.number) (acknowledges n s (may n s (ltb-false held n few) (ltb-false s.room held fits))) ∙ sym (simp (few, fits, pick_false))))

pub acknowledged_is : Acknowledged
acknowledged_is n s e =
    either (may_acknowledge n s) (λ yes. ap (λ (x : Step). x.next) (acknowledges n s yes))
    (λ no. absurd (omega (arith, e, ap (λ (x : Step). x.number) (refuses n s no))))

-- ---- what stays

-- no failure is listed of a call that neither answers nor drops
pub none_listed : (cursor code : ℕ) (output : List ℕ) (o : Outcome) → number_of o ≢ 0 → number_of o ≢ 3 → failure_for cursor code output o ≡ []
unfolding failure_for number_of
none_listed cursor code output Answered not0 not3 = absurd (not0 refl)
none_listed cursor code output (Dropped r) not0 not3 = absurd (not3 refl)
none_listed cursor code output AtEnd not0 not3 = refl
none_listed cursor code output Incomplete not0 not3 = refl
none_listed cursor code output PastEnd not0 not3 = refl
none_listed cursor code output BadImage not0 not3 = refl
none_listed cursor code output ShortOutput not0 not3 = refl
none_listed cursor code output FullTally not0 not3 = refl
none_listed cursor code output FullList not0 not3 = refl

-- with room the call is that of the crate
pub room_bench : (input : List ℕ) (s : State) → is_full s ≡ false → bench_step input s ≡ Inner.step (Inner.call input) s.bench
unfolding bench_step
room_bench input s e = room_step (is_full s) (Inner.call input) s.bench e

-- and without it nothing is done
pub full_bench : (input : List ℕ) (s : State) → is_full s ≡ true → (o : Outcome) × ((10 ≤ number_of o) × (bench_step input s ≡ unchanged s.bench o))
unfolding bench_step
full_bench input s e =
    let r = full_stays (Inner.call input) s.bench in (r.0, (r.1.0, ap (λ (b : Bool). Inner.step_unless b (Inner.call input) s.bench) e ∙ r.1.1))

pub with_room : WithRoom
unfolding step listed is_full
with_room input s h =
    let e = room_bench input s (lt-leb s.room (length s.records) h) in
    record {
      same_number = ap (λ (x : Inner.Step). number_of x.outcome) e;
      same_reason = ap (λ (x : Inner.Step). reason_of x.outcome) e;
      same_length = ap (λ (x : Inner.Step). x.length) e;
      same_bench = ap (λ (x : Inner.Step). x.next) e;
    }

-- a call that neither answers nor drops leaves the crate as it is
pub bench_stays : (input : List ℕ) (s : State) → number_of (bench_step input s).outcome ≢ 0 → number_of (bench_step input s).outcome ≢ 3
    → ((bench_step input s).next ≡ s.bench) × ((bench_step input s).length ≡ 0)
unfolding unchanged
bench_stays input s not0 not3 =
    either (is_full s)
    (λ full. let r = full_bench input s full in (ap (λ (x : Inner.Step). x.next) r.1.1, ap (λ (x : Inner.Step). x.length) r.1.1))
    (λ room.
    let e = room_bench input s room in
    let same : number_of (bench_step input s).outcome ≡ number_of (Inner.step (Inner.call input) s.bench).outcome = ap (λ (x : Inner.Step). number_of x.outcome) e in
    let r = bench-nothing-changes (Inner.call input) s.bench (λ h. not0 (same ∙ h)) (λ h. not3 (same ∙ h)) in
    (ap (λ (x : Inner.Step). x.next) e ∙ r.0, ap (λ (x : Inner.Step). x.length) e ∙ r.1))

-- nor is a record added
pub none_added : (input : List ℕ) (s : State) → number_of (bench_step input s).outcome ≢ 0 → number_of (bench_step input s).outcome ≢ 3
    → s.records ++ failure_of input s.bench (bench_step input s) ≡ s.records
unfolding failure_of
none_added input s not0 not3 = ap (λ (l : List Record). s.records ++ l) (none_listed _ _ _ (bench_step input s).outcome not0 not3) ∙ append-nil s.records

call_stays : (input : List ℕ) (s : State) → (step (call input) s).number ≢ 0 → (step (call input) s).number ≢ 3
    → ((step (call input) s).next ≡ s) × ((step (call input) s).length ≡ 0)
unfolding step listed
call_stays input s not0 not3 =
    let stays = bench_stays input s not0 not3 in (
      ap (λ (b : Inner.State). state_of b s.room (s.records ++ failure_of input s.bench (bench_step input s))) stays.0
          ∙ ap (state_of s.bench s.room) (none_added input s not0 not3),
      stays.1,
    )

acknowledge_stays : (n : ℕ) (s : State) → (step (acknowledge n) s).number ≢ 16 → ((step (acknowledge n) s).next ≡ s) × ((step (acknowledge n) s).length ≡ 0)
acknowledge_stays n s not16 =
    either (may_acknowledge n s) (λ yes. absurd (not16 (ap (λ (x : Step). x.number) (acknowledges n s yes))))
    (λ no. (ap (λ (x : Step). x.next) (refuses n s no), ap (λ (x : Step). x.length) (refuses n s no)))

pub nothing_changes : NothingChanges
nothing_changes (call input) s =
    ⊎_elim (λ e. call_stays input s (λ z. omega (arith, e, z)) (λ z. omega (arith, e, z))) (λ e. call_stays input s (λ z. omega (arith, e, z)) (λ z. omega (arith, e, z)))
nothing_changes (acknowledge n) s =
    ⊎_elim (λ e. acknowledge_stays n s (λ z. omega (arith, e, z))) (λ e. acknowledge_stays n s (λ z. omega (arith, e, z)))
