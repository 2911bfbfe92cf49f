-- Demand 3 with the list: two runs that differ in hidden passwords list the same, call by call.
use Prim.Native.Nat.{ℕ}
use mathlib.Core.Bool.{Bool}
use mathlib.Core.List.{List, [], ◌∷◌, ◌++◌}
use mathlib.Core.Path.{◌≡◌, refl, ap, ap₂, sym, subst, ◌∙◌}
use Rattle.machine.proofs.Hiding.{Both}
use Rattle.machine.proofs.Secrets.{state_in, Stays, Alike, QuietRun, unless_alike, quiet_parts, kept_tag, same_tag, both_at_start}
use Rattle.machine.specs.Machine as Inner
use Rattle.failures.proofs.Numbers.{done, refused, acknowledges, refuses}
use Rattle.failures.specs.Claims.{Demand3}
use Rattle.failures.specs.Machine.{State, state_of, Call, call, acknowledge, Step, is_full, bench_step, listed, may_acknowledge, step, run}
use Rattle.failures.specs.Records.{failure_for, failure_of}
use Rattle.failures.specs.Secrecy.{accepted_by, accepted, SameCall, Throughout}
use Rattle.failures.specs.declared.record.Record.{Record}
use Rattle.frame.proofs.Tests.{either}
use Rattle.population.specs.Places.{place_at, image_at}
use Rattle.population.specs.declared.places.Place.{Place}
use Rattle.reader.specs.Outcomes.{number_of, reason_of}
use Rattle.reader.specs.declared.outcome.Outcome.{Outcome}
use Rattle.reader.specs.declared.state.Reader.{Reader}

module _ (tags : ℕ) (places : List Place) (differs : ℕ → Bool) (a b : List ℕ) where
  -- two states of the crate in the course of the runs
  record Near (u v : Inner.State) : Type 0 where
    selection : u.selection ≡ v.selection
    output : u.output ≡ v.output
    reader : u.reader ≡ v.reader
    next : u.next ≡ v.next
    first_stays : Stays tags places differs a b u
    second_stays : Stays tags places differs a b v
    memories : Both tags places differs a b u.memory v.memory

  -- a step with the same list in both
  same_call : (x y : Step) → x.number ≡ y.number → x.reason ≡ y.reason → x.length ≡ y.length → Near x.next.bench y.next.bench
      → x.next.room ≡ y.next.room → x.next.records ≡ y.next.records → SameCall tags places differs a b x y
  unfolding place_at image_at
  same_call x y number reason size near room records =
      record {
        same_number = number;
        same_reason = reason;
        same_length = size;
        same_output = near.output;
        same_reader = near.reader;
        same_selection = near.selection;
        same_next = near.next;
        same_room = room;
        same_records = records;
        differing = λ i h d. kept_tag tags places differs a b _ _ i d (near.memories.related.each i h);
        others = λ i h d. same_tag tags places differs a b _ _ i d (near.memories.related.each i h);
        outside = near.memories.related.outside;
      }

  -- the second state, from the first's parts
  second_is : (u v : Inner.State) → Near u v → state_in tags places differs a b v.memory u.selection u.output u.reader u.next ≡ v
  second_is u v near =
      (λ i. state_in tags places differs a b v.memory (near.selection i) (near.output i) (near.reader i) (near.next i)) ∙ sym near.second_stays

  module _ (m n selection output : List ℕ) (reader : Reader) (next room : ℕ) (records : List Record) (r : Both tags places differs a b m n) where
    abbrev s : State
    s = state_of (state_in tags places differs a b m selection output reader next) room records

    abbrev t : State
    t = state_of (state_in tags places differs a b n selection output reader next) room records

    same_failure : (input : List ℕ) (x y : Inner.Step) → Alike tags places differs a b x y → failure_of input s.bench x ≡ failure_of input t.bench y
    unfolding failure_of
    same_failure input x y l =
        ap₂ (λ (out : List ℕ) (o : Outcome). failure_for reader.cursor (Inner.code_at input reader.cursor) out o) l.output l.outcome

    record Both_alike (x y : Step) : Type 0 where
      same : SameCall tags places differs a b x y
      near : Near x.next.bench y.next.bench
      room_is : (x.next.room ≡ room) × (y.next.room ≡ room)
      records_are : x.next.records ≡ y.next.records

    call_alike : (input : List ℕ) → QuietRun tags places differs a b (accepted_by (call input) s) → Both_alike (step (call input) s) (step (call input) t)
    unfolding step listed bench_step is_full accepted_by
    call_alike input quiet =
        let l = unless_alike tags places differs a b m n selection output reader next r (is_full s) (Inner.call input) quiet in
        let near : Near (bench_step input s).next (bench_step input t).next =
        record {
          selection = l.selection;
          output = l.output;
          reader = l.reader;
          next = l.next;
          first_stays = l.first_stays;
          second_stays = l.second_stays;
          memories = l.memories;
        }
        in
        let items = ap (λ (f : List Record). records ++ f) (same_failure input (bench_step input s) (bench_step input t) l) in
        record {
          same = same_call (step (call input) s) (step (call input) t) (ap number_of l.outcome) (ap reason_of l.outcome) l.length near refl items;
          near = near;
          room_is = (refl, refl);
          records_are = items;
        }

    start_near : Near s.bench t.bench
    start_near = record { selection = refl; output = refl; reader = refl; next = refl; first_stays = refl; second_stays = refl; memories = r }

    acknowledge_alike : (k : ℕ) → Both_alike (step (acknowledge k) s) (step (acknowledge k) t)
    unfolding may_acknowledge
    acknowledge_alike k =
        either (may_acknowledge k s)
        (λ h.
        subst (λ (x : Step). Both_alike x (step (acknowledge k) t)) (sym (acknowledges k s h))
        (subst (λ (y : Step). Both_alike (done k s) y) (sym (acknowledges k t h))
        record {
          same = same_call (done k s) (done k t) refl refl refl start_near refl refl;
          near = start_near;
          room_is = (refl, refl);
          records_are = refl;
        }))
        (λ h.
        subst (λ (x : Step). Both_alike x (step (acknowledge k) t)) (sym (refuses k s h))
        (subst (λ (y : Step). Both_alike (refused k s) y) (sym (refuses k t h))
        record {
          same = same_call (refused k s) (refused k t) refl refl refl start_near refl refl;
          near = start_near;
          room_is = (refl, refl);
          records_are = refl;
        }))

    step_alike : (c : Call) → QuietRun tags places differs a b (accepted_by c s) → Both_alike (step c s) (step c t)
    step_alike (call input) quiet = call_alike input quiet
    step_alike (acknowledge k) quiet = acknowledge_alike k

  same_runs : (calls : List Call) (m n selection output : List ℕ) (reader : Reader) (next room : ℕ) (records : List Record) → Both tags places differs a b m n
      → QuietRun tags places differs a b (accepted calls (state_of (state_in tags places differs a b m selection output reader next) room records))
      → Throughout (SameCall tags places differs a b) (run calls (state_of (state_in tags places differs a b m selection output reader next) room records))
      (run calls (state_of (state_in tags places differs a b n selection output reader next) room records))
  unfolding run accepted
  same_runs [] m n selection output reader next room records r quiet = tt
  same_runs (c ∷ calls) m n selection output reader next room records r quiet =
      let first : State = state_of (state_in tags places differs a b m selection output reader next) room records in
      let second : State = state_of (state_in tags places differs a b n selection output reader next) room records in
      let x : Step = step c first in
      let y : Step = step c second in
      let quiets = quiet_parts tags places differs a b (accepted_by c first) (accepted calls x.next) quiet in
      let l : Both_alike m n selection output reader next room records r x y = step_alike m n selection output reader next room records r c quiets.0 in
      let u : Inner.State = x.next.bench in
      let v : Inner.State = y.next.bench in
      let x-is : x.next ≡ state_of (state_in tags places differs a b u.memory u.selection u.output u.reader u.next) room x.next.records =
      ap₂ (λ (z : Inner.State) (k : ℕ). state_of z k x.next.records) l.near.first_stays l.room_is.0 in
      let y-is : y.next ≡ state_of (state_in tags places differs a b v.memory u.selection u.output u.reader u.next) room x.next.records =
      ap₂ (λ (z : Inner.State) (k : ℕ). state_of z k y.next.records) (sym (second_is u v l.near)) l.room_is.1
      ∙ ap (state_of (state_in tags places differs a b v.memory u.selection u.output u.reader u.next) room) (sym l.records_are) in
      let rest =
      same_runs calls u.memory v.memory u.selection u.output u.reader u.next room x.next.records l.near.memories
      (subst (λ (z : State). QuietRun tags places differs a b (accepted calls z)) x-is quiets.1)
      in (
        l.same,
        subst (λ (z : State). Throughout (SameCall tags places differs a b) (run calls z) (run calls y.next)) (sym x-is)
            (subst (λ (z : State). Throughout (SameCall tags places differs a b) (run calls (state_of (state_in tags places differs a b u.memory u.selection u.output u.reader u.next) room x.next.records)) (run calls z)) (sym y-is) rest),
      )

pub demand3 : Demand3
unfolding QuietRun place_at image_at
demand3 s n differs calls pre =
    let b : Inner.State = s.bench in
    same_runs b.tags b.places differs b.memory n calls b.memory n b.selection b.output b.reader b.next s.room s.records
    (both_at_start b n differs _ _ pre.first_good pre.second_good pre.same_size pre.differing pre.others pre.outside)
    (λ i h d. (pre.differing i h d).first_run)
