-- The items of a run stand for its failures, each once.
use Prim.Native.Nat.{ℕ, zero, suc, ◌+◌, ◌-◌}
use borrow.Author.Tests.{eqb-true, eq-eqb}
use lib.Dec.{eqb}
use mathlib.Core.List.{List, [], ◌∷◌, ◌++◌, append_assoc, append-nil}
use mathlib.Core.Path.{◌≡◌, refl, ap, sym, ◌∙◌}
use native.Mathlib.Omega.{arith}
use Rattle.machine.specs.Machine.{State, call, Step, step}
use Rattle.frame.proofs.Picks.{pick_true, pick_false}
use Rattle.frame.proofs.Tests.{either}
use Rattle.frame.specs.Bytes.{pick, byte}
use Rattle.frame.specs.declared.finding.Reason.{Reason}
use Rattle.reader.specs.Outcomes.{number_of}
use Rattle.reader.specs.Tallies.{fresh_tally, with_dropped}
use Rattle.reader.specs.declared.outcome.Outcome.{Outcome}
use Rattle.reader.specs.declared.outcome.Outcome.TheVariants.{Answered, AtEnd, Incomplete, Dropped, PastEnd, BadImage, ShortOutput, FullTally, FullList}
use Rattle.reader.specs.declared.tally.Tally.{Tally}
use Rattle.rows.specs.declared.items.Item.{Item}
use Rattle.sheet.proofs.Growing.{Formed, more_than_none, some_pending, all_one, Joined, joined, grown_item}
use Rattle.sheet.specs.Claims.{Fault, fault, fault_in, faults, dropped_from, faults_of, all_faults, EveryFailureOnce}
use Rattle.sheet.specs.Itemised.{advanced, pending, closed_by, itemised}
use Rattle.sheet.specs.Items.{item_of, items_of, failing, joins, grown, one_more, items_after, closes}
use Rattle.sheet.specs.Sheet.{Standing, standing_of, items_by, teller}
use Rattle.sheet.specs.declared.items.Failing.{Failing}
use Rattle.sheet.specs.declared.items.Failing.TheVariants.{Passed, Error, Drop}
use Rattle.sheet.specs.declared.items.Items.{Items}

pub all_join : (a b : List Item) → all_faults (a ++ b) ≡ all_faults a ++ all_faults b
unfolding all_faults
all_join [] b = refl
all_join (item ∷ a) b = ap (λ (l : List Fault). faults_of item ++ l) (all_join a b) ∙ sym (append_assoc (faults_of item) (all_faults a) (all_faults b))

-- what a failing call adds
unfoldable fault_for : ℕ → Failing → List Fault
fault_for cursor Passed = []
fault_for cursor (Error e) = fault cursor e ∷ []
fault_for cursor (Drop r) = fault cursor 0 ∷ []

fault_is : (s : State) (x : Step) (o : Outcome) → x.outcome ≡ o → fault_in s x ≡ fault_for s.reader.cursor (failing x.next.output o)
unfolding fault_in fault_for failing number_of
fault_is s x Answered e =
    either (eqb (byte x.next.output 2) 0xFF) (λ error. simp (e, error, pick_true, pick_false)) (λ good. simp (e, good, pick_false))
fault_is s x (Dropped r) e = simp (e, pick_true)
fault_is s x AtEnd e = simp (e, pick_false)
fault_is s x Incomplete e = simp (e, pick_false)
fault_is s x PastEnd e = simp (e, pick_false)
fault_is s x BadImage e = simp (e, pick_false)
fault_is s x ShortOutput e = simp (e, pick_false)
fault_is s x FullTally e = simp (e, pick_false)
fault_is s x FullList e = simp (e, pick_false)

-- ---- one call

-- an item of one call
faults_one : (cursor e : ℕ) (t : Tally) → faults_of (item_of cursor cursor e t) ≡ fault cursor e ∷ []
unfolding faults_of dropped_from
faults_one cursor e t =
    let n : cursor + 1 - cursor ≡ 1 = omega arith in
    either (eqb e 0) (λ none. rw (none, pick_true, n) (ap (λ (k : ℕ). fault cursor k ∷ []) (sym (eqb-true e 0 none)))) (λ some. rw (some, pick_false))

new_item : (n cursor e : ℕ) (t : Tally) → all_faults (pending (items_of (one_more n) (item_of cursor cursor e t))) ≡ fault cursor e ∷ []
new_item n cursor e t =
    ap all_faults (some_pending (items_of (one_more n) (item_of cursor cursor e t)) (more_than_none n))
    ∙ all_one (item_of cursor cursor e t)
    ∙ faults_one cursor e t

grown_formed : (items : Items) (cursor : ℕ) (r : Reason) → Formed items → Joined items cursor → Formed (grown items cursor r)
unfolding grown
grown_formed items cursor r well j some =
    let first = well j.some in
    omega (arith, j.next)

record OneCall (items : Items) (cursor : ℕ) (f : Failing) : Type 0 where
  formed : Formed (items_after items cursor f)
  same : all_faults (pick (closes items cursor f) (pending items) []) ++ all_faults (pending (items_after items cursor f)) ≡ all_faults (pending items) ++ fault_for cursor f

one_call : (items : Items) (cursor : ℕ) (f : Failing) → Formed items → OneCall items cursor f
unfolding items_after closes fault_for all_faults
one_call items cursor Passed well = record { formed = well; same = rw pick_false (sym (append-nil (all_faults (pending items)))) }
one_call items cursor (Error e) well =
    record {
      formed = λ some. omega arith;
      same = rw pick_true (ap (λ (l : List Fault). all_faults (pending items) ++ l) (new_item items.count cursor e fresh_tally));
    }
one_call items cursor (Drop r) well =
    either (joins items cursor)
    (λ yes-joined.
    let j = joined items cursor yes-joined in
    record {
      formed = rw (yes-joined, pick_true) (grown_formed items cursor r well j);
      same = rw (yes-joined, pick_true, pick_false) (grown_item items cursor r well j);
    })
    (λ apart.
    record {
      formed = rw (apart, pick_false) (λ some. omega arith);
      same =
          rw (apart, pick_false, pick_true)
          (ap (λ (l : List Fault). all_faults (pending items) ++ l) (new_item items.count cursor 0 (with_dropped r fresh_tally)));
    })

-- ---- any number of calls

-- the call, and what the calls behind it come to
next_call : (k : ℕ) (input : List ℕ) (s : Standing) → Formed s.items
    → (Formed ((teller input).next s).items
    → all_faults (itemised k input ((teller input).next s)) ≡ all_faults (pending ((teller input).next s).items) ++ faults k input ((teller input).next s).bench)
    → all_faults (itemised (suc k) input s) ≡ all_faults (pending s.items) ++ faults (suc k) input s.bench
unfolding itemised closed_by advanced faults teller items_by
next_call k input s well rest =
    let x : Step = step (call input) s.bench in
    let cursor : ℕ = s.bench.reader.cursor in
    let f : Failing = failing x.next.output x.outcome in
    let next : Standing = standing_of x.next (items_after s.items cursor f) in
    let p : List Item = pick (closes s.items cursor f) (pending s.items) [] in
    let one = one_call s.items cursor f well in
    ap all_faults (append_assoc p (closed_by k input next) (pending (advanced k input next).items))
    ∙ all_join p (itemised k input next)
    ∙ ap (λ (l : List Fault). all_faults p ++ l) (rest one.formed)
    ∙ sym (append_assoc (all_faults p) (all_faults (pending next.items)) (faults k input x.next))
    ∙ ap (λ (l : List Fault). l ++ faults k input x.next) one.same
    ∙ append_assoc (all_faults (pending s.items)) (fault_for cursor f) (faults k input x.next)
    ∙ ap (λ (l : List Fault). all_faults (pending s.items) ++ (l ++ faults k input x.next)) (sym (fault_is s.bench x x.outcome refl))

faults_by : (k : ℕ) (input : List ℕ) (s : Standing) → Formed s.items
    → all_faults (itemised k input s) ≡ all_faults (pending s.items) ++ faults k input s.bench
unfolding itemised closed_by advanced faults
faults_by zero input s well = sym (append-nil (all_faults (pending s.items)))
faults_by (suc k) input s well = next_call k input s well (faults_by k input ((teller input).next s))

pub none_pending : (items : Items) → items.count ≡ 0 → pending items ≡ []
unfolding pending
none_pending items none = rw (eq-eqb items.count 0 none, pick_true)

pub every_failure_once : EveryFailureOnce
unfolding all_faults
every_failure_once k input s none =
    faults_by k input s (λ some. absurd (some none))
    ∙ ap (λ (l : List Item). all_faults l ++ faults k input s.bench) (none_pending s.items none)
