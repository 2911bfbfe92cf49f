-- What a caller learns of a call's end: nothing changed, a byte was dropped, or a command was answered, which leaves the counts of the drops; and that the
-- lent bytes stay the machine's selection.
use Prim.Native.Nat.{ℕ, ◌+◌, ◌≤◌, ◌<◌}
use borrow.Author.Tests.{eqb-true}
use lib.ListN.{length, take, drop, get_or, length-take}
use lib.Seq.{get_or-take, get_or-drop}
use mathlib.Core.Bool.{Bool, true}
use mathlib.Core.List.{List}
use mathlib.Core.Logic.{◌≢◌}
use mathlib.Core.Path.{◌≡◌, refl, ◌∙◌}
use native.Mathlib.Omega.{arith}
use Rattle.reader.specs.Outcomes.{number_of}
use Rattle.reader.specs.declared.outcome.Outcome.{Outcome}
use Rattle.reader.specs.declared.outcome.Outcome.TheVariants.{Answered, FullList}
use Rattle.machine.proofs.Answering.{selecting_answers}
use Rattle.calls.proofs.Doing.{in_front}
use Rattle.machine.proofs.Steps.{hand_out_at, command_at, job_cases}
use Rattle.machine.specs.Lent.{selection_in}
use Rattle.calls.specs.Calls.{Lent, with_selected, lent_after, lent_by, LentSelection}
use Rattle.machine.specs.Machine.{State, call, Step, parameters_at, unchanged, dropped, told, selecting, missed, act_for, acted, aimed, decide, carried_out, input_of, counted, is_refused, unless, step_unless}
use Rattle.machine.specs.declared.deciding.Aimed.{Aimed}
use Rattle.machine.specs.declared.deciding.Job.{Job}
use Rattle.frame.proofs.Picks.{pick_true, pick_false, by_test}
use Rattle.frame.proofs.Tests.{either, all_at}
use Rattle.frame.specs.Bytes.{byte, part}
use Rattle.frame.specs.declared.finding.Reason.{Reason}
use Rattle.population.proofs.Takings.{taken_short}
use Rattle.population.specs.Selections.{mask_bytes, taken}
use Rattle.reader.specs.Tallies.{tally_of}
use Rattle.reader.specs.declared.tally.Tally.{Tally}
use Rattle.tag.specs.Answers.{is_error}
use Rattle.tag.specs.Errors.{Verdict}

abbrev pub DropsStay : Tally → Tally → Type 0
DropsStay t u = u ≡ tally_of u.good u.error t.header t.kind t.long t.check t.end

counted_stays : (act : Verdict) (t : Tally) → DropsStay t (counted act t)
unfolding counted
counted_stays act t = by_test (DropsStay t) (is_error act) (λ _. refl) (λ _. refl)

module _ (input : List ℕ) (s : State) (l : Lent) (P : Step → Lent → Type 0)
    (stays : (o : Outcome) → number_of o ≢ 0 → number_of o ≢ 3 → P (unchanged s o) l)
    (drops : (r : Reason) → P (dropped s r) l)
    (answers : (x : Step) (m : Lent) → x.outcome ≡ Answered → DropsStay s.reader.tally x.next.reader.tally → P x m) where
  aims : (a : Aimed) → P (aimed s a (part input a.first a.pl)) l
  unfolding aimed acted
  aims a = answers _ l refl (counted_stays (act_for s a (part input a.first a.pl)) s.reader.tally)

  selects : (p : List ℕ) (behind : ℕ) → P (selecting s p behind) (with_selected p l)
  unfolding selecting told
  selects p behind =
      answers _ _ (selecting_answers s p behind)
      (by_test (λ (x : Step). DropsStay s.reader.tally x.next.reader.tally) (taken p) (λ _. refl) (λ _. refl))

  misses : (e behind : ℕ) → P (missed s e behind) l
  unfolding missed told
  misses e behind = answers _ l refl refl

  abbrev Comes : Job → Type 0
  Comes j = P (carried_out input s j) (lent_after input s.reader.cursor l j)

  decided : Comes (decide input s)
  unfolding lent_after carried_out
  decided =
      job_cases input s Comes stays
      (λ t n p e. aims (hand_out_at s n p))
      (λ t none r found some. drops r)
      (λ pl a is. selects (parameters_at input s.reader.cursor pl) _)
      (λ pl a other none. misses _ _)
      (λ pl a other n p e. aims (command_at input s pl n p))

  pub call_cases : (list_full : Bool) → P (step_unless list_full (call input) s) (lent_by list_full input s l)
  unfolding step_unless unless input_of lent_by lent_after carried_out number_of
  call_cases list_full =
      by_test Comes list_full (λ _. by_test Comes (is_refused (decide input s)) (λ _. decided) (λ _. stays FullList (omega arith) (omega arith))) (λ _. decided)

-- ---- what stands in the lent bytes

taken_long : (p : List ℕ) → taken p ≡ true → 7 ≤ length p
unfolding taken
taken_long p h = let whole : length p ≡ 7 + mask_bytes p = eqb-true _ _ (all_at _ 4 h) in omega arith

-- of a Set Select that is taken the mask length is there, and one byte
mask_small : (input : List ℕ) (cursor pl : ℕ) → ((i : ℕ) → byte input i < 256) → taken (parameters_at input cursor pl) ≡ true
    → length (parameters_at input cursor pl) ≤ 39
unfolding parameters_at part byte
mask_small input cursor pl are h =
    let p : List ℕ = take pl (drop (cursor + 5) input) in
    let long : 7 ≤ length p = taken_long p h in
    let there : 5 < pl = omega (arith, long, length-take pl (drop (cursor + 5) input)) in
    let same : get_or p 5 0 ≡ get_or input (cursor + 5 + 5) 0 =
    get_or-take pl (drop (cursor + 5) input) 5 0 there ∙ get_or-drop (cursor + 5) input 5 0
    in
    taken_short p (omega (arith, same, are (cursor + 5 + 5))) h

-- a job leaves in front what it leaves as the selection
abbrev InFront : List ℕ → State → Lent → Job → Type 0
InFront input s l j =
    selection_in (lent_after input s.reader.cursor l j).bytes (lent_after input s.reader.cursor l j).count ≡ (carried_out input s j).next.selection

decided_in_front : (input : List ℕ) (s : State) (l : Lent) → ((i : ℕ) → byte input i < 256) → length l.bytes ≡ 39 → selection_in l.bytes l.count ≡ s.selection
    → InFront input s l (decide input s)
unfolding lent_after carried_out unchanged dropped selecting missed told aimed acted with_selected
decided_in_front input s l are room same =
    job_cases input s (InFront input s l)
    (λ o m n. same)
    (λ t n p e. same)
    (λ t none r found some. same)
    (λ pl a is.
    let p : List ℕ = parameters_at input s.reader.cursor pl in
    either (taken p) (λ h. simp (h, pick_true) (in_front l.bytes p (mask_small input s.reader.cursor pl are h) room))
    (λ h. simp (h, pick_false) same))
    (λ pl a other none. same)
    (λ pl a other n p e. same)

pub lent_selection : LentSelection
unfolding step_unless unless input_of lent_by lent_after carried_out unchanged
lent_selection list_full input s l are room same =
    let decided = decided_in_front input s l are room same in
    by_test (InFront input s l) list_full (λ _. by_test (InFront input s l) (is_refused (decide input s)) (λ _. decided) (λ _. same)) (λ _. decided)
