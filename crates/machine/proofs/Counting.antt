-- The counts of a run: each answer raises the count of its kind.
use Prim.Native.Nat.{ℕ, ◌+◌}
use borrow.Author.Tests.{ne_eqb}
use lib.Dec.{eqb}
use mathlib.Core.Bool.{Bool, true, false}
use mathlib.Core.List.{List, [], ◌∷◌}
use mathlib.Core.Logic.{◌≢◌}
use mathlib.Core.Path.{◌≡◌, refl, sym, ◌∙◌}
use native.Mathlib.Nat.{add-zero, add_assoc}
use Rattle.reader.proofs.Counts.{one_more}
use Rattle.reader.proofs.Counts.{raises}
use Rattle.reader.specs.Outcomes.{number_of, reason_of}
use Rattle.reader.specs.declared.outcome.Outcome.{Outcome}
use Rattle.reader.specs.declared.outcome.Outcome.TheVariants.{Answered}
use Rattle.machine.proofs.Steps.{step_cases}
use Rattle.machine.specs.Claims.{count, is_good, is_error, is_dropped, History}
use Rattle.machine.specs.Machine.{State, Call, Step, unchanged, dropped, told, plain_error, select_taken, selecting, missed, image_for, act_for, acted, aimed, step, run, after, counted}
use Rattle.machine.specs.declared.deciding.Aimed.{Aimed}
use Rattle.frame.proofs.FrameBytes.{code_frame}
use Rattle.frame.proofs.Picks.{pick_true, pick_false}
use Rattle.frame.proofs.Tests.{either}
use Rattle.frame.specs.Bytes.{pick, byte}
use Rattle.frame.specs.declared.finding.Reason.{Reason}
use Rattle.population.specs.Selections.{taken}
use Rattle.reader.specs.Tallies.{full, with_good, with_error}
use Rattle.reader.specs.declared.tally.Tally.{Tally}
use Rattle.tag.proofs.AnswerBytes.{error_code}
use Rattle.tag.specs.Answers as Answers

-- the tally that a step leaves: each count with one more where the step is of its kind
abbrev with_step : Tally → Step → Tally
with_step t x =
    record {
      good = t.good + pick (is_good x) 1 0;
      error = t.error + pick (is_error x) 1 0;
      header = t.header + pick (is_dropped 1 x) 1 0;
      kind = t.kind + pick (is_dropped 2 x) 1 0;
      long = t.long + pick (is_dropped 3 x) 1 0;
      check = t.check + pick (is_dropped 4 x) 1 0;
      end = t.end + pick (is_dropped 5 x) 1 0;
    }

-- an answered step that counts by whether the code of its frame is FF
module _ (t : Tally) (x : Step) (error : Bool) (answers : x.outcome ≡ Answered) (code : eqb (byte x.next.output 2) 0xFF ≡ error)
    (counts : x.next.reader.tally ≡ pick error (with_error t) (with_good t)) where
  pub answered_counts : full t ≡ false → x.next.reader.tally ≡ with_step t x
  unfolding is_good is_error is_dropped number_of
  answered_counts h = counts ∙ raises t error h ∙ sym (simp (answers, code, pick_false))

-- a step with neither answer 0 nor 3 is of no kind
unchanged_counts : (s : State) (o : Outcome) → number_of o ≢ 0 → number_of o ≢ 3 → (unchanged s o).next.reader.tally ≡ with_step s.reader.tally (unchanged s o)
unfolding unchanged is_good is_error is_dropped
unchanged_counts s o m n = simp (ne_eqb (number_of o) 0 m, ne_eqb (number_of o) 3 n, pick_false, add-zero)

dropped_counts : (s : State) (r : Reason) → full s.reader.tally ≡ false → (dropped s r).next.reader.tally ≡ with_step s.reader.tally (dropped s r)
unfolding dropped is_good is_error is_dropped number_of reason_of
dropped_counts s r h = one_more s.reader.tally h r ∙ simp (pick_false, add-zero)

aimed_counts : (s : State) (a : Aimed) (p : List ℕ) → full s.reader.tally ≡ false → (aimed s a p).next.reader.tally ≡ with_step s.reader.tally (aimed s a p)
unfolding aimed acted act_for image_for counted
aimed_counts s a p h =
    answered_counts s.reader.tally (aimed s a p) (Answers.is_error (act_for s a p)) refl (error_code (image_for s a) p a.code s.output) refl h

missed_counts : (s : State) (e behind : ℕ) → full s.reader.tally ≡ false
    → (missed s e behind).next.reader.tally ≡ with_step s.reader.tally (missed s e behind)
unfolding missed told
missed_counts s e behind h =
    answered_counts s.reader.tally (missed s e behind) true refl (rw (code_frame 0x01 0xFF (e ∷ []) s.output) refl) (sym (simp pick_true)) h

selecting_counts : (s : State) (p : List ℕ) (behind : ℕ) → full s.reader.tally ≡ false
    → (selecting s p behind).next.reader.tally ≡ with_step s.reader.tally (selecting s p behind)
unfolding selecting told
selecting_counts s p behind h =
    either (taken p)
    (λ yes-taken. simp (yes-taken, pick_true)
    (answered_counts s.reader.tally (told s select_taken p _) false refl (rw (code_frame 0x01 0x0C (0x00 ∷ []) s.output) refl) (sym (simp pick_false)) h))
    (λ not_taken. simp (not_taken, pick_false)
    (answered_counts s.reader.tally (told s (plain_error 0x17) s.selection _) true refl (rw (code_frame 0x01 0xFF (0x17 ∷ []) s.output) refl)
    (sym (simp pick_true)) h))

step_counts : (c : Call) (s : State) → (step c s).next.reader.tally ≡ with_step s.reader.tally (step c s)
step_counts c s =
    step_cases c s (λ (x : Step). x.next.reader.tally ≡ with_step s.reader.tally x) (unchanged_counts s)
    (λ t n p e. aimed_counts s _ _ t.not_full)
    (λ t none r found some. dropped_counts s r t.not_full)
    (λ pl a code. selecting_counts s _ _ a.tested.not_full)
    (λ pl a code none. missed_counts s _ _ a.tested.not_full)
    (λ pl a code n p e. aimed_counts s _ _ a.tested.not_full)

pub history : History
unfolding run after count
history [] s = simp add-zero
history (c ∷ calls) s = history calls (step c s).next ∙ simp (step_counts c s, add_assoc)
