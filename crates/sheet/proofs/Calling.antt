-- What a call means for the items, beside what it does to the counts and to the cursor.
use Prim.Native.Nat.{ℕ, ◌+◌, ◌≤◌, ◌<◌}
use borrow.Author.Tests.{eqb-true, eqb-false, ne_eqb}
use lib.Dec.{eqb}
use mathlib.Core.Bool.{Bool, true, false, ◌&&◌}
use mathlib.Core.List.{List, [], ◌∷◌}
use mathlib.Core.Logic.{◌≢◌}
use mathlib.Core.Path.{◌≡◌, refl, ap, sym, ◌∙◌}
use native.Mathlib.Omega.{arith}
use Rattle.machine.proofs.Claimed.{history, hand_out, answer_is_one_frame, nothing_changes, drop_takes_one_byte, errors_have_a_byte}
use Rattle.machine.proofs.Steps.{step_cases}
use Rattle.machine.specs.Claims.{count, is_error, is_dropped}
use Rattle.machine.specs.Machine.{State, call, Step, unchanged, step, run, after, waiting}
use Rattle.frame.proofs.Picks.{by_test, pick_true, pick_false}
use Rattle.frame.proofs.Tests.{either}
use Rattle.frame.specs.Bytes.{pick, byte}
use Rattle.frame.specs.Finding.{reason_number}
use Rattle.frame.specs.declared.finding.Reason.{Reason}
use Rattle.frame.specs.declared.finding.Reason.TheVariants.{NoHeader, WrongType, TooLong, WrongCheck, WrongEnd}
use Rattle.population.specs.Lowest.{tag_at}
use Rattle.std.specs.Prelude.{Option, None, Some}
use Rattle.population.specs.declared.places.Place.{Place}
use Rattle.reader.proofs.Tallies.{not_full}
use Rattle.reader.specs.Outcomes.{number_of, reason_of}
use Rattle.reader.specs.Tallies.{limit, full}
use Rattle.reader.specs.declared.outcome.Outcome.{Outcome}
use Rattle.reader.specs.declared.outcome.Outcome.TheVariants.{Answered, AtEnd, Incomplete, Dropped, PastEnd, BadImage, ShortOutput, FullTally, FullList}
use Rattle.reader.specs.declared.tally.Tally.{Tally}
use Rattle.sheet.specs.Claims.{reason_count}
use Rattle.sheet.specs.Items.{failing}
use Rattle.sheet.specs.declared.items.Failing.{Failing}
use Rattle.sheet.specs.declared.items.Failing.TheVariants.{Passed, Error, Drop}

-- the drops of a reason that a call adds, and the bytes that it takes at least
unfoldable pub adds : Reason → Failing → ℕ
adds r Passed = 0
adds r (Error e) = 0
adds r (Drop q) = pick (eqb (reason_number q) (reason_number r)) 1 0

unfoldable pub least : Failing → ℕ
least Passed = 0
least (Error e) = 7
least (Drop q) = 1

-- the byte of an error answer is not 0, by which drops are told
unfoldable pub HasByte : Failing → Type 0
HasByte Passed = Unit
HasByte (Error e) = 0 < e
HasByte (Drop q) = Unit

pub record Called (s : State) (x : Step) (f : Failing) : Type 0 where
  pub counts : (r : Reason) → reason_count r x.next.reader.tally ≡ reason_count r s.reader.tally + adds r f
  pub below : (r : Reason) → reason_count r s.reader.tally ≤ limit → reason_count r s.reader.tally + adds r f ≤ limit
  pub moves : s.reader.cursor + least f ≤ x.next.reader.cursor
  pub has_byte : HasByte f

-- ---- the counts

module _ (input : List ℕ) (s : State) where
  abbrev X : Step
  X = step (call input) s

  abbrev New : Tally
  New = X.next.reader.tally

  -- one call of a history
  error_count : New.error ≡ s.reader.tally.error + pick (is_error X) 1 0
  unfolding run after count
  error_count = omega (arith, ap (λ (t : Tally). t.error) (history (call input ∷ []) s))

  reason_count_lem : (r : Reason) → reason_count r New ≡ reason_count r s.reader.tally + pick (is_dropped (reason_number r) X) 1 0
  unfolding run after count reason_count reason_number
  reason_count_lem NoHeader = omega (arith, ap (λ (t : Tally). t.header) (history (call input ∷ []) s))
  reason_count_lem WrongType = omega (arith, ap (λ (t : Tally). t.kind) (history (call input ∷ []) s))
  reason_count_lem TooLong = omega (arith, ap (λ (t : Tally). t.long) (history (call input ∷ []) s))
  reason_count_lem WrongCheck = omega (arith, ap (λ (t : Tally). t.check) (history (call input ∷ []) s))
  reason_count_lem WrongEnd = omega (arith, ap (λ (t : Tally). t.end) (history (call input ∷ []) s))

  counts_as : (o : Outcome) (r : Reason) → X.outcome ≡ o
      → reason_count r New ≡ reason_count r s.reader.tally + pick (eqb (number_of o) 3 && eqb (reason_of o) (reason_number r)) 1 0
  unfolding is_dropped
  counts_as o r e = reason_count_lem r ∙ rw e

  no_drop : (o : Outcome) (r : Reason) → X.outcome ≡ o → number_of o ≢ 3 → reason_count r New ≡ reason_count r s.reader.tally + 0
  no_drop o r e not3 = counts_as o r e ∙ rw (ne_eqb (number_of o) 3 not3) (simp pick_false)

  -- a call that takes something finds no count at the limit
  not_full_there : number_of X.outcome ≡ 3 → full s.reader.tally ≡ false
  unfolding unchanged
  not_full_there =
      step_cases (call input) s (λ (x : Step). number_of x.outcome ≡ 3 → full s.reader.tally ≡ false) (λ o not0 not3 e. absurd (not3 e))
      (λ t n p e h. t.not_full)
      (λ t none r found some h. t.not_full)
      (λ pl a code h. a.tested.not_full)
      (λ pl a code none h. a.tested.not_full)
      (λ pl a code n p e h. a.tested.not_full)

reason_below : (r : Reason) (t : Tally) → full t ≡ false → reason_count r t ≢ limit
unfolding reason_count
reason_below NoHeader t h = not_full t h 2 (omega arith)
reason_below WrongType t h = not_full t h 3 (omega arith)
reason_below TooLong t h = not_full t h 4 (omega arith)
reason_below WrongCheck t h = not_full t h 5 (omega arith)
reason_below WrongEnd t h = not_full t h 6 (omega arith)

one_more : (n : ℕ) (raised : Bool) → n ≤ limit → n ≢ limit → n + pick raised 1 0 ≤ limit
one_more n raised less other =
    by_test (λ (k : ℕ). n + k ≤ limit) raised (λ h. either (eqb n limit) (λ e. absurd (other (eqb-true n limit e))) (λ d. omega (arith, eqb-false n limit d)))
    (λ h. omega arith)

-- ---- the cursor

picked : (test : Bool) (n : ℕ) → test ≡ true → pick test n 0 ≡ n
picked test n h = simp (h, pick_true)

-- a tag that waits is handed out with no error
module _ (input : List ℕ) (s : State) (answered : number_of (step (call input) s).outcome ≡ 0) where
  handed_good : (n : ℕ) (p : Place) → waiting s ≡ tag_at n p → is_error (step (call input) s) ≡ false
  handed_good n p e =
      let h = hand_out (call input) s n p e answered in
      either (is_error (step (call input) s))
      (λ error.
      absurd (omega (arith, error_count input s, ap (λ (t : Tally). t.error) h.good_raised, picked (is_error (step (call input) s)) 1 error)))
      (λ good. good)

  -- so an error answer moves the cursor over a frame, and no answer moves it back
  answer_moves : (w : Option (ℕ × Place)) → waiting s ≡ w → s.reader.cursor + pick (is_error (step (call input) s)) 7 0 ≤ (step (call input) s).next.reader.cursor
  answer_moves None e =
      let f = answer_is_one_frame (call input) s answered in
      by_test (λ (n : ℕ). s.reader.cursor + n ≤ (step (call input) s).next.reader.cursor) (is_error (step (call input) s))
      (λ error. omega (arith, f.over_the_command e)) (λ good. omega (arith, f.over_the_command e))
  answer_moves (Some (n, p)) e =
      let f = answer_is_one_frame (call input) s answered in
      rw (handed_good n p e, pick_false) (omega (arith, f.stays_with_a_tag n p e))

-- ---- all of it

error_is : (x : Step) → x.outcome ≡ Answered → eqb (byte x.next.output 2) 0xFF ≡ true → is_error x ≡ true
unfolding is_error number_of
error_is x e error = rw (e, error)

module _ (input : List ℕ) (s : State) where
  answered_call : (step (call input) s).outcome ≡ Answered → Called s (step (call input) s) (failing (step (call input) s).next.output Answered)
  unfolding failing adds least HasByte number_of
  answered_call e =
      let x : Step = step (call input) s in
      let moves = answer_moves input s (ap number_of e) (waiting s) refl in
      by_test (Called s x) (eqb (byte x.next.output 2) 0xFF)
      (λ error.
      record {
        counts = λ r. no_drop input s Answered r e (omega arith);
        below = λ r less. omega arith;
        moves = omega (arith, moves, picked (is_error x) 7 (error_is x e error));
        has_byte = errors_have_a_byte (call input) s (ap number_of e) (eqb-true (byte x.next.output 2) 0xFF error);
      })
      (λ good. record { counts = λ r. no_drop input s Answered r e (omega arith); below = λ r less. omega arith; moves = omega (arith, moves); has_byte = tt })

  dropped_call : (q : Reason) → (step (call input) s).outcome ≡ Dropped q → Called s (step (call input) s) (Drop q)
  unfolding adds least HasByte number_of reason_of
  dropped_call q e =
      record {
        counts = λ r. counts_as input s (Dropped q) r e;
        below = λ r less.
            one_more (reason_count r s.reader.tally) (eqb (reason_number q) (reason_number r)) less
            (reason_below r s.reader.tally (not_full_there input s (ap number_of e)));
        moves = omega (arith, ap (λ (t : State). t.reader.cursor) (drop_takes_one_byte (call input) s (ap number_of e)).1);
        has_byte = tt;
      }

  still_call : (o : Outcome) → (step (call input) s).outcome ≡ o → number_of o ≢ 0 → number_of o ≢ 3 → Called s (step (call input) s) Passed
  unfolding adds least HasByte
  still_call o e not0 not3 =
      let still = (nothing_changes (call input) s (λ h. not0 (sym (ap number_of e) ∙ h)) (λ h. not3 (sym (ap number_of e) ∙ h))).0 in
      record {
        counts = λ r. no_drop input s o r e not3;
        below = λ r less. omega arith;
        moves = omega (arith, ap (λ (t : State). t.reader.cursor) still);
        has_byte = tt;
      }

  called_as : (o : Outcome) → (step (call input) s).outcome ≡ o → Called s (step (call input) s) (failing (step (call input) s).next.output o)
  unfolding failing number_of
  called_as Answered e = answered_call e
  called_as (Dropped q) e = dropped_call q e
  called_as AtEnd e = still_call AtEnd e (omega arith) (omega arith)
  called_as Incomplete e = still_call Incomplete e (omega arith) (omega arith)
  called_as PastEnd e = still_call PastEnd e (omega arith) (omega arith)
  called_as BadImage e = still_call BadImage e (omega arith) (omega arith)
  called_as ShortOutput e = still_call ShortOutput e (omega arith) (omega arith)
  called_as FullTally e = still_call FullTally e (omega arith) (omega arith)
  called_as FullList e = still_call FullList e (omega arith) (omega arith)

  pub called : Called s (step (call input) s) (failing (step (call input) s).next.output (step (call input) s).outcome)
  called = called_as (step (call input) s).outcome refl
