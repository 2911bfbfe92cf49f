-- The line of a call by its answer number.
use Prim.Native.Nat.{ℕ, ◌-◌, ◌≤◌}
use lib.Dec.{eqb}
use lib.ListN.{length, take}
use mathlib.Core.List.{List}
use mathlib.Core.Logic.{◌≢◌, ⊎_elim}
use mathlib.Core.Path.{◌≡◌, refl, ap, ◌∙◌}
use native.Mathlib.Omega.{arith}
use Rattle.machine.proofs.Claimed.{nothing_changes}
use Rattle.machine.specs.Claims.{answer_of}
use Rattle.reader.specs.Outcomes.{number_of}
use Rattle.machine.specs.Machine.{State, call, Step, step}
use Rattle.reader.specs.declared.outcome.Outcome.{Outcome}
use Rattle.reader.specs.declared.outcome.Outcome.TheVariants.{Answered, AtEnd, Incomplete, Dropped, PastEnd, BadImage, ShortOutput, FullTally, FullList}
use Rattle.reader.specs.declared.tally.Tally.{Tally}
use Rattle.frame.specs.Bytes.{pick, byte}
use Rattle.frame.specs.declared.finding.Reason.TheVariants.{NoHeader}
use Rattle.report.specs.Claims.{FrameLines, DropLines, CountLines, RefusedLines}
use Rattle.report.specs.Lines.{line_for, line_of}
use Rattle.text.specs.Counts.{counts_line, refused_line}

-- an outcome that has a number; a line does not tell the reason of a drop
outcome_of : ℕ → Outcome
outcome_of n =
    pick (eqb n 0) Answered
    (pick (eqb n 1) AtEnd
    (pick (eqb n 2) Incomplete
    (pick (eqb n 3) (Dropped NoHeader)
    (pick (eqb n 10) PastEnd
    (pick (eqb n 11) BadImage
    (pick (eqb n 12) ShortOutput
    (pick (eqb n 13) FullTally
    FullList)))))))

module _ (frame : List ℕ) (b : ℕ) (t : Tally) (left : ℕ) where
  by_number : (o : Outcome) → line_for o frame b t left ≡ line_for (outcome_of (number_of o)) frame b t left
  unfolding outcome_of number_of pick line_for
  by_number Answered = refl
  by_number AtEnd = refl
  by_number Incomplete = refl
  by_number (Dropped r) = refl
  by_number PastEnd = refl
  by_number BadImage = refl
  by_number ShortOutput = refl
  by_number FullTally = refl
  by_number FullList = refl

line_as : (input : List ℕ) (s : State) (n : ℕ) → answer_of (call input) s ≡ n
    → line_of input s (step (call input) s)
    ≡ line_for (outcome_of n) (take (step (call input) s).length (step (call input) s).next.output) (byte input s.reader.cursor)
    (step (call input) s).next.reader.tally (length input - (step (call input) s).next.reader.cursor)
unfolding line_of
line_as input s n e =
    let x : Step = step (call input) s in
    by_number _ _ _ _ x.outcome
    ∙ ap (λ (k : ℕ). line_for (outcome_of k) (take x.length x.next.output) (byte input s.reader.cursor) x.next.reader.tally (length input - x.next.reader.cursor)) e

of_refused : (frame : List ℕ) (b : ℕ) (t : Tally) (left : ℕ) (o : Outcome) → 10 ≤ number_of o → line_for o frame b t left ≡ refused_line (number_of o)
unfolding line_for number_of
of_refused frame b t left PastEnd h = refl
of_refused frame b t left BadImage h = refl
of_refused frame b t left ShortOutput h = refl
of_refused frame b t left FullTally h = refl
of_refused frame b t left FullList h = refl
of_refused frame b t left Answered h = absurd (omega arith)
of_refused frame b t left (Dropped r) h = absurd (omega arith)
of_refused frame b t left AtEnd h = absurd (omega arith)
of_refused frame b t left Incomplete h = absurd (omega arith)

pub frame_lines : FrameLines
unfolding line_for outcome_of pick
frame_lines input s answered = line_as input s 0 answered

pub drop_lines : DropLines
unfolding line_for outcome_of pick
drop_lines input s three = line_as input s 3 three

-- nothing changes under answers 1 and 2, so that the counts are those before the call
counts_before : (input : List ℕ) (s : State) → answer_of (call input) s ≢ 0 → answer_of (call input) s ≢ 3
    → counts_line (step (call input) s).next.reader.tally (length input - (step (call input) s).next.reader.cursor) ≡ counts_line s.reader.tally (length input - s.reader.cursor)
counts_before input s not0 not3 =
    ap (λ (t : State). counts_line t.reader.tally (length input - t.reader.cursor)) (nothing_changes (call input) s not0 not3).0

pub count_lines : CountLines
unfolding line_for outcome_of pick
count_lines input s =
    ⊎_elim (λ one. line_as input s 1 one ∙ counts_before input s (λ h. omega arith) (λ h. omega arith))
    (λ two. line_as input s 2 two ∙ counts_before input s (λ h. omega arith) (λ h. omega arith))

pub refused_lines : RefusedLines
unfolding line_of
refused_lines input s h = of_refused _ _ _ _ (step (call input) s).outcome h
