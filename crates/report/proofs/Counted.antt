-- The counts that the report prints: the lines before them, and the bytes of the input.
use Prim.Native.Nat.{ℕ, zero, suc, ◌+◌, ◌-◌, ◌≤◌}
use borrow.Author.Tests.{ne_eqb}
use lib.Dec.{eqb}
use lib.ListN.{length, drop, replicate}
use mathlib.Core.Bool.{Bool, true, false, not, ◌&&◌, true≢false}
use mathlib.Core.List.{List, [], ◌∷◌}
use mathlib.Core.Logic.{◌≢◌}
use mathlib.Core.Path.{◌≡◌, refl, ap, sym, ◌∙◌}
use native.Mathlib.Omega.{arith}
use Rattle.reader.specs.Outcomes.{number_of, reason_of}
use Rattle.reader.specs.declared.outcome.Outcome.{Outcome}
use Rattle.reader.specs.declared.outcome.Outcome.TheVariants.{Answered, AtEnd, Incomplete, Dropped, PastEnd, BadImage, ShortOutput, FullTally, FullList}
use Rattle.machine.proofs.Claimed.{history, answer_is_one_frame, nothing_changes, drop_takes_one_byte}
use Rattle.machine.proofs.Framing.{never_past}
use Rattle.machine.specs.Claims.{count, is_good, is_error, is_dropped}
use Rattle.machine.specs.Machine.{State, call, Step, waiting, input_of, rest_of, step, run, after}
use Rattle.machine.specs.Secrecy.{is_none}
use Rattle.frame.proofs.Picks.{pick_true, pick_false}
use Rattle.frame.proofs.Tests.{either}
use Rattle.frame.specs.Bytes.{pick, byte, number}
use Rattle.frame.specs.Finding.{reason_number}
use Rattle.frame.specs.declared.finding.Reason.{Reason}
use Rattle.frame.specs.declared.finding.Reason.TheVariants.{NoHeader, WrongType, TooLong, WrongCheck, WrongEnd}
use Rattle.population.specs.Lowest.{no_tag, tag_at}
use Rattle.std.specs.Prelude.{Option, None, Some}
use Rattle.population.specs.declared.places.Place.{Place}
use Rattle.reader.specs.declared.tally.Tally.{Tally}
use Rattle.report.specs.Claims.{is_frame, is_drop, CountsAreLines, took_by, hands_out, took, BytesAddUp}
use Rattle.report.specs.Report.{fresh}

-- ---- the lines

-- a frame's answer is good or an error
one_kind : (a b : Bool) → pick (a && not b) 1 0 + pick (a && b) 1 0 ≡ pick a 1 0
unfolding pick
one_kind true true = refl
one_kind true false = refl
one_kind false b = refl

frames : (all : List Step) → count is_good all + count is_error all ≡ count is_frame all
unfolding count is_good is_error is_frame
frames [] = refl
frames (x ∷ all) = omega (arith, frames all, one_kind (eqb (number_of x.outcome) 0) (eqb (byte x.next.output 2) 0xFF))

-- a drop has one reason
one_reason : (o : Outcome)
    → pick (eqb (number_of o) 3 && eqb (reason_of o) 1) 1 0 + pick (eqb (number_of o) 3 && eqb (reason_of o) 2) 1 0
    + pick (eqb (number_of o) 3 && eqb (reason_of o) 3) 1 0 + pick (eqb (number_of o) 3 && eqb (reason_of o) 4) 1 0
    + pick (eqb (number_of o) 3 && eqb (reason_of o) 5) 1 0
    ≡ pick (eqb (number_of o) 3) 1 0
unfolding pick number_of reason_of reason_number
one_reason Answered = refl
one_reason AtEnd = refl
one_reason Incomplete = refl
one_reason (Dropped NoHeader) = refl
one_reason (Dropped WrongType) = refl
one_reason (Dropped TooLong) = refl
one_reason (Dropped WrongCheck) = refl
one_reason (Dropped WrongEnd) = refl
one_reason PastEnd = refl
one_reason BadImage = refl
one_reason ShortOutput = refl
one_reason FullTally = refl
one_reason FullList = refl

reasons : (all : List Step)
    → count (is_dropped 1) all + count (is_dropped 2) all + count (is_dropped 3) all + count (is_dropped 4) all + count (is_dropped 5) all ≡ count is_drop all
unfolding count is_dropped is_drop
reasons [] = refl
reasons (x ∷ all) = omega (arith, reasons all, one_reason x.outcome)

pub counts_are_lines : CountsAreLines
unfolding fresh
counts_are_lines k commands memory sizes =
    let calls = replicate k (call commands) in
    let h = history calls (fresh memory sizes) in (
      omega (arith, ap (λ (t : Tally). t.good) h, ap (λ (t : Tally). t.error) h, frames (run calls (fresh memory sizes))),
      omega (
        arith,
        ap (λ (t : Tally). t.header) h,
        ap (λ (t : Tally). t.kind) h,
        ap (λ (t : Tally). t.long) h,
        ap (λ (t : Tally). t.check) h,
        ap (λ (t : Tally). t.end) h,
        reasons (run calls (fresh memory sizes)),
      ),
    )

-- ---- the bytes

took_none : (o : Outcome) → number_of o ≢ 0 → number_of o ≢ 3 → (pl : ℕ) → took_by o pl ≡ 0
unfolding took_by number_of
took_none Answered not0 not3 pl = absurd (not0 refl)
took_none (Dropped r) not0 not3 pl = absurd (not3 refl)
took_none AtEnd not0 not3 pl = refl
took_none Incomplete not0 not3 pl = refl
took_none PastEnd not0 not3 pl = refl
took_none BadImage not0 not3 pl = refl
took_none ShortOutput not0 not3 pl = refl
took_none FullTally not0 not3 pl = refl
took_none FullList not0 not3 pl = refl

-- a tag that waits is handed out, and no byte taken
is_one : (w : Option (ℕ × Place)) → is_none w ≡ false → (n : ℕ) × (p : Place) × (w ≡ tag_at n p)
unfolding is_none
is_one None h = absurd (true≢false h)
is_one (Some (n, p)) h = (n, p, refl)

is_none_lem : (w : Option (ℕ × Place)) → is_none w ≡ true → w ≡ no_tag
unfolding is_none
is_none_lem None h = refl
is_none_lem (Some (n, p)) h = absurd (true≢false (sym h))

module _ (input : List ℕ) where
  -- the cursor moves over what a call takes
  abbrev Moved : State → Step → Type 0
  Moved s x = x.next.reader.cursor ≡ s.reader.cursor + pick (hands_out s x) 0 (took_by x.outcome (number (drop s.reader.cursor input) 3))

  moved_as : (s : State) (o : Outcome) → (step (call input) s).outcome ≡ o
      → (step (call input) s).next.reader.cursor ≡ s.reader.cursor + pick (eqb (number_of o) 0 && not (is_none (waiting s))) 0 (took_by o (number (drop s.reader.cursor input) 3))
      → Moved s (step (call input) s)
  unfolding hands_out
  moved_as s o e h = rw e h

  answers : (s : State) → (step (call input) s).outcome ≡ Answered → Moved s (step (call input) s)
  unfolding number_of took_by rest_of input_of
  answers s e =
      let f = answer_is_one_frame (call input) s (ap number_of e) in
      moved_as s Answered e
      (either (is_none (waiting s))
      (λ none. simp (none, pick_false) (f.over_the_command (is_none_lem (waiting s) none)))
      (λ one.
      let tag = is_one (waiting s) one in
      simp (one, pick_true) (omega (arith, f.stays_with_a_tag tag.0 tag.1 tag.2))))

  drops_one : (s : State) (r : Reason) → (step (call input) s).outcome ≡ Dropped r → Moved s (step (call input) s)
  unfolding number_of took_by
  drops_one s r e =
      let d = (drop_takes_one_byte (call input) s (ap number_of e)).1 in
      moved_as s (Dropped r) e (simp pick_false (ap (λ (t : State). t.reader.cursor) d))

  stays_put : (s : State) (o : Outcome) → (step (call input) s).outcome ≡ o → number_of o ≢ 0 → number_of o ≢ 3 → Moved s (step (call input) s)
  stays_put s o e not0 not3 =
      let still = (nothing_changes (call input) s (λ h. not0 (sym (ap number_of e) ∙ h)) (λ h. not3 (sym (ap number_of e) ∙ h))).0 in
      moved_as s o e
      (rw (ne_eqb (number_of o) 0 not0, pick_false, took_none o not0 not3 (number (drop s.reader.cursor input) 3))
      (omega (arith, ap (λ (t : State). t.reader.cursor) still)))

  moved : (s : State) (o : Outcome) → (step (call input) s).outcome ≡ o → Moved s (step (call input) s)
  unfolding number_of
  moved s Answered e = answers s e
  moved s (Dropped r) e = drops_one s r e
  moved s AtEnd e = stays_put s AtEnd e (omega arith) (omega arith)
  moved s Incomplete e = stays_put s Incomplete e (omega arith) (omega arith)
  moved s PastEnd e = stays_put s PastEnd e (omega arith) (omega arith)
  moved s BadImage e = stays_put s BadImage e (omega arith) (omega arith)
  moved s ShortOutput e = stays_put s ShortOutput e (omega arith) (omega arith)
  moved s FullTally e = stays_put s FullTally e (omega arith) (omega arith)
  moved s FullList e = stays_put s FullList e (omega arith) (omega arith)

  all_over : (k : ℕ) (s : State) → s.reader.cursor ≤ length input
      → took input s (run (replicate k (call input)) s) + (length input - (after (replicate k (call input)) s).reader.cursor) ≡ length input - s.reader.cursor
  unfolding took run after input_of
  all_over zero s h = omega arith
  all_over (suc k) s h =
      let within = never_past (call input) s h in
      omega (arith, all_over k (step (call input) s).next within, moved s (step (call input) s).outcome refl, within)

pub bytes_add_up : BytesAddUp
unfolding fresh
bytes_add_up k commands memory sizes = omega (arith, all_over commands k (fresh memory sizes) (omega arith))
