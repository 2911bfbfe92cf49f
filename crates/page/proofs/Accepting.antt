-- The commands that the finding rules tell of are those that the run accepts.
use Prim.Native.Nat.{ℕ, zero, suc, ◌+◌}
use lib.Dec.{eqb}
use lib.ListN.{length, drop, replicate, length-append}
use lib.Seq.{drop-drop}
use mathlib.Core.Bool.{true, false, ◌&&◌, true≢false}
use mathlib.Core.List.{List}
use mathlib.Core.Logic.{◌⊎◌, inl, inr, ⊎_elim}
use mathlib.Core.Path.{◌≡◌, refl, ap, sym, ◌∙◌}
use native.Mathlib.Omega.{arith}
use Rattle.frame.proofs.Accepting.{accepted as taken_frame}
use Rattle.frame.proofs.Picks.{pick_true, pick_false}
use Rattle.frame.specs.Bytes.{number}
use Rattle.frame.specs.Finding.{find}
use Rattle.frame.specs.Formats.{commands, pl_in}
use Rattle.frame.specs.declared.finding.Found.{Found}
use Rattle.frame.specs.declared.finding.Found.TheVariants.{End, Drop, Wait, Accept}
use Rattle.head.proofs.Claimed.{commands_taken}
use Rattle.head.specs.Commands.{commands_in}
use Rattle.machine.proofs.Answering.{number_of_found}
use Rattle.machine.proofs.Claimed.{answer_is_one_frame, drop_takes_one_byte}
use Rattle.machine.proofs.Founds.{by_found, by_waiting}
use Rattle.machine.specs.Claims.{answer_of}
use Rattle.machine.specs.Machine.{State, call, Step, waiting, input_of, rest_of, step, after}
use Rattle.machine.specs.Secrecy.{is_none, accepted_by, accepted}
use Rattle.population.specs.Lowest.{no_tag, tag_at}
use Rattle.std.specs.Prelude.{Option, None, Some}
use Rattle.population.specs.declared.places.Place.{Place}
use Rattle.reader.specs.Outcomes.{number_of}
use Rattle.reader.specs.declared.outcome.Outcome.{Outcome}
use Rattle.reader.specs.declared.outcome.Outcome.TheVariants.{Answered, AtEnd, Incomplete, Dropped, PastEnd, BadImage, ShortOutput, FullTally, FullList}
use Rattle.report.specs.Lines.{ends}
use Rattle.sheet.specs.Claims.{GoesOn}

-- a call after which the sheet goes on is answered 0 or 3
on_number : (o : Outcome) → ends o ≡ false → (number_of o ≡ 0) ⊎ (number_of o ≡ 3)
unfolding ends number_of
on_number Answered e = inl refl
on_number (Dropped r) e = inr refl
on_number AtEnd e = absurd (true≢false e)
on_number Incomplete e = absurd (true≢false e)
on_number PastEnd e = absurd (true≢false e)
on_number BadImage e = absurd (true≢false e)
on_number ShortOutput e = absurd (true≢false e)
on_number FullTally e = absurd (true≢false e)
on_number FullList e = absurd (true≢false e)

module _ (input : List ℕ) (s : State) where
  abbrev x : Step
  x = step (call input) s

  abbrev rest : List ℕ
  rest = drop s.reader.cursor input

  -- how many commands this call accepts, and those behind its cursor
  abbrev Counts : Type 0
  Counts = commands_in rest ≡ length (accepted_by (call input) s) + commands_in (drop x.next.reader.cursor input)

  none_accepted : (eqb (number_of x.outcome) 0 && is_none (waiting s)) ≡ false → length (accepted_by (call input) s) ≡ 0
  unfolding accepted_by
  none_accepted e = simp (e, pick_false)

  one_accepted : (eqb (number_of x.outcome) 0 && is_none (waiting s)) ≡ true → length (accepted_by (call input) s) ≡ 1
  unfolding accepted_by
  one_accepted e = simp (e, pick_true)

  moved : (n m : ℕ) → m ≡ s.reader.cursor + n → commands_in (drop n rest) ≡ commands_in (drop m input)
  moved n m e = ap commands_in (drop-drop n s.reader.cursor input) ∙ ap (λ (k : ℕ). commands_in (drop k input)) (sym e)

  -- a tag that is handed out is no command, and leaves the cursor
  hands : (n : ℕ) (p : Place) → waiting s ≡ tag_at n p → number_of x.outcome ≡ 0 → Counts
  unfolding is_none
  hands n p some zero_is =
      let stays = (answer_is_one_frame (call input) s zero_is).stays_with_a_tag n p some in
      let none = none_accepted (simp (zero_is, some)) in
      ap (λ (k : ℕ). commands_in (drop k input)) (sym stays) ∙ omega (arith, none)

  -- what was found
  founds : waiting s ≡ no_tag → (f : Found) → find commands rest ≡ f → number_of x.outcome ≡ number_of_found f
      → (number_of x.outcome ≡ 0) ⊎ (number_of x.outcome ≡ 3) → Counts
  unfolding number_of_found is_none input_of rest_of pl_in
  founds none End e is on = absurd (⊎_elim (λ h. omega arith) (λ h. omega arith) on)
  founds none Wait e is on = absurd (⊎_elim (λ h. omega arith) (λ h. omega arith) on)
  founds none (Drop r) e is on =
      let behind = ap (λ (t : State). t.reader.cursor) (drop_takes_one_byte (call input) s is).1 in
      let no-command = none_accepted (simp is) in
      (commands_taken rest).dropped r e ∙ moved 1 _ behind ∙ omega (arith, no-command)
  founds none (Accept pl) e is on =
      let over = (answer_is_one_frame (call input) s is).over_the_command none in
      let read : pl ≡ number rest 3 = (taken_frame commands rest pl e).read in
      let command = one_accepted (simp (is, none)) in
      (commands_taken rest).accepted pl e ∙ omega (arith, moved (7 + pl) _ (over ∙ omega (arith, read)), command)

  by_low : (low : Option (ℕ × Place)) → waiting s ≡ low → (number_of x.outcome ≡ 0) ⊎ (number_of x.outcome ≡ 3) → Counts
  by_low None none on =
      founds none (find commands rest) refl (by_found input s none (⊎_elim (λ h. omega arith) (λ h. omega arith) on)) on
  by_low (Some (n, p)) some on = hands n p some (by_waiting input s n p some (⊎_elim (λ h. omega arith) (λ h. omega arith) on))

  pub one_call : ends x.outcome ≡ false → Counts
  one_call more = by_low (waiting s) refl (on_number x.outcome more)

  -- ---- the call that ends it has found no command

  none_found : (f : Found) → find commands rest ≡ f → (number_of_found f ≡ 1) ⊎ (number_of_found f ≡ 2) → commands_in rest ≡ 0
  unfolding number_of_found
  none_found End e is = (commands_taken rest).at_end e
  none_found Wait e is = (commands_taken rest).waiting e
  none_found (Drop r) e is = absurd (⊎_elim (λ h. omega arith) (λ h. omega arith) is)
  none_found (Accept pl) e is = absurd (⊎_elim (λ h. omega arith) (λ h. omega arith) is)

  last_low : (low : Option (ℕ × Place)) → waiting s ≡ low → (number_of x.outcome ≡ 1) ⊎ (number_of x.outcome ≡ 2) → commands_in rest ≡ 0
  last_low None none is =
      let found = by_found input s none (⊎_elim (λ h. omega arith) (λ h. omega arith) is) in
      none_found (find commands rest) refl (⊎_elim (λ h. inl (sym found ∙ h)) (λ h. inr (sym found ∙ h)) is)
  last_low (Some (n, p)) some is =
      let answers = by_waiting input s n p some (⊎_elim (λ h. omega arith) (λ h. omega arith) is) in
      absurd (⊎_elim (λ h. omega arith) (λ h. omega arith) is)

  pub last_call : (answer_of (call input) s ≡ 1) ⊎ (answer_of (call input) s ≡ 2) → commands_in rest ≡ 0
  last_call is = last_low (waiting s) refl is

-- ---- any number of calls

pub all_accepted : (k : ℕ) (input : List ℕ) (s : State) → GoesOn k input s
    → (answer_of (call input) (after (replicate k (call input)) s) ≡ 1) ⊎ (answer_of (call input) (after (replicate k (call input)) s) ≡ 2)
    → commands_in (drop s.reader.cursor input) ≡ length (accepted (replicate k (call input)) s)
unfolding GoesOn accepted after
all_accepted zero input s on is = last_call input s is
all_accepted (suc k) input s on is =
    let next : State = (step (call input) s).next in
    omega (
      arith,
      one_call input s on.0,
      all_accepted k input next on.1 is,
      length-append (accepted_by (call input) s) (accepted (replicate k (call input)) next),
    )
