-- Two runs that give the same answers give the same sheet.
use Prim.Native.Nat.{ℕ, zero, suc}
use lib.Dec.{eqb}
use lib.ListN.{replicate}
use mathlib.Core.Bool.{Bool, true, false}
use mathlib.Core.List.{List, [], ◌++◌}
use mathlib.Core.Path.{◌≡◌, refl, ap, sym, ◌∙◌}
use Rattle.machine.proofs.Claimed.{demand3}
use Rattle.machine.specs.Machine.{State, call, Step, step, run}
use Rattle.machine.specs.Secrecy.{SameCall, Throughout}
use Rattle.frame.specs.Bytes.{pick}
use Rattle.frame.specs.Finding.{reason_number}
use Rattle.frame.specs.declared.finding.Reason.{Reason}
use Rattle.frame.specs.declared.finding.Reason.TheVariants.{NoHeader, WrongType, TooLong, WrongCheck, WrongEnd}
use Rattle.population.specs.declared.places.Place.{Place}
use Rattle.reader.specs.Outcomes.{number_of, reason_of}
use Rattle.reader.specs.declared.outcome.Outcome.{Outcome}
use Rattle.reader.specs.declared.outcome.Outcome.TheVariants.{Answered, AtEnd, Incomplete, Dropped, PastEnd, BadImage, ShortOutput, FullTally, FullList}
use Rattle.report.specs.Lines.{ends}
use Rattle.sheet.proofs.Tellings.{falls}
use Rattle.sheet.specs.Claims.{GoesOn, SameSheet}
use Rattle.sheet.specs.Sheet.{standing_of, items_by, is_told, part_for, teller}
use Rattle.sheet.specs.declared.items.Items.{Items}
use Rattle.text.proofs.Told.{text_over, text_more}
use Rattle.text.specs.Telling.{text_from}

-- ---- an ending is known by its number and its reason

unfoldable reason_from : ℕ → Reason
reason_from r = pick (eqb r 1) NoHeader (pick (eqb r 2) WrongType (pick (eqb r 3) TooLong (pick (eqb r 4) WrongCheck WrongEnd)))

unfoldable outcome_from : ℕ → ℕ → Outcome
outcome_from n r =
    pick (eqb n 0) Answered
    (pick (eqb n 1) AtEnd
    (pick (eqb n 2) Incomplete
    (pick (eqb n 3) (Dropped (reason_from r))
    (pick (eqb n 10) PastEnd
    (pick (eqb n 11) BadImage
    (pick (eqb n 12) ShortOutput
    (pick (eqb n 13) FullTally
    FullList)))))))

recovered : (o : Outcome) → outcome_from (number_of o) (reason_of o) ≡ o
unfolding outcome_from reason_from number_of reason_of reason_number pick
recovered Answered = refl
recovered AtEnd = refl
recovered Incomplete = refl
recovered (Dropped NoHeader) = refl
recovered (Dropped WrongType) = refl
recovered (Dropped TooLong) = refl
recovered (Dropped WrongCheck) = refl
recovered (Dropped WrongEnd) = refl
recovered PastEnd = refl
recovered BadImage = refl
recovered ShortOutput = refl
recovered FullTally = refl
recovered FullList = refl

same_outcome : (a b : Outcome) → number_of a ≡ number_of b → reason_of a ≡ reason_of b → a ≡ b
same_outcome a b n r = sym (recovered a) ∙ rw (n, r) (recovered b)

-- ---- one call in both runs

module _ (input : List ℕ) (items : Items) (s t : State) (same_reader : s.reader ≡ t.reader) (outcome : (step (call input) s).outcome ≡ (step (call input) t).outcome)
    (output : (step (call input) s).next.output ≡ (step (call input) t).next.output)
    (reader : (step (call input) s).next.reader ≡ (step (call input) t).next.reader) where
  same_part : (teller input).part (standing_of s items) ≡ (teller input).part (standing_of t items)
  unfolding teller part_for is_told
  same_part = rw (outcome, output, reader, same_reader)

  same_items : ((teller input).next (standing_of s items)).items ≡ ((teller input).next (standing_of t items)).items
  unfolding teller items_by
  same_items = rw (outcome, output, same_reader)

-- ---- any number of calls

module _ (input : List ℕ) (tags : ℕ) (places : List Place) (differs : ℕ → Bool) (m n : List ℕ) where
  abbrev Same : Step → Step → Type 0
  Same = SameCall tags places differs m n

  abbrev Text : State → Items → List ℕ
  Text s items = text_from (teller input) false (standing_of s items)

  module _ (s t : State) (items : Items) (same : s.reader ≡ t.reader) (both : Same (step (call input) s) (step (call input) t)) where
    outcomes : (step (call input) s).outcome ≡ (step (call input) t).outcome
    outcomes = same_outcome (step (call input) s).outcome (step (call input) t).outcome both.same_number both.same_reason

    parts : (teller input).part (standing_of s items) ≡ (teller input).part (standing_of t items)
    parts = same_part input items s t same outcomes both.same_output both.same_reader

    first_text : (u : State) (over : Bool) → ends (step (call input) u).outcome ≡ over
        → Text u items ≡ (teller input).part (standing_of u items) ++ text_from (teller input) over ((teller input).next (standing_of u items))
    unfolding teller
    first_text u over e = text_more (teller input) (falls input) (standing_of u items) ∙ rw e

    last_same : ends (step (call input) s).outcome ≡ true → Text s items ≡ Text t items
    last_same over =
        first_text s true over
        ∙ rw (text_over (teller input) (falls input) ((teller input).next (standing_of s items)))
        (ap (λ (l : List ℕ). l ++ []) parts
        ∙ sym (first_text t true (ap ends (sym outcomes) ∙ over) ∙ rw (text_over (teller input) (falls input) ((teller input).next (standing_of t items)))))

    next_same : ((next : Items) → Text (step (call input) s).next next ≡ Text (step (call input) t).next next)
        → text_from (teller input) false ((teller input).next (standing_of s items)) ≡ text_from (teller input) false ((teller input).next (standing_of t items))
    unfolding teller
    next_same rest =
        ap (λ (i : Items). Text (step (call input) s).next i) (same_items input items s t same outcomes both.same_output both.same_reader)
        ∙ rest ((teller input).next (standing_of t items)).items

    more_same : ends (step (call input) s).outcome ≡ false
        → ((next : Items) → Text (step (call input) s).next next ≡ Text (step (call input) t).next next) → Text s items ≡ Text t items
    more_same on rest =
        first_text s false on
        ∙ ap (λ (l : List ℕ). l ++ text_from (teller input) false ((teller input).next (standing_of s items))) parts
        ∙ ap (λ (l : List ℕ). (teller input).part (standing_of t items) ++ l) (next_same rest)
        ∙ sym (first_text t false (ap ends (sym outcomes) ∙ on))

  same_by : (k : ℕ) (s t : State) (items : Items) → s.reader ≡ t.reader
      → Throughout Same (run (replicate (suc k) (call input)) s) (run (replicate (suc k) (call input)) t) → GoesOn k input s → Text s items ≡ Text t items
  unfolding run GoesOn
  same_by zero s t items same both over = last_same s t items same both.0 over
  same_by (suc k) s t items same both on =
      let x : Step = step (call input) s in
      let y : Step = step (call input) t in
      more_same s t items same both.0 on.0 (λ next. same_by k x.next y.next next both.0.same_reader both.1 on.1)

pub same_sheet : SameSheet
same_sheet k input s n differs items premises on =
    same_by input s.tags s.places differs s.memory n k s _ items refl (demand3 s n differs (replicate (suc k) (call input)) premises) on
