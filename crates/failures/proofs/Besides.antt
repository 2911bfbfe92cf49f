-- A call beside a list: which record it adds, and where.
use Prim.Native.Nat.{ℕ, ◌+◌, ◌≤◌, ◌<◌}
use borrow.Author.Tests.{leb-false, eq-eqb, ne_eqb}
use lib.Dec.{eqb, leb}
use lib.ListN.{length}
use mathlib.Core.Bool.{Bool, true}
use mathlib.Core.List.{List, [], ◌∷◌}
use mathlib.Core.Path.{◌≡◌, refl, ap, ap₂, sym, subst, ◌∙◌}
use native.Mathlib.Omega.{arith}
use Rattle.machine.proofs.Listing.{full_stays}
use Rattle.calls.specs.Calls.{step_of, lent_of, lent_by}
use Rattle.machine.specs.Machine.{State, call, Step, code_at, unchanged, step_unless}
use Rattle.calls.specs.declared.calling.Called.{Called}
use Rattle.failures.proofs.Numbers.{none_listed}
use Rattle.failures.specs.Listing.{as_failure, is_list_full, step_beside, failure_beside, Beside}
use Rattle.failures.specs.Records.{record_of, failure_for, failure_of}
use Rattle.std.specs.Prelude.{Option, None, Some}
use Rattle.failures.specs.declared.record.Record.{Record}
use Rattle.frame.proofs.Picks.{by_test, pick_true, pick_false}
use Rattle.frame.proofs.Tests.{either}
use Rattle.frame.specs.Bytes.{byte}
use Rattle.frame.specs.Finding.{reason_number}
use Rattle.frame.specs.declared.finding.Reason.{Reason}
use Rattle.frame.specs.declared.finding.Reason.TheVariants.{NoHeader, WrongType, TooLong, WrongCheck, WrongEnd}
use Rattle.reader.specs.declared.outcome.Outcome.{Outcome}
use Rattle.reader.specs.declared.outcome.Outcome.TheVariants.{Answered, AtEnd, Incomplete, Dropped, PastEnd, BadImage, ShortOutput, FullTally, FullList}

-- ---- a failure, as the code hands it on

reason_small : (r : Reason) → reason_number r ≤ 5
unfolding reason_number
reason_small NoHeader = omega arith
reason_small WrongType = omega arith
reason_small TooLong = omega arith
reason_small WrongCheck = omega arith
reason_small WrongEnd = omega arith

pub small_reason : (r : Reason) (number : ℕ) → number ≡ reason_number r → number < 65536
small_reason r number e = omega (arith, e, reason_small r)

-- what each ending comes to
module _ (cursor code : ℕ) (output : List ℕ) where
  abbrev Told : Option Record → Outcome → Type 0
  Told failure o = failure ≡ as_failure (failure_for cursor code output o)

  pub as_told : (known o : Outcome) (failure : Option Record) → o ≡ known → Told failure known → Told failure o
  as_told known o failure e t = t ∙ ap (λ (k : Outcome). as_failure (failure_for cursor code output k)) (sym e)

  pub good_told : (first : ℕ) → first ≡ byte output 2 → (first ≡ 0xFF → ⊥) → Told None Answered
  unfolding failure_for as_failure
  good_told first is other =
      let none : failure_for cursor code output Answered ≡ [] = rw (ne_eqb (byte output 2) 0xFF (λ e. other (is ∙ e)), pick_false) in
      sym (ap as_failure none)

  pub error_told : (first error : ℕ) → first ≡ byte output 2 → first ≡ 0xFF → error ≡ byte output 5
      → (c : ℕ) → c ≡ code → Told (Some record { cursor = cursor; code = c; error = error }) Answered
  unfolding failure_for as_failure
  error_told first error is e error_is c same =
      let one : failure_for cursor code output Answered ≡ record_of cursor code (byte output 5) ∷ [] = rw (eq-eqb (byte output 2) 0xFF (sym is ∙ e), pick_true) in
      ap₂ (λ (j k : ℕ). Some (record_of cursor j k)) same error_is ∙ sym (ap as_failure one)

  pub drop_told : (r : Reason) (number : ℕ) → number ≡ reason_number r
      → Told (Some record { cursor = cursor; code = number; error = 0 }) (Dropped r)
  unfolding failure_for as_failure
  drop_told r number is = ap (λ (k : ℕ). Some (record_of cursor k 0)) is

  -- any other ending is no failure
  pub none_told : (o : Outcome) → (o ≡ Answered → ⊥) → ((r : Reason) → o ≡ Dropped r → ⊥) → Told None o
  unfolding failure_for as_failure
  none_told Answered not_answered not_dropped = absurd (not_answered refl)
  none_told (Dropped r) not_answered not_dropped = absurd (not_dropped r refl)
  none_told AtEnd not_answered not_dropped = refl
  none_told Incomplete not_answered not_dropped = refl
  none_told PastEnd not_answered not_dropped = refl
  none_told BadImage not_answered not_dropped = refl
  none_told ShortOutput not_answered not_dropped = refl
  none_told FullTally not_answered not_dropped = refl
  none_told FullList not_answered not_dropped = refl

-- one at most
one_at_most : (cursor code : ℕ) (output : List ℕ) (o : Outcome) → length (failure_for cursor code output o) ≤ 1
unfolding failure_for
one_at_most cursor code output Answered = by_test (λ (l : List Record). length l ≤ 1) (eqb (byte output 2) 0xFF) (λ _. omega arith) (λ _. omega arith)
one_at_most cursor code output (Dropped r) = omega arith
one_at_most cursor code output AtEnd = omega arith
one_at_most cursor code output Incomplete = omega arith
one_at_most cursor code output PastEnd = omega arith
one_at_most cursor code output BadImage = omega arith
one_at_most cursor code output ShortOutput = omega arith
one_at_most cursor code output FullTally = omega arith
one_at_most cursor code output FullList = omega arith

-- how many are held then
one_more : (held : ℕ) (f : List Record) (failure : Option Record) (r : Record) → length f ≤ 1 → failure ≡ as_failure f → failure ≡ Some r → held + 1 ≡ held + length f
unfolding as_failure
one_more held [] failure r few e some = let same : ◌≡◌ {A = Option Record} None (Some r) = sym e ∙ some in let z : ◌≡◌ {A = ℕ} 0 1 = cc in omega arith
one_more held (q ∷ []) failure r few e some = omega arith
one_more held (q ∷ p ∷ rest) failure r few e some = absurd (omega arith)

no_more : (held : ℕ) (f : List Record) (failure : Option Record) → failure ≡ as_failure f → failure ≡ None → held ≡ held + length f
unfolding as_failure
no_more held [] failure e none = omega arith
no_more held (q ∷ rest) failure e none = let same : ◌≡◌ {A = Option Record} (Some q) None = sym e ∙ none in let z : ◌≡◌ {A = ℕ} 0 1 = cc in omega arith

-- ---- beside a full list there is none

none_when_full : (input : List ℕ) (s : State) (room held : ℕ) → is_list_full room held ≡ true → failure_beside input s room held ≡ []
unfolding failure_of unchanged
none_when_full input s room held full =
    let r = full_stays (call input) s in
    let e : step_beside input s room held ≡ unchanged s r.0 = ap (λ (b : Bool). step_unless b (call input) s) full ∙ r.1.1 in
    ap (failure_of input s) e
    ∙ none_listed s.reader.cursor (code_at input s.reader.cursor) s.output r.0 (λ z. omega (arith, r.1.0)) (λ z. omega (arith, r.1.0))

module _ (input : List ℕ) (s : State) (bytes : List ℕ) (count room held : ℕ) (memory_left bytes_left output_left : List ℕ) (called : Called) (code : ℕ) (failure : Option Record)
    (made : step_of called memory_left s.places s.tags bytes_left output_left ≡ step_unless (leb room held) (call input) s)
    (lent : lent_of bytes_left called.state.selected ≡ lent_by (leb room held) input s (lent_of bytes count))
    (coded : code ≡ code_at input s.reader.cursor)
    (told : failure ≡ as_failure (failure_for s.reader.cursor code output_left called.outcome)) where
  failure_is : failure_for s.reader.cursor code output_left called.outcome ≡ failure_beside input s room held
  unfolding failure_of is_list_full
  failure_is =
      ap (λ (k : ℕ). failure_for s.reader.cursor k output_left called.outcome) coded
      ∙ ap (λ (x : Step). failure_for s.reader.cursor (code_at input s.reader.cursor) x.next.output x.outcome) made

  known : failure ≡ as_failure (failure_beside input s room held)
  known = told ∙ ap as_failure failure_is

  few : length (failure_beside input s room held) ≤ 1
  few = subst (λ (l : List Record). length l ≤ 1) failure_is (one_at_most s.reader.cursor code output_left called.outcome)

  -- where a failure is, the list has room for it
  pub has_room : (r : Record) → failure ≡ Some r → held < room
  unfolding is_list_full as_failure
  has_room r some =
      either (leb room held)
      (λ full.
      let same : ◌≡◌ {A = Option Record} (Some r) None = sym some ∙ known ∙ ap as_failure (none_when_full input s room held full) in
      let z : ◌≡◌ {A = ℕ} 0 1 = cc in
      omega arith)
      (λ less. leb-false room held less)

  beside : (held' : ℕ) → held' ≡ held + length (failure_beside input s room held)
      → Beside input s bytes count room held memory_left bytes_left output_left record { called = called; failure = failure; held = held' }
  unfolding is_list_full
  beside held' counts = record { step_is = made; lent_is = lent; failure_is = known; held_is = counts }

  pub beside_one : (r : Record) → failure ≡ Some r
      → Beside input s bytes count room held memory_left bytes_left output_left record { called = called; failure = failure; held = held + 1 }
  beside_one r some = beside (held + 1) (one_more held (failure_beside input s room held) failure r few known some)

  pub beside_none : failure ≡ None
      → Beside input s bytes count room held memory_left bytes_left output_left record { called = called; failure = failure; held = held }
  beside_none none = beside held (no_more held (failure_beside input s room held) failure known none)
