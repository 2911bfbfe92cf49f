-- What a call adds to the list.
use Prim.Native.Nat.{ℕ}
use borrow.Author.Tests.{eq-eqb, ne_eqb}
use mathlib.Core.List.{List, [], ◌∷◌, ◌++◌, append-nil}
use mathlib.Core.Logic.{◌≢◌}
use mathlib.Core.Path.{◌≡◌, refl, ap, ◌∙◌}
use native.Mathlib.Omega.{arith}
use Rattle.machine.proofs.Secrets.{code_there}
use Rattle.machine.specs.Machine as Inner
use Rattle.failures.proofs.Numbers.{none_added}
use Rattle.failures.specs.Claims.{EachFailureListed}
use Rattle.failures.specs.Machine.{bench_step, listed, step}
use Rattle.failures.specs.Records.{record_of, failure_for, failure_of}
use Rattle.failures.specs.declared.record.Record.{Record}
use Rattle.frame.proofs.Picks.{pick_true, pick_false}
use Rattle.frame.specs.Bytes.{byte}
use Rattle.frame.specs.Formats.{code_in}
use Rattle.reader.specs.Outcomes.{number_of, reason_of}
use Rattle.reader.specs.declared.outcome.Outcome.{Outcome}
use Rattle.reader.specs.declared.outcome.Outcome.TheVariants.{Answered, AtEnd, Incomplete, Dropped, PastEnd, BadImage, ShortOutput, FullTally, FullList}

module _ (cursor code : ℕ) (output : List ℕ) where
  error_is : (o : Outcome) → number_of o ≡ 0 → byte output 2 ≡ 0xFF → failure_for cursor code output o ≡ record_of cursor code (byte output 5) ∷ []
  unfolding failure_for number_of
  error_is Answered n e = rw (eq-eqb (byte output 2) 0xFF e, pick_true)
  error_is AtEnd n e = absurd (omega arith)
  error_is Incomplete n e = absurd (omega arith)
  error_is (Dropped r) n e = absurd (omega arith)
  error_is PastEnd n e = absurd (omega arith)
  error_is BadImage n e = absurd (omega arith)
  error_is ShortOutput n e = absurd (omega arith)
  error_is FullTally n e = absurd (omega arith)
  error_is FullList n e = absurd (omega arith)

  good_is : (o : Outcome) → number_of o ≡ 0 → byte output 2 ≢ 0xFF → failure_for cursor code output o ≡ []
  unfolding failure_for number_of
  good_is Answered n e = rw (ne_eqb (byte output 2) 0xFF e, pick_false)
  good_is AtEnd n e = refl
  good_is Incomplete n e = refl
  good_is (Dropped r) n e = absurd (omega arith)
  good_is PastEnd n e = refl
  good_is BadImage n e = refl
  good_is ShortOutput n e = refl
  good_is FullTally n e = refl
  good_is FullList n e = refl

  drop_is : (o : Outcome) → number_of o ≡ 3 → failure_for cursor code output o ≡ record_of cursor (reason_of o) 0 ∷ []
  unfolding failure_for number_of reason_of
  drop_is (Dropped r) n = refl
  drop_is Answered n = absurd (omega arith)
  drop_is AtEnd n = absurd (omega arith)
  drop_is Incomplete n = absurd (omega arith)
  drop_is PastEnd n = absurd (omega arith)
  drop_is BadImage n = absurd (omega arith)
  drop_is ShortOutput n = absurd (omega arith)
  drop_is FullTally n = absurd (omega arith)
  drop_is FullList n = absurd (omega arith)

pub each_failure_listed : EachFailureListed
unfolding step listed failure_of code_in
each_failure_listed input s =
    let x : Inner.Step = bench_step input s in
    let cursor : ℕ = s.bench.reader.cursor in
    let code : ℕ = Inner.code_at input cursor in
    let output : List ℕ = x.next.output in
    record {
      error_listed = λ n e.
          ap (λ (l : List Record). s.records ++ l)
          (error_is cursor code output x.outcome n e ∙ ap (λ (k : ℕ). record_of cursor k (byte output 5) ∷ []) (code_there input cursor));
      drop_listed = λ n. ap (λ (l : List Record). s.records ++ l) (drop_is cursor code output x.outcome n);
      good_not_listed = λ n e. ap (λ (l : List Record). s.records ++ l) (good_is cursor code output x.outcome n e) ∙ append-nil s.records;
      others_not_listed = λ not0 not3. none_added input s not0 not3;
      room_stays = refl;
    }
