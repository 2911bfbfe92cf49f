-- The report without a bound on its calls: a line, and the report from the state that the call left.
use Prim.Native.Nat.{ℕ, zero, suc, ◌<◌}
use borrow.Author.Tests.{not-false}
use mathlib.Core.Bool.{true, false, not}
use mathlib.Core.List.{List, [], ◌∷◌, ◌++◌}
use mathlib.Core.Path.{◌≡◌, refl, ap, sym, ◌∙◌}
use native.Mathlib.Omega.{arith}
use Rattle.machine.proofs.Claimed.{work_falls}
use Rattle.machine.specs.Claims.{takes}
use Rattle.reader.specs.Outcomes.{number_of}
use Rattle.machine.specs.Machine.{State, call, Step, step, work}
use Rattle.reader.specs.declared.outcome.Outcome.{Outcome}
use Rattle.reader.specs.declared.outcome.Outcome.TheVariants.{Answered, AtEnd, Incomplete, Dropped, PastEnd, BadImage, ShortOutput, FullTally, FullList}
use Rattle.frame.proofs.Picks.{pick_true, pick_false}
use Rattle.frame.proofs.Tests.{either}
use Rattle.frame.specs.Bytes.{pick}
use Rattle.report.specs.Lines.{line_of, ends}
use Rattle.report.specs.Report.{steps_by, steps, steps_from, lines_of, report_from}

-- the calls after which the report goes on are those that are answered 0 or 3
pub ends_is : (x : Step) (o : Outcome) → x.outcome ≡ o → ends o ≡ not (takes x)
unfolding ends takes number_of
ends_is x Answered e = simp e
ends_is x (Dropped r) e = simp e
ends_is x AtEnd e = simp e
ends_is x Incomplete e = simp e
ends_is x PastEnd e = simp e
ends_is x BadImage e = simp e
ends_is x ShortOutput e = simp e
ends_is x FullTally e = simp e
ends_is x FullList e = simp e

module _ (input : List ℕ) where
  -- and they lower the work that is left
  pub less_left : (s : State) → ends (step (call input) s).outcome ≡ false → work input (step (call input) s).next < work input s
  less_left s more =
      let x : Step = step (call input) s in
      work_falls input s (not-false (takes x) (sym (ends_is x x.outcome refl) ∙ more))

  -- more calls than there is work left change nothing
  enough : (m n : ℕ) (s : State) → work input s < m → work input s < n → steps_by m input s ≡ steps_by n input s
  unfolding steps_by
  enough zero n s hm hn = absurd (omega arith)
  enough (suc m) zero s hm hn = absurd (omega arith)
  enough (suc m) (suc n) s hm hn =
      let x : Step = step (call input) s in
      either (ends x.outcome) (λ last. simp (last, pick_true))
      (λ more.
      let less = less_left s more in
      ap (λ (rest : List Step). x ∷ pick (ends x.outcome) [] rest)
      (enough m n x.next (omega arith) (omega arith)))

  first : (s : State) → steps_by (suc (work input s)) input s
      ≡ step (call input) s ∷ pick (ends (step (call input) s).outcome) [] (steps_by (work input s) input (step (call input) s).next)
  unfolding steps_by
  first s = refl

  pub steps_more : (s : State) → steps input s ≡ step (call input) s ∷ pick (ends (step (call input) s).outcome) [] (steps input (step (call input) s).next)
  unfolding steps
  steps_more s =
      let x : Step = step (call input) s in
      first s
      ∙ either (ends x.outcome) (λ last. simp (last, pick_true))
      (λ more.
      let less = less_left s more in
      ap (λ (rest : List Step). x ∷ pick (ends x.outcome) [] rest)
      (enough (work input s) (suc (work input x.next)) x.next (omega arith) (omega arith)))

  pub none_left : (s : State) → steps_from input true s ≡ []
  unfolding steps_from
  none_left s = pick_true [] (steps input s)

  pub one_left : (s : State)
      → steps_from input false s ≡ step (call input) s ∷ steps_from input (ends (step (call input) s).outcome) (step (call input) s).next
  unfolding steps_from
  one_left s = pick_false [] (steps input s) ∙ steps_more s

  pub report_over : (s : State) → report_from input true s ≡ []
  unfolding report_from lines_of
  report_over s = ap (λ (all : List Step). lines_of input s all) (none_left s)

  pub report_more : (s : State)
      → report_from input false s
      ≡ line_of input s (step (call input) s) ++ report_from input (ends (step (call input) s).outcome) (step (call input) s).next
  unfolding report_from lines_of
  report_more s = ap (λ (all : List Step). lines_of input s all) (one_left s)
