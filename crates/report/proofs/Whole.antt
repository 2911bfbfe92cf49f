-- The whole report: lines of calls that take bytes, then one line that ends it.
use Prim.Native.Nat.{ℕ, zero, suc, ◌+◌, ◌≤◌}
use borrow.Author.Tests.{ltb-false, le-ltb}
use lib.Dec.{ltb}
use lib.ListN.{length, replicate}
use mathlib.Core.Bool.{Bool, true, false, not}
use mathlib.Core.List.{List, ◌++◌, append_assoc, append-nil}
use mathlib.Core.Logic.{◌⊎◌, ⊎_elim}
use mathlib.Core.Path.{◌≡◌, refl, ap, sym, ◌∙◌}
use native.Mathlib.Omega.{arith}
use Rattle.machine.proofs.Claimed.{bound}
use Rattle.machine.specs.Claims.{answer_of, count, takes}
use Rattle.reader.specs.Outcomes.{number_of}
use Rattle.machine.specs.Machine.{State, call, Step, waiting, unchanged, decide, carried_out, input_of, step, run, after}
use Rattle.reader.specs.declared.outcome.Outcome.TheVariants.{BadImage}
use Rattle.frame.proofs.Picks.{by_test, pick_true, pick_false}
use Rattle.frame.proofs.Tests.{either, or_neither}
use Rattle.frame.specs.Bytes.{pick}
use Rattle.population.proofs.Firsts.{first_none}
use Rattle.population.specs.Lowest.{lowest, no_tag}
use Rattle.population.specs.Places.{good_population}
use Rattle.population.specs.Selections.{good_selection}
use Rattle.population.specs.declared.places.Place.{Place}
use Rattle.std.specs.Prelude.{Option}
use Rattle.report.proofs.LinesOfCalls.{count_lines, refused_lines}
use Rattle.report.proofs.Reports.{ends_is, report_over, report_more}
use Rattle.report.specs.Claims.{TooLongReport, LineByLine, GoodCrateReport, BadCrateReport}
use Rattle.report.specs.Lines.{line_of}
use Rattle.report.specs.Report.{lines_of, report_from, any_long, too_long, places_of, fresh, report_of}
use Rattle.text.specs.Counts.{refused_line}

pub line_by_line : LineByLine
line_by_line input s =
    let x : Step = step (call input) s in
    report_more input s ∙ ap (λ (b : Bool). line_of input s x ++ report_from input b x.next) (ends_is x x.outcome refl)

module _ (input : List ℕ) where
  -- as many calls as take bytes, each of them taking some
  few : (k : ℕ) (s : State) → count takes (run (replicate k (call input)) s) ≤ k
  unfolding run count
  few zero s = omega arith
  few (suc k) s =
      by_test (λ (n : ℕ). n + count takes (run (replicate k (call input)) (step (call input) s).next) ≤ suc k) (takes (step (call input) s))
      (λ h. omega (arith, few k (step (call input) s).next))
      (λ h. omega (arith, few k (step (call input) s).next))

  pub record Taken (k : ℕ) (s : State) : Type 0 where
    pub first : takes (step (call input) s) ≡ true
    pub rest : count takes (run (replicate k (call input)) (step (call input) s).next) ≡ k

  pub all_taken : (k : ℕ) (s : State) → count takes (run (replicate (suc k) (call input)) s) ≡ suc k → Taken k s
  unfolding run count
  all_taken k s =
      either (takes (step (call input) s))
      (λ h e. record { first = h; rest = omega (arith, simp (h, pick_true) at e) })
      (λ h e. absurd (omega (arith, simp (h, pick_false) at e, few k (step (call input) s).next)))

  -- a call that takes none has the only line
  only : (s : State) → takes (step (call input) s) ≡ false → report_from input false s ≡ line_of input s (step (call input) s)
  only s last =
      let x : Step = step (call input) s in
      line_by_line input s
      ∙ ap (λ (b : Bool). line_of input s x ++ report_from input (not b) x.next) last
      ∙ ap (λ (l : List ℕ). line_of input s x ++ l) (report_over input x.next)
      ∙ append-nil (line_of input s x)

  whole : (k : ℕ) (s : State) → count takes (run (replicate k (call input)) s) ≡ k → takes (step (call input) (after (replicate k (call input)) s)) ≡ false
      → report_from input false s
      ≡ lines_of input s (run (replicate k (call input)) s)
      ++ line_of input (after (replicate k (call input)) s) (step (call input) (after (replicate k (call input)) s))
  unfolding run after lines_of
  whole zero s all last = only s last
  whole (suc k) s all last =
      let x : Step = step (call input) s in
      let t = all_taken k s all in
      line_by_line input s
      ∙ ap (λ (b : Bool). line_of input s x ++ report_from input (not b) x.next) t.first
      ∙ ap (λ (l : List ℕ). line_of input s x ++ l) (whole k x.next t.rest last)
      ∙ sym (append_assoc (line_of input s x) (lines_of input x.next (run (replicate k (call input)) x.next)) _)

-- ---- the report of the program

pub too_long_report : TooLongReport
unfolding report_of
too_long_report commands memory sizes h = simp (h, pick_true)

-- a call answered 1 or 2 takes no bytes
pub ends_by : (x : Step) → (number_of x.outcome ≡ 1) ⊎ (number_of x.outcome ≡ 2) → takes x ≡ false
unfolding takes
ends_by x = ⊎_elim (λ one. simp one) (λ two. simp two)

module _ (commands memory sizes : List ℕ) (short : too_long (length commands) sizes ≡ false) where
  pub report_is : report_of commands memory sizes ≡ report_from commands false (fresh memory sizes)
  unfolding report_of
  report_is = simp (short, pick_false)

  pub few_bytes : length commands ≤ 32768
  unfolding too_long
  few_bytes = ltb-false 32768 (length commands) (or_neither (ltb 32768 (length commands)) (any_long sizes) short).0

-- the program begins with no tag to hand out
pub none_waits : (memory sizes : List ℕ) → waiting (fresh memory sizes) ≡ no_tag
unfolding waiting fresh lowest
none_waits memory sizes =
    by_test (λ (w : Option (ℕ × Place)). w ≡ no_tag) (ltb 16 (length sizes)) (λ _. refl) (λ few. first_none _ _ 16 (length sizes) (ltb-false 16 (length sizes) few))

pub good_crate_report : GoodCrateReport
unfolding fresh good_selection pick
good_crate_report commands memory sizes short h =
    let b = bound commands (fresh memory sizes) (omega (arith, few_bytes commands memory sizes short)) refl refl h (omega arith) (none_waits memory sizes) in
    let s : State = after (replicate b.0 (call commands)) (fresh memory sizes) in (
      b.0,
      b.1,
      b.2,
      report_is commands memory sizes short
          ∙ whole commands b.0 (fresh memory sizes) b.2 (ends_by (step (call commands) s) b.3)
          ∙ ap (λ (l : List ℕ). lines_of commands (fresh memory sizes) (run (replicate b.0 (call commands)) (fresh memory sizes)) ++ l) (count_lines commands s b.3),
    )

bad_step : (commands memory sizes : List ℕ) → good_population memory (length sizes) (places_of sizes) ≡ false
    → step (call commands) (fresh memory sizes) ≡ unchanged (fresh memory sizes) BadImage
unfolding step decide carried_out input_of fresh good_selection
bad_step commands memory sizes h = simp (le-ltb (length commands) 0 (omega arith), h, pick_true, pick_false)

bad_answer : (commands memory sizes : List ℕ) → good_population memory (length sizes) (places_of sizes) ≡ false → answer_of (call commands) (fresh memory sizes) ≡ 11
unfolding unchanged number_of
bad_answer commands memory sizes h = ap (λ (x : Step). number_of x.outcome) (bad_step commands memory sizes h)

refuses : (x : Step) → number_of x.outcome ≡ 11 → takes x ≡ false
unfolding takes
refuses x e = simp e

pub bad_crate_report : BadCrateReport
bad_crate_report commands memory sizes short h =
    let s : State = fresh memory sizes in
    let eleven : answer_of (call commands) s ≡ 11 = bad_answer commands memory sizes h in
    report_is commands memory sizes short
    ∙ only commands s (refuses (step (call commands) s) eleven)
    ∙ refused_lines commands s (omega arith)
    ∙ ap refused_line eleven
