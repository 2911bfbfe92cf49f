-- The number of failures is that of the counts: each failing call raises one of them.
use Prim.Native.Nat.{ℕ, zero, suc, ◌+◌}
use borrow.Author.Tests.{eqb-true}
use lib.Dec.{eqb}
use lib.ListN.{length, replicate, length-append}
use mathlib.Core.Bool.{◌&&◌}
use mathlib.Core.List.{List}
use mathlib.Core.Path.{◌≡◌, refl, ap, sym, ◌∙◌}
use native.Mathlib.Omega.{arith}
use Rattle.machine.proofs.Claimed.{history}
use Rattle.machine.specs.Claims.{count, is_error}
use Rattle.machine.specs.Machine.{State, call, Step, step, run, after}
use Rattle.frame.proofs.Picks.{pick_true, pick_false}
use Rattle.frame.proofs.Tests.{either}
use Rattle.frame.specs.Bytes.{pick, byte}
use Rattle.reader.specs.Outcomes.{number_of}
use Rattle.reader.specs.declared.tally.Tally.{Tally}
use Rattle.report.proofs.Counted.{counts_are_lines}
use Rattle.report.specs.Claims.{is_drop}
use Rattle.report.specs.Report.{fresh}
use Rattle.rows.specs.Rows.{dropped_in}
use Rattle.sheet.proofs.Itemising.{every_failure_once}
use Rattle.sheet.specs.Claims.{fault_in, faults, BalanceHolds}
use Rattle.sheet.specs.Itemised.{advanced}
use Rattle.sheet.specs.Sheet.{Standing, teller, begun_on}

-- the bench of the sheet goes through the calls as any bench does
pub bench_after : (k : ℕ) (input : List ℕ) (s : Standing) → (advanced k input s).bench ≡ after (replicate k (call input)) s.bench
unfolding advanced after teller
bench_after zero input s = refl
bench_after (suc k) input s = bench_after k input ((teller input).next s)

-- a failing call is an error answer or a drop
one_failure : (s : State) (x : Step) → length (fault_in s x) ≡ pick (is_error x) 1 0 + pick (is_drop x) 1 0
unfolding fault_in is_error is_drop
one_failure s x =
    either (eqb (number_of x.outcome) 3) (λ drop. rw (eqb-true (number_of x.outcome) 3 drop) (simp (pick_true, pick_false)))
    (λ other.
    either (eqb (number_of x.outcome) 0 && eqb (byte x.next.output 2) 0xFF)
    (λ error. simp (other, error, pick_true, pick_false))
    (λ good. simp (other, good, pick_false)))

failures_counted : (k : ℕ) (input : List ℕ) (s : State)
    → length (faults k input s) ≡ count is_error (run (replicate k (call input)) s) + count is_drop (run (replicate k (call input)) s)
unfolding faults run count
failures_counted zero input s = refl
failures_counted (suc k) input s =
    let x : Step = step (call input) s in
    omega (arith, length-append (fault_in s x) (faults k input x.next), one_failure s x, failures_counted k input x.next)

module _ (k : ℕ) (commands memory sizes : List ℕ) where
  abbrev Reached : State
  Reached = after (replicate k (call commands)) (fresh memory sizes)

  failures_are : length (faults k commands (fresh memory sizes)) ≡ Reached.reader.tally.error + dropped_in Reached.reader.tally
  unfolding dropped_in fresh
  failures_are =
      omega (
        arith,
        failures_counted k commands (fresh memory sizes),
        ap (λ (t : Tally). t.error) (history (replicate k (call commands)) (fresh memory sizes)),
        (counts_are_lines k commands memory sizes).1,
      )

pub balance_holds : BalanceHolds
balance_holds k commands memory sizes =
    ap length (every_failure_once k commands (begun_on memory sizes) refl)
    ∙ failures_are k commands memory sizes
    ∙ sym (ap (λ (b : State). b.reader.tally.error + dropped_in b.reader.tally) (bench_after k commands (begun_on memory sizes)))
