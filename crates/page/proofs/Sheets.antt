-- The whole sheet: on a good crate the run ends with its foot.
use Prim.Native.Nat.{ℕ, zero, suc, ◌≤◌, ◌<◌}
use lib.ListN.{length, replicate}
use mathlib.Core.Bool.{Bool, true, false, not}
use mathlib.Core.List.{List, [], ◌∷◌, ◌++◌}
use mathlib.Core.Logic.{◌⊎◌, ◌≢◌, ⊎_elim}
use mathlib.Core.Path.{◌≡◌, refl, ap, sym, ◌∙◌}
use native.Mathlib.Omega.{arith}
use Rattle.machine.proofs.Claimed.{bound, nothing_changes}
use Rattle.machine.specs.Claims.{answer_of, count, takes}
use Rattle.machine.specs.Machine.{State, call, step, work, run, after}
use Rattle.frame.proofs.Picks.{pick_true, pick_false}
use Rattle.frame.specs.Bytes.{pick}
use Rattle.population.specs.Places.{good_population}
use Rattle.population.specs.Selections.{good_selection}
use Rattle.reader.specs.Outcomes.{number_of}
use Rattle.reader.specs.declared.outcome.Outcome.{Outcome}
use Rattle.reader.specs.declared.outcome.Outcome.TheVariants.{Answered, AtEnd, Incomplete, Dropped, PastEnd, BadImage, ShortOutput, FullTally, FullList}
use Rattle.reader.specs.declared.state.Reader.{Reader}
use Rattle.report.proofs.Reports.{ends_is, less_left}
use Rattle.report.proofs.Together.{work_at_start}
use Rattle.report.proofs.Whole.{all_taken, ends_by, none_waits, few_bytes}
use Rattle.report.specs.Lines.{too_long_line, unreadable_line}
use Rattle.report.specs.Report.{too_long, places_of, fresh}
use Rattle.page.proofs.Accepting.{all_accepted}
use Rattle.sheet.proofs.Balancing.{bench_after}
use Rattle.sheet.proofs.Claimed.{row_for_each_item}
use Rattle.page.specs.Claims.{GoodCrateSheet, NoSheet}
use Rattle.page.specs.Page.{sheet_of, printed_sheet}
use Rattle.sheet.specs.Claims.{GoesOn}
use Rattle.head.specs.Head.{head_of}
use Rattle.sheet.specs.Itemised.{advanced, itemised, rows_from}
use Rattle.foot.specs.Foot.{foot, end_for}
use Rattle.sheet.specs.Sheet.{Standing, teller, begun_on}
use Rattle.text.specs.Counts.{refused_word, count_part, refused_line}
use Rattle.text.specs.Digits.{width_by, width, digits, decimal}
use Rattle.text.specs.Telling.{text_from}
use Rattle.text.specs.Words.{ascii}

neither : (n : ℕ) → (n ≡ 1 → ⊥) → (n ≡ 2 → ⊥) → (n ≡ 1) ⊎ (n ≡ 2) → ⊥
neither n not1 not2 = ⊎_elim not1 not2

not_taken : (n m : ℕ) → (n ≡ 1) ⊎ (n ≡ 2) → (1 ≡ m → ⊥) → (2 ≡ m → ⊥) → n ≢ m
not_taken n m e not1 not2 same = ⊎_elim (λ one. not1 (sym one ∙ same)) (λ two. not2 (sym two ∙ same)) e

module _ (input : List ℕ) where
  -- calls that take something leave the sheet going on
  goes_by : (k : ℕ) (s : State) → count takes (run (replicate k (call input)) s) ≡ k
      → takes (step (call input) (after (replicate k (call input)) s)) ≡ false → GoesOn k input s
  unfolding GoesOn after
  goes_by zero s all last = ends_is (step (call input) s) (step (call input) s).outcome refl ∙ ap not last
  goes_by (suc k) s all last =
      let t = all_taken input k s all in
      (ends_is (step (call input) s) (step (call input) s).outcome refl ∙ ap not t.first, goes_by k (step (call input) s).next t.rest last)

  -- the call that is answered 1 or 2 ends the sheet with the foot
  foot_is : (reader : Reader) (items : ℕ) (o : Outcome) → (number_of o ≡ 1) ⊎ (number_of o ≡ 2) → end_for input reader items o ≡ foot input reader items
  unfolding number_of end_for
  foot_is reader items Answered e = absurd (neither 0 (λ h. omega arith) (λ h. omega arith) e)
  foot_is reader items AtEnd e = refl
  foot_is reader items Incomplete e = refl
  foot_is reader items (Dropped r) e = absurd (neither 3 (λ h. omega arith) (λ h. omega arith) e)
  foot_is reader items PastEnd e = absurd (neither 10 (λ h. omega arith) (λ h. omega arith) e)
  foot_is reader items BadImage e = absurd (neither 11 (λ h. omega arith) (λ h. omega arith) e)
  foot_is reader items ShortOutput e = absurd (neither 12 (λ h. omega arith) (λ h. omega arith) e)
  foot_is reader items FullTally e = absurd (neither 13 (λ h. omega arith) (λ h. omega arith) e)
  foot_is reader items FullList e = absurd (neither 14 (λ h. omega arith) (λ h. omega arith) e)

  -- no more calls than there is work
  few_calls : (k : ℕ) (s : State) → GoesOn k input s → k ≤ work input s
  unfolding GoesOn
  few_calls zero s on = omega arith
  few_calls (suc k) s on =
      let less = less_left input s on.0 in
      let rest = few_calls k (step (call input) s).next on.1 in
      omega arith

  -- a run that is answered 1 or 2 in the end is its rows and the foot
  ended_sheet : (k : ℕ) (s : Standing) → s.items.count ≡ 0 → k < 18446744073709551615 → GoesOn k input s.bench
      → (answer_of (call input) (advanced k input s).bench ≡ 1) ⊎ (answer_of (call input) (advanced k input s).bench ≡ 2)
      → text_from (teller input) false s ≡ rows_from 1 input (itemised k input s) ++ foot input (advanced k input s).bench.reader (advanced k input s).items.count
  ended_sheet k s none less on e =
      let t : State = (advanced k input s).bench in
      let items : ℕ = (advanced k input s).items.count in
      let stays = (nothing_changes (call input) t (not_taken (answer_of (call input) t) 0 e (λ h. omega arith) (λ h. omega arith))
      (not_taken (answer_of (call input) t) 3 e (λ h. omega arith) (λ h. omega arith))).0 in
      row_for_each_item k input s none less on
      ∙ ap (λ (l : List ℕ). rows_from 1 input (itemised k input s) ++ l)
      (foot_is (step (call input) t).next.reader items (step (call input) t).outcome e ∙ ap (λ (u : State). foot input u.reader items) stays)

pub sheet_is : (is_crate : Bool) (commands memory sizes : List ℕ) → too_long (length commands) sizes ≡ false → good_population memory (length sizes) (places_of sizes) ≡ true
    → sheet_of is_crate commands memory sizes ≡ head_of is_crate commands sizes ++ text_from (teller commands) false (begun_on memory sizes)
unfolding sheet_of
sheet_is is_crate commands memory sizes short h = simp (short, h, pick_true, pick_false)

pub good_crate_sheet : GoodCrateSheet
unfolding fresh good_selection pick
good_crate_sheet is_crate commands memory sizes short h =
    let s : State = fresh memory sizes in
    let b = bound commands s (omega (arith, few_bytes commands memory sizes short)) refl refl h (omega arith) (none_waits memory sizes) in
    let k : ℕ = b.0 in
    let there = bench_after k commands (begun_on memory sizes) in
    let on = goes_by commands k s b.2 (ends_by (step (call commands) (after (replicate k (call commands)) s)) b.3) in
    let few : k < 18446744073709551615 = omega (arith, few_calls commands k s on, work_at_start commands memory sizes, few_bytes commands memory sizes short) in (
      k,
      b.1,
      on,
      all_accepted k commands s on b.3,
      sheet_is is_crate commands memory sizes short h
          ∙ ap (λ (l : List ℕ). head_of is_crate commands sizes ++ l)
          (ended_sheet commands k (begun_on memory sizes) refl few on (rw there b.3)),
    )

refused_eleven : refused_line 11 ≡ ascii "REFUSED 11" ++ (10 ∷ [])
unfolding refused_line count_part refused_word decimal digits width width_by pick
refused_eleven = refl

pub bad_crate : (is_crate : Bool) (commands memory sizes : List ℕ) → too_long (length commands) sizes ≡ false → good_population memory (length sizes) (places_of sizes) ≡ false
    → sheet_of is_crate commands memory sizes ≡ refused_line 11
unfolding sheet_of
bad_crate is_crate commands memory sizes short bad = simp (short, bad, pick_false)

pub too_long_lem : (is_crate : Bool) (commands memory sizes : List ℕ) → too_long (length commands) sizes ≡ true → sheet_of is_crate commands memory sizes ≡ too_long_line
unfolding sheet_of
too_long_lem is_crate commands memory sizes long = simp (long, pick_true)

pub no_sheet : NoSheet
unfolding printed_sheet too_long_line unreadable_line
no_sheet is_crate commands memory sizes = (
  pick_false (sheet_of is_crate commands memory sizes) unreadable_line,
  (too_long_lem is_crate commands memory sizes, λ short bad. bad_crate is_crate commands memory sizes short bad ∙ refused_eleven),
)
