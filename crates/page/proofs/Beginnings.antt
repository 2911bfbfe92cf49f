-- What a page begins with: the text that stands at the start of a buffer with room for it, and what follows.
use Prim.Native.Nat.{ℕ, ◌≤◌, ◌<◌}
use borrow.Author.Tests.{le-leb, not-true, not-false}
use lib.ListN.{length}
use mathlib.Core.Bool.{Bool, true, false, not, true≢false}
use mathlib.Core.List.{List}
use mathlib.Core.Path.{◌≡◌, refl, sym, ◌∙◌}
use native.Mathlib.Omega.{arith}
use Rattle.frame.proofs.Picks.{pick_true, pick_false}
use Rattle.frame.specs.Putting.{Put}
use Rattle.head.specs.Head.{head_of, has_room, Headed}
use Rattle.population.proofs.GoodPopulations.{population_facts}
use Rattle.population.specs.Places.{good_population}
use Rattle.population.specs.declared.places.Place.{Place}
use Rattle.report.specs.Lines.{too_long_line, unreadable_line}
use Rattle.report.proofs.NotRun.{fit_short}
use Rattle.report.specs.Report.{any_long, files_of, notice_of}
use Rattle.report.specs.Writing.{Told}
use Rattle.report.specs.declared.limits.Unfit.{Unfit}
use Rattle.report.specs.declared.limits.Unfit.TheVariants.{Unreadable, TooLong}
use Rattle.std.proofs.Common.{Result, Ok, Err}
use Rattle.page.specs.Page.{run_lines, first_lines, beginning, rows_follow, has_rows}
use Rattle.page.specs.Beginning.{Begins}
use Rattle.page.specs.declared.beginning.Begun.{Begun}
use Rattle.text.proofs.Laying.{within_put}
use Rattle.text.proofs.Written.{put_first}
use Rattle.text.specs.Counts.{refused_line}
use Rattle.text.specs.Laying.{LaidWithin}

abbrev begun_of : ℕ → Bool → Begun
begun_of used rows = record { used = used; rows = rows }

-- ---- in any buffer

module _ (before : List ℕ) where
  pub too_short : (text : List ℕ) (rows : Bool) → length before < 2048 → Begins text rows before before (begun_of 0 false)
  too_short text rows less = record { short = λ h. (refl, (refl, refl)); long = λ h. absurd (omega arith); within = omega arith }

  module _ (room : 2048 ≤ length before) (after : List ℕ) (used : ℕ) where
    put_there : (text : List ℕ) (rows : Bool) → length text ≤ length before → Put text 0 before after used → Begins text rows before after (begun_of used rows)
    put_there text rows less put =
        let first = put_first text before after used put less in
        record { short = λ h. absurd (omega arith); long = λ h. (first.0, (refl, first.1)); within = omega (arith, first.0) }

    -- ---- the line of files that are not run

    notice_short : (files : Result (Unit {0}) Unfit) → length (notice_of files) ≤ 2048
    unfolding notice_of unreadable_line too_long_line
    notice_short (Err Unreadable) = omega arith
    notice_short (Err TooLong) = omega arith
    notice_short (Ok u) = omega arith

    pub notice_begins : (files : Result (Unit {0}) Unfit) → Told (notice_of files) before after used
        → Begins (notice_of files) false before after (begun_of used false)
    notice_begins files told =
        let less = notice_short files in
        let there = told.long (omega arith) in
        record { short = λ h. absurd (omega arith); long = λ h. (there.0, (refl, there.1)); within = omega (arith, there.0) }

    -- ---- the head, or the line of a bad crate

    module _ (is_crate : Bool) (input memory sizes : List ℕ) (places : List Place) (good : Bool) (is : good ≡ good_population memory (length sizes) places) where
      abbrev Run : ℕ → Bool → Type 0
      Run n rows = Begins (run_lines is_crate input memory sizes places) (good_population memory (length sizes) places) before after (begun_of n rows)

      -- what the writer leaves is what the buffer holds
      pub refused_begins : (n : ℕ) (written : List ℕ) → not good ≡ true → n ≡ 11 → after ≡ written → LaidWithin 29 (refused_line n) 0 before written used
          → Run used false
      unfolding run_lines
      refused_begins n written bad eleven same told =
          let e : good_population memory (length sizes) places ≡ false = sym is ∙ not-true good bad in
          let laid : LaidWithin 29 (refused_line 11) 0 before after used = rw same (rw eleven at told) in
          rw (e, pick_false) (put_there (refused_line 11) false (omega (arith, laid.short)) (within_put 29 (refused_line 11) 0 before after used (omega arith) laid))

      pub head_begins : not good ≡ false → Headed is_crate input sizes before after used → Run used true
      unfolding run_lines has_room
      head_begins fine headed =
          let e : good_population memory (length sizes) places ≡ true = sym is ∙ not-false good fine in
          let fits : has_room sizes before ≡ true = simp (le-leb (length sizes) 16 (population_facts memory (length sizes) places e).few, le-leb 2048 (length before) room) in
          let put : Put (head_of is_crate input sizes) 0 before after used =
          record { output_is = headed.bytes_are ∙ simp (fits, pick_true); next_is = omega (arith, headed.result_is, simp (fits, pick_true) at headed.result_is) } in
          rw (e, pick_true) (put_there (head_of is_crate input sizes) true (omega (arith, headed.within, put.next_is)) put)

-- ---- by the files

module _ (readable is_crate : Bool) (input memory sizes : List ℕ) (places : List Place) (before after : List ℕ) (r : Begun) (files : Result (Unit {0}) Unfit)
    (is : files ≡ files_of readable (length input) sizes) where
  abbrev Page : Type 0
  Page = Begins (beginning readable is_crate input memory sizes places) (has_rows readable input memory sizes places) before after r

  abbrev First : Result (Unit {0}) Unfit → Type 0
  First known = Begins (first_lines known is_crate input memory sizes places) (rows_follow known (good_population memory (length sizes) places)) before after r

  known_page : (known : Result (Unit {0}) Unfit) → files ≡ known → First known → Page
  unfolding beginning has_rows
  known_page known e first = rw (sym is ∙ e) first

  pub unfit_page : (unfit : Unfit) → files ≡ Err unfit → Begins (notice_of (Err unfit)) false before after r → Page
  unfolding first_lines rows_follow
  unfit_page unfit e begins = known_page (Err unfit) e begins

  pub run_page : (u : Unit {0}) → files ≡ Ok u
      → Begins (run_lines is_crate input memory sizes places) (good_population memory (length sizes) places) before after r → Page
  unfolding first_lines rows_follow
  run_page u e begins = known_page (Ok u) e begins

-- ---- where rows follow no file is too long

by_files : (files : Result (Unit {0}) Unfit) (good : Bool) → rows_follow files good ≡ true → files ≡ Ok tt
unfolding rows_follow
by_files (Err unfit) good h = absurd (true≢false (sym h))
by_files (Ok tt) good h = refl

pub rows_short : (readable : Bool) (input memory sizes : List ℕ) (places : List Place) → has_rows readable input memory sizes places ≡ true → any_long sizes ≡ false
unfolding has_rows
rows_short readable input memory sizes places h =
    fit_short readable (length input) sizes (by_files (files_of readable (length input) sizes) (good_population memory (length sizes) places) h)
