-- The page as it is printed: its beginning, and where there is a sheet its pieces. And two crates that give the same page.
use Prim.Native.Nat.{ℕ}
use lib.Dec.{ltb}
use lib.ListN.{length}
use mathlib.Core.Bool.{Bool, true, false}
use mathlib.Core.List.{List, [], ◌++◌, append-nil}
use mathlib.Core.Path.{◌≡◌, ap, sym, ◌∙◌}
use Rattle.frame.proofs.Picks.{pick_true, pick_false}
use Rattle.frame.proofs.Tests.{either, or_neither}
use Rattle.frame.specs.Bytes.{pick}
use Rattle.head.specs.Head.{head_of}
use Rattle.population.specs.Places.{good_population}
use Rattle.population.specs.declared.places.Place.{Place}
use Rattle.report.specs.Lines.{too_long_line, unreadable_line}
use Rattle.report.specs.Report.{any_long, too_long, places_of, fresh, files_of, notice_of}
use Rattle.report.specs.declared.limits.Unfit.{Unfit}
use Rattle.report.specs.declared.limits.Unfit.TheVariants.{Unreadable, TooLong}
use Rattle.std.proofs.Common.{Result, Ok, Err}
use Rattle.sheet.proofs.Claimed.{same_sheet, pieces_are_the_text}
use Rattle.page.proofs.Sheets.{sheet_is, bad_crate, too_long_lem}
use Rattle.page.specs.Claims.{ReadableSheet, SamePage, PagePrinted}
use Rattle.sheet.specs.Items.{no_items}
use Rattle.page.specs.Page.{sheet_of, printed_sheet, run_lines, first_lines, beginning, rows_follow, has_rows}
use Rattle.sheet.specs.Sheet.{teller, begun_on}
use Rattle.text.specs.Telling.{text_from, pieces}

module _ (is_crate : Bool) (commands memory sizes rooms : List ℕ) where
  abbrev Rest : List ℕ
  Rest = (pieces (teller commands) 1024 rooms false (begun_on memory sizes)).bytes

  -- files that are run
  run_page : (places : List Place) → places ≡ places_of sizes → too_long (length commands) sizes ≡ false
      → (good_population memory (length sizes) places ≡ true → (pieces (teller commands) 1024 rooms false (begun_on memory sizes)).over ≡ true)
      → run_lines is_crate commands memory sizes places ++ pick (good_population memory (length sizes) places) Rest [] ≡ sheet_of is_crate commands memory sizes
  unfolding run_lines
  run_page places laid short over =
      either (good_population memory (length sizes) places)
      (λ good.
      rw (good, pick_true, pick_true)
      (ap (λ (l : List ℕ). head_of is_crate commands sizes ++ l) (pieces_are_the_text commands rooms (begun_on memory sizes) (over good))
      ∙ sym (sheet_is is_crate commands memory sizes short (rw laid at good))))
      (λ bad. rw (bad, pick_false, pick_false) (append-nil _ ∙ sym (bad_crate is_crate commands memory sizes short (rw laid at bad))))

  module _ (readable : Bool) (places : List Place) where
    abbrev Printed : Type 0
    Printed =
        beginning readable is_crate commands memory sizes places ++ pick (has_rows readable commands memory sizes places) Rest []
        ≡ printed_sheet readable is_crate commands memory sizes

    -- by how the files stand
    known_page : (files : Result (Unit {0}) Unfit) → files_of readable (length commands) sizes ≡ files
        → first_lines files is_crate commands memory sizes places ++ pick (rows_follow files (good_population memory (length sizes) places)) Rest []
        ≡ printed_sheet readable is_crate commands memory sizes
        → Printed
    unfolding beginning has_rows
    known_page files e printed = rw e printed

    unreadable_page : readable ≡ false → Printed
    unfolding files_of first_lines rows_follow notice_of printed_sheet
    unreadable_page not-read =
        known_page (Err Unreadable) (rw (not-read, pick_false)) (rw pick_false (append-nil unreadable_line ∙ sym (rw (not-read, pick_false))))

    long_page : readable ≡ true → too_long (length commands) sizes ≡ true → Printed
    unfolding files_of first_lines rows_follow notice_of printed_sheet
    long_page all_read long =
        known_page (Err TooLong) (rw (all_read, long, pick_true, pick_true))
        (rw pick_false (append-nil too_long_line ∙ sym (rw (all_read, pick_true) (too_long_lem is_crate commands memory sizes long))))

    fit_page : readable ≡ true → too_long (length commands) sizes ≡ false → places ≡ places_of sizes
        → (has_rows readable commands memory sizes places ≡ true → (pieces (teller commands) 1024 rooms false (begun_on memory sizes)).over ≡ true)
        → Printed
    unfolding files_of first_lines rows_follow has_rows printed_sheet
    fit_page all_read short laid over =
        let fit : files_of readable (length commands) sizes ≡ Ok tt = rw (all_read, short, pick_true, pick_false) in
        known_page (Ok tt) fit (rw (all_read, pick_true) (run_page places laid short (λ good. over (rw fit good))))

pub page_printed : PagePrinted
unfolding too_long
page_printed readable is_crate commands memory sizes rooms places laid over =
    either readable
    (λ all_read.
    either (too_long (length commands) sizes) (long_page is_crate commands memory sizes rooms readable places all_read)
    (λ short.
    fit_page is_crate commands memory sizes rooms readable places all_read short (laid (or_neither (ltb 32768 (length commands)) (any_long sizes) short).1) over))
    (unreadable_page is_crate commands memory sizes rooms readable places)

pub readable_sheet : ReadableSheet
unfolding printed_sheet
readable_sheet is_crate commands memory sizes = pick_true _ _

-- ---- the passwords

-- what the sheet is does not depend on the memory but by its goodness and its text
same_whole : (is_crate : Bool) (commands m n sizes : List ℕ)
    → good_population m (length sizes) (places_of sizes) ≡ true
    → good_population n (length sizes) (places_of sizes) ≡ true
    → text_from (teller commands) false (begun_on m sizes) ≡ text_from (teller commands) false (begun_on n sizes)
    → sheet_of is_crate commands m sizes ≡ sheet_of is_crate commands n sizes
unfolding sheet_of
same_whole is_crate commands m n sizes first second same = simp (first, second, same)

pub same_page : SamePage
unfolding fresh
same_page k is_crate commands memory n sizes differs premises on =
    same_whole is_crate commands memory n sizes premises.first_good premises.second_good
    (same_sheet k commands (fresh memory sizes) n differs no_items premises on)
