-- The page: a head with the files, and behind it the rows and the foot of the sheet; or the one line where there is no sheet.
use Rattle.std.specs.Prelude.{ℕ, Bool, false, List, ◌++◌, length, Result, Ok, Err}
use Rattle.frame.specs.Bytes.{pick}
use Rattle.head.specs.Head.{head_of}
use Rattle.population.specs.Places.{good_population}
use Rattle.population.specs.declared.places.Place.{Place}
use Rattle.report.specs.Lines.{too_long_line, unreadable_line}
use Rattle.report.specs.Report.{too_long, places_of, files_of, notice_of}
use Rattle.report.specs.declared.limits.Unfit.{Unfit}
use Rattle.sheet.specs.Sheet.{teller, begun_on}
use Rattle.text.specs.Counts.{refused_line}
use Rattle.text.specs.Telling.{text_from}

-- a bad crate gives only `REFUSED` and the number, a file that is too long only `TOO LONG`: neither is a sheet
unfoldable pub sheet_of : Bool → List ℕ → List ℕ → List ℕ → List ℕ
sheet_of is_crate input memory sizes =
    pick (too_long (length input) sizes) too_long_line
    (pick (good_population memory (length sizes) (places_of sizes)) (head_of is_crate input sizes ++ text_from (teller input) false (begun_on memory sizes)) (refused_line 11))

-- a file that opens and can't be read to its end is told first
unfoldable pub printed_sheet : Bool → Bool → List ℕ → List ℕ → List ℕ → List ℕ
printed_sheet readable is_crate input memory sizes = pick readable (sheet_of is_crate input memory sizes) unreadable_line

-- ---- what the page begins with

-- the head, or the one line where there is no sheet
unfoldable pub run_lines : Bool → List ℕ → List ℕ → List ℕ → List Place → List ℕ
run_lines is_crate input memory sizes places = pick (good_population memory (length sizes) places) (head_of is_crate input sizes) (refused_line 11)

unfoldable pub first_lines : Result (Unit {0}) Unfit → Bool → List ℕ → List ℕ → List ℕ → List Place → List ℕ
first_lines (Err unfit) is_crate input memory sizes places = notice_of (Err unfit)
first_lines (Ok _) is_crate input memory sizes places = run_lines is_crate input memory sizes places

unfoldable pub beginning : Bool → Bool → List ℕ → List ℕ → List ℕ → List Place → List ℕ
beginning readable is_crate input memory sizes places = first_lines (files_of readable (length input) sizes) is_crate input memory sizes places

-- whether rows and a foot follow
unfoldable pub rows_follow : Result (Unit {0}) Unfit → Bool → Bool
rows_follow (Err unfit) good = false
rows_follow (Ok _) good = good

unfoldable pub has_rows : Bool → List ℕ → List ℕ → List ℕ → List Place → Bool
has_rows readable input memory sizes places = rows_follow (files_of readable (length input) sizes) (good_population memory (length sizes) places)
