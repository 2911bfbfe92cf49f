-- The foot of the sheet: what waits, the counts of the report, the line that balances them, and the lines for the names.
use Rattle.std.specs.Prelude.{ℕ, ◌+◌, ◌-◌, ◌≤◌, List, [], ◌∷◌, ◌++◌, ◌≡◌, leb, length}
use Rattle.std.proofs.lemmas.List.Edits.{sets}
use Rattle.frame.specs.Bytes.{pick, reaches}
use Rattle.reader.specs.Outcomes.{number_of}
use Rattle.reader.specs.declared.outcome.Outcome.{Outcome}
use Rattle.reader.specs.declared.outcome.Outcome.TheVariants.{Answered, AtEnd, Incomplete, Dropped, PastEnd, BadImage, ShortOutput, FullTally, FullList}
use Rattle.reader.specs.declared.state.Reader.{Reader}
use Rattle.reader.specs.declared.tally.Tally.{Tally}
use Rattle.rows.specs.Rows.{dropped_in, waiting_row}
use Rattle.text.specs.Counts.{count_part, counts_line, refused_line}
use Rattle.text.specs.Words.{ascii}

-- `FAILURES 11 = ERROR 4 + DROPPED 7, ITEMS 5`
unfoldable pub failures_line : Tally → ℕ → List ℕ
failures_line t items =
    count_part (ascii "FAILURES ") (t.error + dropped_in t) ++ count_part (ascii " = ERROR ") t.error ++ count_part (ascii " + DROPPED ") (dropped_in t)
    ++ count_part (ascii ", ITEMS ") items ++ (10 ∷ [])

-- a blank line, and one for the names
unfoldable pub name_line : List ℕ
name_line = (10 ∷ []) ++ ascii "Line builder ______________________   Inspector ______________________   Date ____________" ++ (10 ∷ [])

-- "A page without its last line is no sheet."
unfoldable pub end_line : List ℕ
end_line = ascii "END OF SHEET" ++ (10 ∷ [])

unfoldable pub signature_lines : List ℕ
signature_lines = name_line ++ end_line

-- what waits at the end is no failure, but it is on the sheet
unfoldable pub waiting_rows : ℕ → ℕ → List ℕ
waiting_rows cursor length = pick (leb length cursor) [] (waiting_row cursor length)

unfoldable pub foot : List ℕ → Reader → ℕ → List ℕ
foot input reader items =
    waiting_rows reader.cursor (length input) ++ (10 ∷ []) ++ counts_line reader.tally (length input - reader.cursor)
    ++ failures_line reader.tally items ++ signature_lines

-- what a call ends the sheet with; a refused one gives only its number
unfoldable pub end_for : List ℕ → Reader → ℕ → Outcome → List ℕ
end_for input reader items Answered = []
end_for input reader items (Dropped r) = []
end_for input reader items AtEnd = foot input reader items
end_for input reader items Incomplete = foot input reader items
end_for input reader items PastEnd = refused_line (number_of PastEnd)
end_for input reader items BadImage = refused_line (number_of BadImage)
end_for input reader items ShortOutput = refused_line (number_of ShortOutput)
end_for input reader items FullTally = refused_line (number_of FullTally)
end_for input reader items FullList = refused_line (number_of FullList)

-- ---- into a buffer

-- the text stands at `at`, and the result is the place behind it; where 516 bytes have no room nothing is stored, and the result is `at`
pub record Ended (text : List ℕ) (at : ℕ) (before after : List ℕ) (result : ℕ) : Type 0 where
  pub bytes_are : after ≡ pick (reaches before at 516) (sets before at text) before
  pub result_is : result ≡ pick (reaches before at 516) (at + length text) at
  pub most : result ≤ at + 516
