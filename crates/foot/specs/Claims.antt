-- The claims page of the sheet's foot: each of its lines, as literal text. Each statement is proved in proofs/Claimed.antt.
use Rattle.std.specs.Prelude.{ℕ, ◌+◌, ◌-◌, ◌≤◌, ◌<◌, List, [], ◌∷◌, ◌++◌, ◌≡◌, length}
use Rattle.foot.specs.Foot.{waiting_rows, foot, end_for}
use Rattle.frame.specs.declared.finding.Reason.{Reason}
use Rattle.reader.specs.declared.outcome.Outcome.TheVariants.{Answered, AtEnd, Incomplete, Dropped, PastEnd, BadImage, ShortOutput, FullTally, FullList}
use Rattle.reader.specs.declared.state.Reader.{Reader}
use Rattle.rows.specs.Rows.{dropped_in, waiting_row}
use Rattle.text.specs.Counts.{counts_line}
use Rattle.text.specs.Digits.{decimal}
use Rattle.text.specs.Words.{ascii}

-- what waits, a blank line, the counts of the report, the balance, a line for the names and the last line
abbrev pub FootLines : Type 0
FootLines =
    (input : List ℕ) (reader : Reader) (items : ℕ)
    → foot input reader items
    ≡ waiting_rows reader.cursor (length input)
    ++ (10 ∷ [])
    ++ counts_line reader.tally (length input - reader.cursor)
    ++ ((ascii "FAILURES " ++ decimal (reader.tally.error + dropped_in reader.tally))
    ++ (ascii " = ERROR " ++ decimal reader.tally.error)
    ++ (ascii " + DROPPED " ++ decimal (dropped_in reader.tally))
    ++ (ascii ", ITEMS " ++ decimal items)
    ++ (10 ∷ []))
    ++ ((10 ∷ [])
    ++ ascii "Line builder ______________________   Inspector ______________________   Date ____________"
    ++ (10 ∷ [])
    ++ (ascii "END OF SHEET" ++ (10 ∷ [])))

-- the bytes from the cursor on wait, where there are some
pub record WaitingRows (cursor size : ℕ) : Type 0 where
  pub none : size ≤ cursor → waiting_rows cursor size ≡ []
  pub some : cursor < size → waiting_rows cursor size ≡ waiting_row cursor size

abbrev pub WhatWaits : Type 0
WhatWaits = (cursor size : ℕ) → WaitingRows cursor size

-- what a call ends the sheet with: nothing under 0 and 3, under 1 and 2 the foot; "`REFUSED n` ..: that one line, no signature lines, no END OF SHEET"
pub record EndLines (input : List ℕ) (reader : Reader) (items : ℕ) : Type 0 where
  pub answered : end_for input reader items Answered ≡ []
  pub dropped : (r : Reason) → end_for input reader items (Dropped r) ≡ []
  pub at_end : end_for input reader items AtEnd ≡ foot input reader items
  pub incomplete : end_for input reader items Incomplete ≡ foot input reader items
  pub past_end : end_for input reader items PastEnd ≡ ascii "REFUSED 10" ++ (10 ∷ [])
  pub bad_image : end_for input reader items BadImage ≡ ascii "REFUSED 11" ++ (10 ∷ [])
  pub short_output : end_for input reader items ShortOutput ≡ ascii "REFUSED 12" ++ (10 ∷ [])
  pub full_tally : end_for input reader items FullTally ≡ ascii "REFUSED 13" ++ (10 ∷ [])
  pub full_list : end_for input reader items FullList ≡ ascii "REFUSED 14" ++ (10 ∷ [])

abbrev pub EndsBy : Type 0
EndsBy = (input : List ℕ) (reader : Reader) (items : ℕ) → EndLines input reader items
