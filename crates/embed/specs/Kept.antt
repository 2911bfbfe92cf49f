-- What a call stores of the packed state: the numbers that it may have changed.
use Rattle.std.specs.Prelude.{ℕ, List, set}
use Rattle.calls.specs.declared.calling.Called.{Called}
use Rattle.reader.specs.declared.outcome.Outcome.{Outcome}
use Rattle.reader.specs.declared.outcome.Outcome.TheVariants.{Answered, AtEnd, Incomplete, Dropped, PastEnd, BadImage, ShortOutput, FullTally, FullList}
use Rattle.frame.specs.Finding.{reason_number}
use Rattle.frame.specs.declared.finding.Reason.{Reason}
use Rattle.frame.specs.declared.finding.Reason.TheVariants.{NoHeader, WrongType, TooLong, WrongCheck, WrongEnd}
use Rattle.reader.specs.declared.state.Reader.{Reader}
use Rattle.reader.specs.declared.tally.Tally.{Tally}

unfoldable pub kept : List ℕ → List ℕ
kept state = set (set state 8 0) 9 0

-- the count of a reason, and its place
unfoldable pub count_for : Reason → Tally → ℕ
count_for NoHeader t = t.header
count_for WrongType t = t.kind
count_for TooLong t = t.long
count_for WrongCheck t = t.check
count_for WrongEnd t = t.end

unfoldable pub place_for : Reason → ℕ
place_for NoHeader = 3
place_for WrongType = 4
place_for TooLong = 5
place_for WrongCheck = 6
place_for WrongEnd = 7

unfoldable pub kept_drop : List ℕ → Reader → Reason → ℕ → List ℕ
kept_drop state reader reason held =
    set (set (set (set (set state 0 reader.cursor) 8 0) 9 (reason_number reason)) 12 held) (place_for reason) (count_for reason reader.tally)

unfoldable pub kept_answer : List ℕ → Called → ℕ → List ℕ
kept_answer state c held =
    set
    (set
    (set
    (set (set (set (set (set state 0 c.state.reader.cursor) 1 c.state.reader.tally.good) 2 c.state.reader.tally.error) 8 c.length) 9 0)
    10 c.state.next)
    11 c.state.selected)
    12 held

unfoldable pub kept_by : List ℕ → Called → ℕ → Outcome → List ℕ
kept_by state c held (Dropped r) = kept_drop state c.state.reader r held
kept_by state c held Answered = kept_answer state c held
kept_by state c held AtEnd = kept state
kept_by state c held Incomplete = kept state
kept_by state c held PastEnd = kept state
kept_by state c held BadImage = kept state
kept_by state c held ShortOutput = kept state
kept_by state c held FullTally = kept state
kept_by state c held FullList = kept state
