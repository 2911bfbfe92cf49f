-- How a call ends, and the papers' number for each.
use Rattle.std.specs.Prelude.{ℕ}
use Rattle.frame.specs.Finding.{reason_number}
use Rattle.reader.specs.declared.outcome.Outcome.{Outcome}
use Rattle.reader.specs.declared.outcome.Outcome.TheVariants.{Answered, AtEnd, Incomplete, Dropped, PastEnd, BadImage, ShortOutput, FullTally, FullList}

-- The table of the answer numbers.
unfoldable pub number_of : Outcome → ℕ
number_of Answered = 0
number_of AtEnd = 1
number_of Incomplete = 2
number_of (Dropped r) = 3
number_of PastEnd = 10
number_of BadImage = 11
number_of ShortOutput = 12
number_of FullTally = 13
number_of FullList = 14

-- "Answer 3 now carries a reason"; 0 where no byte was dropped
unfoldable pub reason_of : Outcome → ℕ
reason_of Answered = 0
reason_of AtEnd = 0
reason_of Incomplete = 0
reason_of (Dropped r) = reason_number r
reason_of PastEnd = 0
reason_of BadImage = 0
reason_of ShortOutput = 0
reason_of FullTally = 0
reason_of FullList = 0
