-- The lines of the report, as bytes. Document 01, the last part of "The sample tag and its frames".
use Rattle.std.specs.Prelude.{ℕ, ◌-◌, Bool, true, false, List, [], ◌∷◌, ◌++◌, length, take}
use Rattle.reader.specs.Outcomes.{number_of}
use Rattle.reader.specs.declared.outcome.Outcome.{Outcome}
use Rattle.reader.specs.declared.outcome.Outcome.TheVariants.{Answered, AtEnd, Incomplete, Dropped, PastEnd, BadImage, ShortOutput, FullTally, FullList}
use Rattle.machine.specs.Machine.{State, Step}
use Rattle.frame.specs.Bytes.{byte}
use Rattle.reader.specs.declared.tally.Tally.{Tally}
use Rattle.text.specs.Counts.{counts_line, refused_line}
use Rattle.text.specs.Digits.{hex_byte}

-- ---- the words, with the spaces round them

-- "DROP "
unfoldable pub drop_word : List ℕ
drop_word = 68 ∷ 82 ∷ 79 ∷ 80 ∷ 32 ∷ []

-- "TOO LONG", with the newline
unfoldable pub too_long_line : List ℕ
too_long_line = 84 ∷ 79 ∷ 79 ∷ 32 ∷ 76 ∷ 79 ∷ 78 ∷ 71 ∷ 10 ∷ []

-- "UNREADABLE", with the newline
unfoldable pub unreadable_line : List ℕ
unreadable_line = 85 ∷ 78 ∷ 82 ∷ 69 ∷ 65 ∷ 68 ∷ 65 ∷ 66 ∷ 76 ∷ 69 ∷ 10 ∷ []

-- ---- the lines, each with its newline

-- `DROP 41`: the byte that a call dropped
unfoldable pub drop_line : ℕ → List ℕ
drop_line b = drop_word ++ (hex_byte b ++ (10 ∷ []))

-- behind each byte of a frame stands a space, and behind the last one the newline
unfoldable pub separator : List ℕ → ℕ
separator [] = 10
separator (b ∷ bytes) = 32

-- `BB 01 65 .. 7E`
unfoldable pub frame_line : List ℕ → List ℕ
frame_line [] = []
frame_line (b ∷ bytes) = (hex_byte b ++ (separator bytes ∷ [])) ++ frame_line bytes

-- The longest answer has 136 bytes, so the longest frame line 136 times two digits and a separator. No other line is as long.
abbrev pub longest_line : ℕ
longest_line = 408

-- ---- the line of a call

-- "A call answered 10 to 13 gives only `REFUSED` and the number. Else one line for each answer 0 or 3, then the counts; LEFT is what
-- remains at answer 1 or 2."
unfoldable pub line_for : Outcome → List ℕ → ℕ → Tally → ℕ → List ℕ
line_for Answered frame b t left = frame_line frame
line_for (Dropped r) frame b t left = drop_line b
line_for AtEnd frame b t left = counts_line t left
line_for Incomplete frame b t left = counts_line t left
line_for PastEnd frame b t left = refused_line (number_of PastEnd)
line_for BadImage frame b t left = refused_line (number_of BadImage)
line_for ShortOutput frame b t left = refused_line (number_of ShortOutput)
line_for FullTally frame b t left = refused_line (number_of FullTally)
line_for FullList frame b t left = refused_line (number_of FullList)

-- the line of a step from the state s: the frame is that at the start of the output, the byte dropped that at the cursor
unfoldable pub line_of : List ℕ → State → Step → List ℕ
line_of input s x =
    line_for x.outcome (take x.length x.next.output) (byte input s.reader.cursor) x.next.reader.tally (length input - x.next.reader.cursor)

-- the report goes on after an answer 0 or 3, and ends with any other line
unfoldable pub ends : Outcome → Bool
ends Answered = false
ends (Dropped r) = false
ends AtEnd = true
ends Incomplete = true
ends PastEnd = true
ends BadImage = true
ends ShortOutput = true
ends FullTally = true
ends FullList = true
