-- The claims page of the report: what is promised of its definition, each as a named statement with document 01's words beside it. Each
-- is proved in proofs/Claimed.antt. That the code writes this report is the contract of `report::writing::write`.
use Rattle.std.specs.Prelude.{ℕ, suc, ◌+◌, ◌-◌, ◌*◌, ◌/◌, ◌≤◌, ◌<◌, Bool, true, false, not, ◌&&◌, List, [], ◌∷◌, ◌++◌, ◌⊎◌, ◌↔◌, ◌≢◌, ◌≡◌, eqb, length, take, drop, replicate, get_or, Ok}
use Rattle.reader.specs.Outcomes.{number_of}
use Rattle.effects.specs.Sample.{sample, killed}
use Rattle.reader.specs.declared.outcome.Outcome.{Outcome}
use Rattle.reader.specs.declared.outcome.Outcome.TheVariants.{Answered, AtEnd, Incomplete, Dropped, PastEnd, BadImage, ShortOutput, FullTally, FullList}
use Rattle.machine.specs.Claims.{answer_of, count, takes, inventories}
use Rattle.machine.specs.Machine.{State, call, Step, waiting, step, run, after}
use Rattle.machine.specs.Secrecy.{is_none, accepted}
use Rattle.frame.specs.Bytes.{pick, byte, number, part}
use Rattle.frame.specs.Frames.{sum}
use Rattle.image.specs.Image.{good}
use Rattle.population.specs.Places.{good_population}
use Rattle.reader.specs.declared.tally.Tally.{Tally}
use Rattle.report.specs.Lines.{too_long_line, drop_line, frame_line, longest_line, line_of}
use Rattle.report.specs.Pieces.{piece_of, left_by, over_by, pieces}
use Rattle.report.specs.Report.{lines_of, report_from, last_state, too_long, places_of, fresh, report_of, files_of, notice_of, printed}
use Rattle.text.specs.Counts.{counts_line, refused_line}

-- ---- the report that document 01 prints

-- `41 BB 00 65 00 04 00 00 FF FF 67 7E`
abbrev pub sample_commands : List ℕ
sample_commands = 0x41 ∷ 0xBB ∷ 0x00 ∷ 0x65 ∷ 0x00 ∷ 0x04 ∷ 0x00 ∷ 0x00 ∷ 0xFF ∷ 0xFF ∷ 0x67 ∷ 0x7E ∷ []

-- `DROP 41`
-- `BB 01 65 00 10 0E 34 00 30 75 1F EB 70 5C 59 04 E3 D5 0D 70 00 C5 7E`
-- `GOOD 1 ERROR 0 DROPPED 1 0 0 0 0 LEFT 0`
abbrev pub sample_report : List ℕ
sample_report =
    68 ∷ 82 ∷ 79 ∷ 80 ∷ 32 ∷ 52 ∷ 49 ∷ 10 ∷ 66 ∷ 66 ∷ 32 ∷ 48 ∷ 49 ∷ 32 ∷ 54 ∷ 53 ∷ 32 ∷ 48 ∷ 48 ∷ 32 ∷ 49 ∷ 48 ∷ 32 ∷ 48
    ∷ 69 ∷ 32 ∷ 51 ∷ 52 ∷ 32 ∷ 48 ∷ 48 ∷ 32 ∷ 51 ∷ 48 ∷ 32 ∷ 55 ∷ 53 ∷ 32 ∷ 49 ∷ 70 ∷ 32 ∷ 69 ∷ 66 ∷ 32 ∷ 55 ∷ 48 ∷ 32 ∷ 53
    ∷ 67 ∷ 32 ∷ 53 ∷ 57 ∷ 32 ∷ 48 ∷ 52 ∷ 32 ∷ 69 ∷ 51 ∷ 32 ∷ 68 ∷ 53 ∷ 32 ∷ 48 ∷ 68 ∷ 32 ∷ 55 ∷ 48 ∷ 32 ∷ 48 ∷ 48 ∷ 32 ∷ 67
    ∷ 53 ∷ 32 ∷ 55 ∷ 69 ∷ 10 ∷ 71 ∷ 79 ∷ 79 ∷ 68 ∷ 32 ∷ 49 ∷ 32 ∷ 69 ∷ 82 ∷ 82 ∷ 79 ∷ 82 ∷ 32 ∷ 48 ∷ 32 ∷ 68 ∷ 82 ∷ 79 ∷ 80
    ∷ 80 ∷ 69 ∷ 68 ∷ 32 ∷ 49 ∷ 32 ∷ 48 ∷ 32 ∷ 48 ∷ 32 ∷ 48 ∷ 32 ∷ 48 ∷ 32 ∷ 76 ∷ 69 ∷ 70 ∷ 84 ∷ 32 ∷ 48 ∷ 10 ∷ []

-- "For the sample tag and input .., whole"
abbrev pub SampleReport : Type 0
SampleReport = report_of sample_commands sample (86 ∷ []) ≡ sample_report

-- Its run leaves the tag killed: a report that is printed and not run is another one.
abbrev pub SampleImage : Type 0
SampleImage = (last_state sample_commands false (fresh sample (86 ∷ []))).memory ≡ killed

-- "A call answered 10 to 13 gives only `REFUSED` and the number": both files empty
abbrev pub EmptyImage : Type 0
EmptyImage = report_of [] [] (0 ∷ []) ≡ 82 ∷ 69 ∷ 70 ∷ 85 ∷ 83 ∷ 69 ∷ 68 ∷ 32 ∷ 49 ∷ 49 ∷ 10 ∷ []

-- No tag at all is no bad image: `GOOD 0 ERROR 0 DROPPED 0 0 0 0 0 LEFT 0`
abbrev pub EmptyCrate : Type 0
EmptyCrate =
    report_of [] [] []
    ≡ 71 ∷ 79 ∷ 79 ∷ 68 ∷ 32 ∷ 48 ∷ 32 ∷ 69 ∷ 82 ∷ 82 ∷ 79 ∷ 82 ∷ 32 ∷ 48 ∷ 32 ∷ 68 ∷ 82 ∷ 79 ∷ 80 ∷ 80 ∷ 69 ∷ 68 ∷ 32 ∷ 48
    ∷ 32 ∷ 48 ∷ 32 ∷ 48 ∷ 32 ∷ 48 ∷ 32 ∷ 48 ∷ 32 ∷ 76 ∷ 69 ∷ 70 ∷ 84 ∷ 32 ∷ 48 ∷ 10 ∷ []

-- P5: "A crate holds up to 16 tags, each with its place in one lent memory". The files lie one behind the other: the crate is good exactly if there are no more
-- than sixteen, and the bytes of each are a good image.
abbrev pub GoodFiles : Type 0
GoodFiles =
    (memory sizes : List ℕ)
    → sum sizes ≤ length memory
    → good_population memory (length sizes) (places_of sizes) ≡ true
    ↔ (length sizes ≤ 16) × ((i : ℕ) → i < length sizes → good (part memory (sum (take i sizes)) (get_or sizes i 0)) ≡ true)

-- "a longer file gives only `TOO LONG`"
abbrev pub TooLongReport : Type 0
TooLongReport = (commands memory sizes : List ℕ) → too_long (length commands) sizes ≡ true → report_of commands memory sizes ≡ too_long_line

-- "at most 32,768 and 2,048 bytes": exactly then none is too long
abbrev pub LongFiles : Type 0
LongFiles =
    (commands : ℕ) (sizes : List ℕ)
    → too_long commands sizes ≡ false ↔ (commands ≤ 32768) × ((i : ℕ) → i < length sizes → get_or sizes i 0 ≤ 2048)

-- "a file that can't be opened counts as empty": one that opens and can't be read to its end is not empty, and gives only `UNREADABLE`.
-- Files that are not run give only their line, and any others the report of the run.
abbrev pub UnreadableReport : Type 0
UnreadableReport =
    (commands memory sizes : List ℕ)
    → printed false commands memory sizes ≡ 85 ∷ 78 ∷ 82 ∷ 69 ∷ 65 ∷ 68 ∷ 65 ∷ 66 ∷ 76 ∷ 69 ∷ 10 ∷ []

abbrev pub NoticeAlone : Type 0
NoticeAlone =
    (readable : Bool) (commands memory sizes : List ℕ)
    → files_of readable (length commands) sizes ≢ Ok tt
    → printed readable commands memory sizes ≡ notice_of (files_of readable (length commands) sizes)

abbrev pub RunPrinted : Type 0
RunPrinted =
    (readable : Bool) (commands memory sizes : List ℕ)
    → files_of readable (length commands) sizes ≡ Ok tt
    → printed readable commands memory sizes ≡ report_from commands false (fresh memory sizes)

-- ---- the line of a call

-- "one line for each answer 0 or 3": the frame that the call wrote, of which the machine's claims tell, and the byte that is dropped
abbrev pub FrameLines : Type 0
FrameLines =
    (input : List ℕ) (s : State) → answer_of (call input) s ≡ 0
    → line_of input s (step (call input) s) ≡ frame_line (take (step (call input) s).length (step (call input) s).next.output)

abbrev pub DropLines : Type 0
DropLines =
    (input : List ℕ) (s : State) → answer_of (call input) s ≡ 3 → line_of input s (step (call input) s) ≡ drop_line (byte input s.reader.cursor)

-- "then the counts; LEFT is what remains at answer 1 or 2". What this line says, byte by byte and in which order, is `CountsInOrder` in text.
abbrev pub CountLines : Type 0
CountLines =
    (input : List ℕ) (s : State) → (answer_of (call input) s ≡ 1) ⊎ (answer_of (call input) s ≡ 2)
    → line_of input s (step (call input) s) ≡ counts_line s.reader.tally (length input - s.reader.cursor)

-- "A call answered 10 to 13 gives only `REFUSED` and the number."
abbrev pub RefusedLines : Type 0
RefusedLines =
    (input : List ℕ) (s : State) → 10 ≤ answer_of (call input) s → line_of input s (step (call input) s) ≡ refused_line (answer_of (call input) s)

-- The report from any state is the line of one call, and the report from the state that the call left, unless the call ends it.
abbrev pub LineByLine : Type 0
LineByLine =
    (input : List ℕ) (s : State)
    → report_from input false s
    ≡ line_of input s (step (call input) s) ++ report_from input (not (takes (step (call input) s))) (step (call input) s).next

-- ---- the whole report

-- k calls on one input, from the program's start
abbrev pub made : ℕ → List ℕ → List ℕ → List ℕ → List Step
made k commands memory sizes = run (replicate k (call commands)) (fresh memory sizes)

abbrev pub state_by : ℕ → List ℕ → List ℕ → List ℕ → State
state_by k commands memory sizes = after (replicate k (call commands)) (fresh memory sizes)

-- On a good crate the report is the lines of calls answered 0 or 3, in order, at most one for each byte and 15 more for each accepted inventory, then the counts.
abbrev pub GoodCrateReport : Type 0
GoodCrateReport =
    (commands memory sizes : List ℕ)
    → too_long (length commands) sizes ≡ false
    → good_population memory (length sizes) (places_of sizes) ≡ true
    → (k : ℕ)
    × (k ≤ length commands + 15 * inventories (accepted (replicate k (call commands)) (fresh memory sizes)))
    × (count takes (made k commands memory sizes) ≡ k)
    × (report_of commands memory sizes
    ≡ lines_of commands (fresh memory sizes) (made k commands memory sizes)
    ++ counts_line (state_by k commands memory sizes).reader.tally (length commands - (state_by k commands memory sizes).reader.cursor))

-- "gives only `REFUSED` and the number": a refusal is the whole report, and its number is 11
abbrev pub BadCrateReport : Type 0
BadCrateReport =
    (commands memory sizes : List ℕ)
    → too_long (length commands) sizes ≡ false
    → good_population memory (length sizes) (places_of sizes) ≡ false
    → report_of commands memory sizes ≡ refused_line 11

-- After any number of calls GOOD and ERROR together are the number of frame lines, and the five numbers of DROPPED together that of DROP lines.
unfoldable pub is_frame : Step → Bool
is_frame x = eqb (number_of x.outcome) 0

unfoldable pub is_drop : Step → Bool
is_drop x = eqb (number_of x.outcome) 3

abbrev pub drops : Tally → ℕ
drops t = t.header + t.kind + t.long + t.check + t.end

abbrev pub CountsAreLines : Type 0
CountsAreLines =
    (k : ℕ) (commands memory sizes : List ℕ)
    → ((state_by k commands memory sizes).reader.tally.good + (state_by k commands memory sizes).reader.tally.error ≡ count is_frame (made k commands memory sizes))
    × (drops (state_by k commands memory sizes).reader.tally ≡ count is_drop (made k commands memory sizes))

-- What was dropped, what the commands took ("A frame has 7 + PL bytes.") and LEFT are together the length of the input. A call that hands out a tag takes none:
-- "The cursor moves with the first of them only".
unfoldable pub took_by : Outcome → ℕ → ℕ
took_by Answered pl = 7 + pl
took_by (Dropped r) pl = 1
took_by AtEnd pl = 0
took_by Incomplete pl = 0
took_by PastEnd pl = 0
took_by BadImage pl = 0
took_by ShortOutput pl = 0
took_by FullTally pl = 0
took_by FullList pl = 0

unfoldable pub hands_out : State → Step → Bool
hands_out s x = eqb (number_of x.outcome) 0 && not (is_none (waiting s))

unfoldable pub took : List ℕ → State → List Step → ℕ
took input s [] = 0
took input s (x ∷ rest) =
    pick (hands_out s x) 0 (took_by x.outcome (number (drop s.reader.cursor input) 3)) + took input x.next rest

abbrev pub BytesAddUp : Type 0
BytesAddUp =
    (k : ℕ) (commands memory sizes : List ℕ)
    → took commands (fresh memory sizes) (made k commands memory sizes) + (length commands - (state_by k commands memory sizes).reader.cursor) ≡ length commands

-- ---- the report in pieces

-- The bytes of a piece, followed by the report from the state that it leaves, are the report from the state that it was given.
abbrev pub PieceByPiece : Type 0
PieceByPiece =
    (input : List ℕ) (room : ℕ) (over : Bool) (s : State)
    → lines_of input s (piece_of input room over s) ++ report_from input (over_by input room over s) (left_by input room over s)
    ≡ report_from input over s

-- A buffer shorter than the longest line takes no piece, and a report that is over has none: nothing changes.
pub record NoPiece (input : List ℕ) (room : ℕ) (over : Bool) (s : State) : Type 0 where
  pub no_line : lines_of input s (piece_of input room over s) ≡ []
  pub state_stays : left_by input room over s ≡ s
  pub over_stays : over_by input room over s ≡ over

abbrev pub ShortBuffer : Type 0
ShortBuffer = (input : List ℕ) (room : ℕ) (over : Bool) (s : State) → room < longest_line → NoPiece input room over s

abbrev pub NothingLeft : Type 0
NothingLeft = (input : List ℕ) (room : ℕ) (s : State) → NoPiece input room true s

-- Pieces one behind the other, for buffers of any lengths, are the report once it is over, and the state that they leave is that of the
-- whole run.
abbrev pub PiecesAreTheReport : Type 0
PiecesAreTheReport =
    (commands memory sizes rooms : List ℕ)
    → too_long (length commands) sizes ≡ false
    → (pieces commands rooms false (fresh memory sizes)).over ≡ true
    → ((pieces commands rooms false (fresh memory sizes)).bytes ≡ report_of commands memory sizes)
    × ((pieces commands rooms false (fresh memory sizes)).state ≡ last_state commands false (fresh memory sizes))

-- It comes to that: a piece for each byte of the commands, 15 for each inventory that they have room for, and one more, are enough where the longest line has
-- room.
abbrev pub EnoughPieces : Type 0
EnoughPieces =
    (commands memory sizes : List ℕ) (room : ℕ)
    → longest_line ≤ room
    → (pieces commands (replicate (suc (length commands + 15 * (length commands / 7))) room) false (fresh memory sizes)).over ≡ true
