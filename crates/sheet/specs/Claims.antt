-- The claims page of the sheet between its head and its foot: its items and its rows. Each statement is proved in proofs/Claimed.antt.
use Rattle.std.specs.Prelude.{ℕ, zero, suc, ◌+◌, ◌-◌, ◌≤◌, ◌<◌, Bool, true, false, ◌&&◌, List, [], ◌∷◌, ◌++◌, ◌⊎◌, ◌≡◌, eqb, length, replicate}
use Rattle.foot.specs.Foot.{end_for}
use Rattle.machine.specs.Claims.{Premises, with_memory}
use Rattle.machine.specs.Machine.{State, call, Step, step, work, code_at}
use Rattle.frame.specs.Bytes.{pick, byte}
use Rattle.frame.specs.declared.finding.Reason.{Reason}
use Rattle.frame.specs.declared.finding.Reason.TheVariants.{NoHeader, WrongType, TooLong, WrongCheck, WrongEnd}
use Rattle.reader.specs.Outcomes.{number_of}
use Rattle.reader.specs.Tallies.{fresh_tally}
use Rattle.reader.specs.declared.tally.Tally.{Tally}
use Rattle.naming.specs.Commands.{command_text}
use Rattle.report.specs.Lines.{ends}
use Rattle.report.specs.Report.{population_of}
use Rattle.rows.specs.Rows.{dropped_in, item_rows}
use Rattle.rows.specs.declared.items.Item.{Item}
use Rattle.sheet.specs.Itemised.{advanced, itemised, rows_from}
use Rattle.sheet.specs.Sheet.{Standing, standing_of, command_at, teller, begun_on}
use Rattle.sheet.specs.Writing.{begun, standing_at}
use Rattle.sheet.specs.declared.items.Items.{Items}
use Rattle.text.specs.Telling.{text_from, fill, pieces}
use Rattle.text.specs.Words.{ascii}

-- ---- the failures of a run

-- where it stands, and the byte of the error answer, 0 for a dropped byte
pub record Fault : Type 0 where
  pub place : ℕ
  pub error : ℕ

abbrev pub fault : ℕ → ℕ → Fault
fault place error = record { place = place; error = error }

-- "An error answer is one with code FF", and answer 3 is a byte dropped
unfoldable pub fault_in : State → Step → List Fault
fault_in s x =
    pick (eqb (number_of x.outcome) 3) (fault s.reader.cursor 0 ∷ [])
    (pick (eqb (number_of x.outcome) 0 && eqb (byte x.next.output 2) 0xFF) (fault s.reader.cursor (byte x.next.output 5) ∷ []) [])

-- those of k calls, in their order
unfoldable pub faults : ℕ → List ℕ → State → List Fault
faults zero input s = []
faults (suc k) input s = fault_in s (step (call input) s) ++ faults k input (step (call input) s).next

-- those that an item stands for: one error answer, or every byte from its first to its last
unfoldable pub dropped_from : ℕ → ℕ → List Fault
dropped_from place zero = []
dropped_from place (suc n) = fault place 0 ∷ dropped_from (suc place) n

unfoldable pub faults_of : Item → List Fault
faults_of item = pick (eqb item.error 0) (dropped_from item.first (item.last + 1 - item.first)) (fault item.first item.error ∷ [])

unfoldable pub all_faults : List Item → List Fault
all_faults [] = []
all_faults (item ∷ items) = faults_of item ++ all_faults items

-- ---- the items

-- "Eleven failures were missing from that report." After any number of calls, from a standing with no items, the items stand for exactly the failures of these calls,
-- each once and in their order: every error answer with its place and its byte, which is never 0 (`ErrorsHaveAByte` in machine), and every dropped byte.
abbrev pub EveryFailureOnce : Type 0
EveryFailureOnce = (k : ℕ) (input : List ℕ) (s : Standing) → s.items.count ≡ 0 → all_faults (itemised k input s) ≡ faults k input s.bench

-- the sheet goes on for k calls, and the next one ends it
unfoldable pub GoesOn : ℕ → List ℕ → State → Type 0
GoesOn zero input s = ends (step (call input) s).outcome ≡ true
GoesOn (suc k) input s = (ends (step (call input) s).outcome ≡ false) × GoesOn k input (step (call input) s).next

-- The text is the rows of these items, numbered from 1, and then what ends it: no row is missing, and there is no other.
abbrev pub RowForEachItem : Type 0
RowForEachItem =
    (k : ℕ) (input : List ℕ) (s : Standing)
    → s.items.count ≡ 0
    → k < 18446744073709551615
    → GoesOn k input s.bench
    → text_from (teller input) false s
    ≡ rows_from 1 input (itemised k input s)
    ++ end_for input (step (call input) (advanced k input s).bench).next.reader (advanced k input s).items.count
    (step (call input) (advanced k input s).bench).outcome

-- each row has the item's number, and the code and the command that stand in the input where it begins
pub record RowsOf (n : ℕ) (input : List ℕ) : Type 0 where
  pub none : rows_from n input [] ≡ []
  pub next : (item : Item) (items : List Item)
      → rows_from n input (item ∷ items) ≡ item_rows n item (code_at input item.first) (command_at input item.first) ++ rows_from (n + 1) input items

abbrev pub RowsInTurn : Type 0
RowsInTurn = (n : ℕ) (input : List ℕ) → RowsOf n input

-- where the functions that write it begin is where the run does: cursor 0, no item, nothing to hand out, an empty selection
abbrev pub BegunThere : Type 0
BegunThere = (memory sizes : List ℕ) → standing_at memory (population_of sizes) (replicate 39 0) (replicate 136 0) begun ≡ begun_on memory sizes

-- the number that the foot tells is that of the rows
abbrev pub ItemsCounted : Type 0
ItemsCounted =
    (k : ℕ) (input : List ℕ) (s : Standing) → s.items.count ≡ 0 → k < 18446744073709551615 → length (itemised k input s) ≡ (advanced k input s).items.count

-- the counts that the foot prints after k calls
abbrev pub counts_after : ℕ → List ℕ → Standing → Tally
counts_after k input s = (advanced k input s).bench.reader.tally

-- "the balance line holds": the number that `FAILURES 11 = ERROR 4 + DROPPED 7, ITEMS 5` begins with is that of the failures that the items stand for
abbrev pub BalanceHolds : Type 0
BalanceHolds =
    (k : ℕ) (commands memory sizes : List ℕ)
    → length (all_faults (itemised k commands (begun_on memory sizes)))
    ≡ (counts_after k commands (begun_on memory sizes)).error + dropped_in (counts_after k commands (begun_on memory sizes))

-- the count of a reason, and its sum over items
unfoldable pub reason_count : Reason → Tally → ℕ
reason_count NoHeader t = t.header
reason_count WrongType t = t.kind
reason_count TooLong t = t.long
reason_count WrongCheck t = t.check
reason_count WrongEnd t = t.end

unfoldable pub summed : Reason → List Item → ℕ
summed r [] = 0
summed r (item ∷ items) = reason_count r item.drops + summed r items

-- "with their reasons summed": of each reason the items show together as many drops as the foot counts
abbrev pub ReasonsSummed : Type 0
ReasonsSummed =
    (r : Reason) (k : ℕ) (commands memory sizes : List ℕ)
    → summed r (itemised k commands (begun_on memory sizes)) ≡ reason_count r (counts_after k commands (begun_on memory sizes))

-- an item is one error answer, without a reason, or the bytes that were dropped from its first to its last, each counted under its reason
abbrev pub OneAnswer : Item → Type 0
OneAnswer item = (item.drops ≡ fresh_tally) × (item.last ≡ item.first)

abbrev pub DroppedBytes : Item → Type 0
DroppedBytes item = (item.error ≡ 0) × (dropped_in item.drops ≡ item.last + 1 - item.first)

unfoldable pub EachOne : List Item → Type 0
EachOne [] = Unit
EachOne (item ∷ items) = (OneAnswer item ⊎ DroppedBytes item) × EachOne items

abbrev pub BytesOfDrops : Type 0
BytesOfDrops = (k : ℕ) (commands memory sizes : List ℕ) → EachOne (itemised k commands (begun_on memory sizes))

-- each item begins behind the end of the one before, and the first no earlier than `from`
unfoldable pub InOrder : ℕ → List Item → Type 0
InOrder from [] = Unit
InOrder from (item ∷ items) = (from ≤ item.first) × ((item.first ≤ item.last) × InOrder (item.last + 1) items)

-- "items are in rising order of position", from the cursor on at which the first call begins
abbrev pub Rising : Type 0
Rising = (k : ℕ) (input : List ℕ) (s : Standing) → s.items.count ≡ 0 → InOrder s.bench.reader.cursor (itemised k input s)

-- two items of dropped bytes, of which the second does not begin with the byte behind the first
abbrev pub Apart : Item → Item → Type 0
Apart item next = item.error ≡ 0 → next.error ≡ 0 → item.last + 1 < next.first

-- each item and the one behind it
unfoldable pub ApartFrom : Item → List Item → Type 0
ApartFrom item [] = Unit
ApartFrom item (next ∷ items) = Apart item next × ApartFrom next items

unfoldable pub AllApart : List Item → Type 0
AllApart [] = Unit
AllApart (item ∷ items) = ApartFrom item items

-- "Drops that follow one another, with no command between them, are one item", and not two
abbrev pub DropsTogether : Type 0
DropsTogether = (k : ℕ) (input : List ℕ) (s : Standing) → s.items.count ≡ 0 → AllApart (itemised k input s)

-- ---- the commands

-- what the row of an error answer shows of the command that begins at `at`
abbrev pub shown_at : List ℕ → ℕ → List ℕ
shown_at input at = command_text (code_at input at) (command_at input at)

-- "The command is decoded from the input at the record's cursor: code, name, bank, pointer and count of a Read or Write, mask and action of a Lock": here with the
-- bytes of each frame, whatever stands before it and behind its parameters. "Never a password, data ..": p, q, r and s are those of a password, d and e data.
pub record CommandsShown (before behind : List ℕ) (p q r s d e : ℕ) : Type 0 where
  pub inventory : shown_at (before ++ 0xBB ∷ 0x00 ∷ 0x22 ∷ 0x00 ∷ 0x00 ∷ behind) (length before) ≡ ascii "22 Inventory"
  pub read : shown_at (before ++ 0xBB ∷ 0x00 ∷ 0x39 ∷ 0x00 ∷ 0x09 ∷ p ∷ q ∷ r ∷ s ∷ 0x03 ∷ 0x01 ∷ 0x07 ∷ 0x00 ∷ 0x02 ∷ behind) (length before) ≡ ascii "39 Read User 263+2"
  pub write : shown_at (before ++ 0xBB ∷ 0x00 ∷ 0x49 ∷ 0x00 ∷ 0x0B ∷ p ∷ q ∷ r ∷ s ∷ 0x01 ∷ 0x00 ∷ 0x05 ∷ 0x00 ∷ 0x01 ∷ d ∷ e ∷ behind) (length before)
      ≡ ascii "49 Write EPC 5+1"
  -- LD 080C80: its bits 19 to 10 are 203, 9 to 0 are 080
  pub lock : shown_at (before ++ 0xBB ∷ 0x00 ∷ 0x82 ∷ 0x00 ∷ 0x07 ∷ p ∷ q ∷ r ∷ s ∷ 0x08 ∷ 0x0C ∷ 0x80 ∷ behind) (length before) ≡ ascii "82 Lock mask 0203 action 0080"
  pub kill : shown_at (before ++ 0xBB ∷ 0x00 ∷ 0x65 ∷ 0x00 ∷ 0x04 ∷ p ∷ q ∷ r ∷ s ∷ behind) (length before) ≡ ascii "65 Kill"
  -- "A malformed command shows its code and no fields.": a code that is not listed, a Read with a byte too few, with bank 4 and with count 0, a Write with half a
  -- word, a Lock whose top bits are not 0, a Kill with half a password, an inventory with a parameter, a Set Select
  pub not_listed : shown_at (before ++ 0xBB ∷ 0x00 ∷ 0x77 ∷ 0x00 ∷ 0x00 ∷ behind) (length before) ≡ ascii "77"
  pub short_read : shown_at (before ++ 0xBB ∷ 0x00 ∷ 0x39 ∷ 0x00 ∷ 0x08 ∷ p ∷ q ∷ r ∷ s ∷ 0x03 ∷ 0x01 ∷ 0x07 ∷ 0x00 ∷ behind) (length before) ≡ ascii "39"
  pub bank_four : shown_at (before ++ 0xBB ∷ 0x00 ∷ 0x39 ∷ 0x00 ∷ 0x09 ∷ p ∷ q ∷ r ∷ s ∷ 0x04 ∷ 0x01 ∷ 0x07 ∷ 0x00 ∷ 0x02 ∷ behind) (length before) ≡ ascii "39"
  pub count_zero : shown_at (before ++ 0xBB ∷ 0x00 ∷ 0x39 ∷ 0x00 ∷ 0x09 ∷ p ∷ q ∷ r ∷ s ∷ 0x03 ∷ 0x01 ∷ 0x07 ∷ 0x00 ∷ 0x00 ∷ behind) (length before) ≡ ascii "39"
  pub half_a_word : shown_at (before ++ 0xBB ∷ 0x00 ∷ 0x49 ∷ 0x00 ∷ 0x0A ∷ p ∷ q ∷ r ∷ s ∷ 0x01 ∷ 0x00 ∷ 0x05 ∷ 0x00 ∷ 0x01 ∷ d ∷ behind) (length before) ≡ ascii "49"
  pub top_bits : shown_at (before ++ 0xBB ∷ 0x00 ∷ 0x82 ∷ 0x00 ∷ 0x07 ∷ p ∷ q ∷ r ∷ s ∷ 0x18 ∷ 0x0C ∷ 0x80 ∷ behind) (length before) ≡ ascii "82"
  pub half_a_password : shown_at (before ++ 0xBB ∷ 0x00 ∷ 0x65 ∷ 0x00 ∷ 0x02 ∷ p ∷ q ∷ behind) (length before) ≡ ascii "65"
  pub one_parameter : shown_at (before ++ 0xBB ∷ 0x00 ∷ 0x22 ∷ 0x00 ∷ 0x01 ∷ d ∷ behind) (length before) ≡ ascii "22"
  pub set_select : shown_at (before ++ 0xBB ∷ 0x00 ∷ 0x0C ∷ 0x00 ∷ 0x02 ∷ d ∷ e ∷ behind) (length before) ≡ ascii "0C"

-- ---- the passwords

-- "the sheet of two runs under demand 3's premises is the same text": of the run from s, which goes on for k calls and is ended by the next one, and of the run that
-- has the memory n in the place of its own
abbrev pub SameSheet : Type 0
SameSheet =
    (k : ℕ) (input : List ℕ) (s : State) (n : List ℕ) (differs : ℕ → Bool) (items : Items)
    → Premises s n differs (replicate (suc k) (call input)) (with_memory s n)
    → GoesOn k input s
    → text_from (teller input) false (standing_of s items) ≡ text_from (teller input) false (standing_of (with_memory s n) items)

-- ---- its pieces

-- The bytes of a piece, followed by the text from where it left off, are the text from where it began; pieces one behind the other are the text once it is over,
-- and it comes to that.
abbrev pub PieceByPiece : Type 0
PieceByPiece =
    (input : List ℕ) (room : ℕ) (over : Bool) (s : Standing)
    → (fill (teller input) 1024 room over s).bytes
    ++ text_from (teller input) (fill (teller input) 1024 room over s).over (fill (teller input) 1024 room over s).state
    ≡ text_from (teller input) over s

abbrev pub PiecesAreTheText : Type 0
PiecesAreTheText =
    (input rooms : List ℕ) (s : Standing)
    → (pieces (teller input) 1024 rooms false s).over ≡ true
    → (pieces (teller input) 1024 rooms false s).bytes ≡ text_from (teller input) false s

abbrev pub EnoughPieces : Type 0
EnoughPieces =
    (input : List ℕ) (room : ℕ) (s : Standing) → 1024 ≤ room → (pieces (teller input) 1024 (replicate (suc (work input s.bench)) room) false s).over ≡ true
