-- The claims page of the rows: what stands in each column, as literal text. Each statement is proved in proofs/Claimed.antt.
use Rattle.std.specs.Prelude.{ℕ, zero, suc, ◌+◌, ◌-◌, ◌*◌, ◌/◌, ◌%◌, ◌≤◌, ◌<◌, Bool, true, ◌&&◌, ◌||◌, List, [], ◌∷◌, ◌++◌, map, ◌≡◌, eqb, leb, length, drop, replicate}
use Rattle.frame.specs.Bytes.{pick, byte, part}
use Rattle.naming.specs.Commands.{command_text}
use Rattle.naming.specs.Errors.{error_text}
use Rattle.reader.specs.declared.tally.Tally.{Tally}
use Rattle.rows.specs.Rows.{range_text, bytes_text, cell_text, dropped_in, error_row, drop_rows, item_rows, waiting_row}
use Rattle.rows.specs.declared.items.Item.{Item}
use Rattle.tag.specs.declared.commands.Parsed.{Parsed}
use Rattle.tag.specs.declared.commands.Parsed.TheVariants.{Malformed, Read, Lock}
use Rattle.text.specs.Digits.{decimal}
use Rattle.text.specs.Words.{ascii}

-- ---- whole rows

-- An error answer: its number up to the fourth column, "Byte positions from 0", its command and its result, whatever its other fields hold.
abbrev pub ErrorRowExample : Type 0
ErrorRowExample =
    (password last : ℕ) (drops : Tally)
    → item_rows 1 (record { first = 41; last = last; error = 0xA3; drops = drops }) 0x39 (Read password 3 7 2)
    ≡ ascii "   1   41           39 Read User 7+2              A3 the bank has no such words           [ ]   [ ]" ++ (10 ∷ [])

-- the widest texts, and the shortest
abbrev pub WideRowExample : Type 0
WideRowExample =
    (password last : ℕ) (drops : Tally)
    → item_rows 1234 (record { first = 32767; last = last; error = 0xC4; drops = drops }) 0x82 (Lock password 0x203 0x080)
    ≡ ascii "1234   32767        82 Lock mask 0203 action 0080 C4 a permalocked region would change    [ ]   [ ]" ++ (10 ∷ [])

abbrev pub MalformedRowExample : Type 0
MalformedRowExample =
    (last : ℕ) (drops : Tally)
    → item_rows 12 (record { first = 0; last = last; error = 0x17; drops = drops }) 0x77 Malformed
    ≡ ascii "  12   0            77                            17 code not listed, or a wrong field    [ ]   [ ]" ++ (10 ∷ [])

-- "Drops that follow one another, with no command between them, are one item, with their reasons summed.": of dropped bytes no command is shown, whatever is
-- given for it, and no answer is counted. The bytes of a false header come first, and those with no header last.
abbrev pub DropRowExample : Type 0
DropRowExample =
    (code : ℕ) (parsed : Parsed)
    → item_rows 2 (record { first = 57; last = 63; error = 0; drops = record { good = 0; error = 0; header = 5; kind = 2; long = 0; check = 0; end = 0 } }) code parsed
    ≡ ascii "   2   57-63        7 bytes dropped               2 wrong type      5 no header           [ ]   [ ]" ++ (10 ∷ [])

abbrev pub OneByteExample : Type 0
OneByteExample =
    (code : ℕ) (parsed : Parsed)
    → item_rows 3 (record { first = 9; last = 9; error = 0; drops = record { good = 0; error = 0; header = 0; kind = 0; long = 0; check = 0; end = 1 } }) code parsed
    ≡ ascii "   3   9            1 byte dropped                1 wrong end                             [ ]   [ ]" ++ (10 ∷ [])

-- all five reasons: only the first row has boxes
abbrev pub FiveReasonsExample : Type 0
FiveReasonsExample =
    (code : ℕ) (parsed : Parsed)
    → item_rows 10 (record { first = 100; last = 130; error = 0; drops = record { good = 64; error = 32; header = 1; kind = 2; long = 4; check = 8; end = 16 } }) code parsed
    ≡ ascii "  10   100-130      31 bytes dropped              2 wrong type      4 too long            [ ]   [ ]"
    ++ (10 ∷ [])
    ++ ascii "                                                  8 wrong check     16 wrong end                   "
    ++ (10 ∷ [])
    ++ ascii "                                                  1 no header                                      "
    ++ (10 ∷ [])

-- the good and the error answers are no dropped bytes
abbrev pub DroppedSum : Type 0
DroppedSum = dropped_in (record { good = 64; error = 32; header = 1; kind = 2; long = 4; check = 8; end = 16 }) ≡ 31

-- what waits has no number: five bytes from 64 on, with 69 bytes in all
abbrev pub WaitingRowExample : Type 0
WaitingRowExample = waiting_row 64 69 ≡ ascii "   -   64-68        5 bytes waiting               not a whole frame                       [ ]   [ ]" ++ (10 ∷ [])

abbrev pub OneWaitsExample : Type 0
OneWaitsExample = waiting_row 64 65 ≡ ascii "   -   64           1 byte waiting                not a whole frame                       [ ]   [ ]" ++ (10 ∷ [])

-- ---- every row

-- an item of error 0 is of dropped bytes, of which no command is shown; any other is an error answer
pub record ItemRows (n : ℕ) (item : Item) (code : ℕ) (parsed : Parsed) : Type 0 where
  pub drops : item.error ≡ 0 → item_rows n item code parsed ≡ drop_rows n item.first item.last item.drops
  pub answer : (item.error ≡ 0 → ⊥) → item_rows n item code parsed ≡ error_row n item.first code parsed item.error

-- `41`, or `57-63` where there are more; `1 byte`, or `7 bytes`; `1 wrong check`
pub record Texts : Type 0 where
  pub one_place : (first : ℕ) → range_text first first ≡ decimal first
  pub more_places : (first last : ℕ) → (first ≡ last → ⊥) → range_text first last ≡ decimal first ++ ascii "-" ++ decimal last
  pub one_byte : bytes_text 1 ≡ ascii "1 byte"
  pub more_bytes : (n : ℕ) → (n ≡ 1 → ⊥) → bytes_text n ≡ decimal n ++ ascii " bytes"
  pub reason : (n : ℕ) (word : List ℕ) → cell_text n word ≡ decimal n ++ ascii " " ++ word

-- this text stands whole from this column on
abbrev pub Stands : List ℕ → ℕ → List ℕ → Type 0
Stands text column row = part row column (length text) ≡ text

-- with item numbers below 10,000 and positions below 32,768: the number up to the fourth column, the place, the command and the result
pub record ErrorColumns (n first code e : ℕ) (parsed : Parsed) : Type 0 where
  pub number : Stands (decimal n) (4 - length (decimal n)) (error_row n first code parsed e)
  pub place : Stands (decimal first) 7 (error_row n first code parsed e)
  pub command : Stands (command_text code parsed) 20 (error_row n first code parsed e)
  pub result : Stands (error_text e) 50 (error_row n first code parsed e)

pub record DropColumns (n first last : ℕ) (t : Tally) : Type 0 where
  pub number : Stands (decimal n) (4 - length (decimal n)) (drop_rows n first last t)
  pub place : Stands (range_text first last) 7 (drop_rows n first last t)
  pub dropped : Stands (bytes_text (dropped_in t) ++ ascii " dropped") 20 (drop_rows n first last t)

pub record WaitingColumns (first behind : ℕ) : Type 0 where
  pub place : Stands (range_text first (behind - 1)) 7 (waiting_row first behind)
  pub waits : Stands (bytes_text (behind - first) ++ ascii " waiting") 20 (waiting_row first behind)

pub record InColumns : Type 0 where
  pub error : (n first code e : ℕ) (parsed : Parsed) → n < 10000 → first < 32768 → length (command_text code parsed) ≤ 29 → ErrorColumns n first code e parsed
  pub drops : (n first last : ℕ) (t : Tally) → n < 10000 → first < 32768 → last < 32768 → dropped_in t < 32769 → DropColumns n first last t
  pub waiting : (first behind : ℕ) → first < 32768 → behind ≤ 32768 → WaitingColumns first behind

-- The result of dropped bytes, for each of the 31 sets of reasons: header 1, type 2, length 4, check 8 and end 16 times, or not at all. Each reason of the set is
-- shown with its number, two to a row, those of a false header first.
abbrev pub reasons_of : ℕ → Tally
reasons_of set =
    record {
      good = 64;
      error = 32;
      header = set % 2;
      kind = 2 * (set / 2 % 2);
      long = 4 * (set / 4 % 2);
      check = 8 * (set / 8 % 2);
      end = 16 * (set / 16 % 2);
    }

abbrev pub shown_for : ℕ → List ℕ → List (List ℕ)
shown_for zero word = []
shown_for (suc n) word = (decimal (suc n) ++ ascii " " ++ word) ∷ []

abbrev pub shown_reasons : Tally → List (List ℕ)
shown_reasons t =
    shown_for t.kind (ascii "wrong type") ++ shown_for t.long (ascii "too long") ++ shown_for t.check (ascii "wrong check") ++ shown_for t.end (ascii "wrong end")
    ++ shown_for t.header (ascii "no header")

abbrev pub filled : ℕ → List ℕ → List ℕ
filled columns text = text ++ replicate (columns - length text) 32

abbrev pub two_to_a_row : List (List ℕ) → List (List ℕ)
two_to_a_row [] = []
two_to_a_row (one ∷ []) = filled 38 one ∷ []
two_to_a_row (one ∷ two ∷ more) = filled 38 (filled 18 one ++ two) ∷ two_to_a_row more

-- columns 50 to 87 of each row
abbrev pub results_in : ℕ → List ℕ → List (List ℕ)
results_in zero text = []
results_in (suc rows) text = part text 50 38 ∷ results_in rows (drop 100 text)

abbrev pub results_of : ℕ → List (List ℕ)
results_of set = results_in (length (drop_rows 1 0 30 (reasons_of set)) / 100) (drop_rows 1 0 30 (reasons_of set))

abbrev pub down_from : ℕ → List ℕ
down_from zero = []
down_from (suc n) = suc n ∷ down_from n

abbrev pub AllReasons : Type 0
AllReasons = map results_of (down_from 31) ≡ map (λ set. two_to_a_row (shown_reasons (reasons_of set))) (down_from 31)

-- ---- "fixed width, 100 columns at most"

-- how many reasons some bytes were dropped for
abbrev pub one : ℕ → ℕ
one zero = 0
one (suc n) = 1

abbrev pub reasons : Tally → ℕ
reasons t = one t.header + one t.kind + one t.long + one t.check + one t.end

-- Every row has 99 columns and a newline.
pub record RowsFit : Type 0 where
  pub error : (n first code e : ℕ) (parsed : Parsed) → length (error_row n first code parsed e) ≡ 100
  pub waiting : (first behind : ℕ) → length (waiting_row first behind) ≡ 100
  pub two_reasons : (n first last : ℕ) (t : Tally) → reasons t ≤ 2 → length (drop_rows n first last t) ≡ 100
  pub four_reasons : (n first last : ℕ) (t : Tally) → 2 < reasons t → reasons t ≤ 4 → length (drop_rows n first last t) ≡ 200
  pub five_reasons : (n first last : ℕ) (t : Tally) → 4 < reasons t → length (drop_rows n first last t) ≡ 300

-- The columns begin at 0, 7, 20 and 50, a second reason at 68, and the boxes at 90 and 96. With item numbers below 10,000 and positions below 32,768 a space is
-- left before the next. That the texts of commands and errors leave one too is in the claims page of `naming`.
pub record ColumnsApart : Type 0 where
  pub number : (n : ℕ) → n < 10000 → length (decimal n) ≤ 4
  pub position : (first : ℕ) → first < 32768 → length (decimal first) ≤ 12
  pub range : (first last : ℕ) → first < 32768 → last < 32768 → length (range_text first last) ≤ 12
  pub dropped : (n : ℕ) → n < 32769 → length (bytes_text n ++ ascii " dropped") ≤ 29
  pub waiting : (n : ℕ) → n < 32769 → length (bytes_text n ++ ascii " waiting") ≤ 29
  pub reason : (n : ℕ) (word : List ℕ) → n < 32769 → length word ≤ 11 → length (cell_text n word) ≤ 17

-- "plain ASCII": newlines, and bytes from the space to `~`
abbrev pub plain : List ℕ → Bool
plain [] = true
plain (b ∷ bytes) = (eqb b 10 || (leb 32 b && leb b 126)) && plain bytes

-- whatever the numbers are; the code and the error are bytes
pub record PlainText : Type 0 where
  pub item : (n : ℕ) (i : Item) (code : ℕ) (parsed : Parsed) → code < 256 → i.error < 256 → plain (item_rows n i code parsed) ≡ true
  pub waiting : (first behind : ℕ) → plain (waiting_row first behind) ≡ true

-- In column 99 stands the newline of the row, and in every other a byte from the space to `~`.
abbrev pub ruled : ℕ → List ℕ → Bool
ruled at [] = true
ruled at (b ∷ bytes) = pick (eqb (at % 100) 99) (eqb b 10) (leb 32 b && leb b 126) && ruled (suc at) bytes

-- With item numbers below 10,000 and positions below 32,768 no text of a row is laid over its newline, and none brings another.
pub record RowsRuled : Type 0 where
  pub error : (n first code e : ℕ) (parsed : Parsed)
      → n < 10000 → first < 32768 → code < 256 → e < 256 → length (command_text code parsed) ≤ 29 → ruled 0 (error_row n first code parsed e) ≡ true
  pub drops : (n first last : ℕ) (t : Tally)
      → n < 10000 → first < 32768 → last < 32768 → dropped_in t < 32769 → ruled 0 (drop_rows n first last t) ≡ true
  pub waiting : (first behind : ℕ) → first < 32768 → behind ≤ 32768 → ruled 0 (waiting_row first behind) ≡ true

-- What stands in the last twelve columns of the first row: the two boxes, and the newline.
abbrev pub boxes : List ℕ → List ℕ
boxes row = map (byte row) (88 ∷ 89 ∷ 90 ∷ 91 ∷ 92 ∷ 93 ∷ 94 ∷ 95 ∷ 96 ∷ 97 ∷ 98 ∷ 99 ∷ [])

-- No text is laid over a box that is to be signed.
pub record BoxesStay : Type 0 where
  pub error : (n first code e : ℕ) (parsed : Parsed)
      → n < 10000 → first < 32768 → length (command_text code parsed) ≤ 29 → boxes (error_row n first code parsed e) ≡ ascii "  [ ]   [ ]" ++ (10 ∷ [])
  pub drops : (n first last : ℕ) (t : Tally)
      → n < 10000 → first < 32768 → last < 32768 → dropped_in t < 32769 → boxes (drop_rows n first last t) ≡ ascii "  [ ]   [ ]" ++ (10 ∷ [])
  pub waiting : (first behind : ℕ) → first < 32768 → behind ≤ 32768 → boxes (waiting_row first behind) ≡ ascii "  [ ]   [ ]" ++ (10 ∷ [])
