-- The rows of the sheet: each item has its number, its bytes, its command and its result.
use Rattle.std.specs.Prelude.{ℕ, ◌+◌, ◌-◌, ◌*◌, ◌/◌, ◌%◌, List, ◌++◌, eqb}
use Rattle.std.proofs.lemmas.List.Edits.{sets}
use Rattle.frame.specs.Bytes.{pick}
use Rattle.naming.specs.Commands.{command_text}
use Rattle.naming.specs.Errors.{error_text}
use Rattle.reader.specs.declared.tally.Tally.{Tally}
use Rattle.rows.specs.Columns.{byte_column, command_column, result_column, boxed_row, blank_rows, numbered}
use Rattle.rows.specs.declared.items.Item.{Item}
use Rattle.tag.specs.declared.commands.Parsed.{Parsed}
use Rattle.text.specs.Digits.{decimal}
use Rattle.text.specs.Words.{ascii}

-- "Byte positions from 0": `41`, or `57-63` where there are more
unfoldable pub range_text : ℕ → ℕ → List ℕ
range_text first last = pick (eqb first last) (decimal first) (decimal first ++ ascii "-" ++ decimal last)

-- `1 byte`, `7 bytes`
unfoldable pub bytes_text : ℕ → List ℕ
bytes_text n = decimal n ++ pick (eqb n 1) (ascii " byte") (ascii " bytes")

-- ---- an error answer

unfoldable pub error_row : ℕ → ℕ → ℕ → Parsed → ℕ → List ℕ
error_row n first code parsed error =
    sets (sets (sets (numbered n boxed_row) byte_column (decimal first)) command_column (command_text code parsed)) result_column (error_text error)

-- ---- dropped bytes

-- Each reason that some were dropped for is shown with their number, two to a row, those of a false header first.
unfoldable pub is_some : ℕ → ℕ
is_some n = pick (eqb n 0) 0 1

unfoldable pub reasons_in : Tally → ℕ
reasons_in t = is_some t.kind + is_some t.long + is_some t.check + is_some t.end + is_some t.header

-- where the one stands that is shown behind so many
unfoldable pub cell_place : ℕ → ℕ
cell_place shown = 100 * (shown / 2) + result_column + 18 * (shown % 2)

unfoldable pub cell_text : ℕ → List ℕ → List ℕ
cell_text n word = decimal n ++ ascii " " ++ word

unfoldable pub with_cell : ℕ → ℕ → ℕ → List ℕ → List ℕ → List ℕ
with_cell at shown n word bytes = pick (eqb n 0) bytes (sets bytes (at + cell_place shown) (cell_text n word))

unfoldable pub with_reasons : ℕ → Tally → List ℕ → List ℕ
with_reasons at t bytes =
    with_cell at (is_some t.kind + is_some t.long + is_some t.check + is_some t.end) t.header (ascii "no header")
    (with_cell at (is_some t.kind + is_some t.long + is_some t.check) t.end (ascii "wrong end")
    (with_cell at (is_some t.kind + is_some t.long) t.check (ascii "wrong check")
    (with_cell at (is_some t.kind) t.long (ascii "too long")
    (with_cell at 0 t.kind (ascii "wrong type")
    bytes))))

unfoldable pub dropped_in : Tally → ℕ
dropped_in t = t.header + t.kind + t.long + t.check + t.end

unfoldable pub drop_rows : ℕ → ℕ → ℕ → Tally → List ℕ
drop_rows n first last t =
    with_reasons 0 t
    (sets (sets (numbered n (blank_rows (reasons_in t))) byte_column (range_text first last)) command_column (bytes_text (dropped_in t) ++ ascii " dropped"))

-- ---- an item, and what waits at the end

unfoldable pub item_rows : ℕ → Item → ℕ → Parsed → List ℕ
item_rows n item code parsed =
    pick (eqb item.error 0) (drop_rows n item.first item.last item.drops) (error_row n item.first code parsed item.error)

-- the bytes from `first` on, up to the one before `behind`
unfoldable pub waiting_row : ℕ → ℕ → List ℕ
waiting_row first behind =
    sets (sets (sets (sets boxed_row 3 (ascii "-")) byte_column (range_text first (behind - 1))) command_column (bytes_text (behind - first) ++ ascii " waiting"))
    result_column (ascii "not a whole frame")
