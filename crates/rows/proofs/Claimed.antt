-- Every claim of specs/Claims.antt holds.
use Prim.Native.Nat.{ℕ}
use Rattle.rows.proofs.Boxes as boxes
use Rattle.rows.proofs.Fits as fits
use Rattle.rows.proofs.InColumns as columns
use Rattle.rows.proofs.Plain as plain
use Rattle.rows.proofs.Ruled as ruled
use Rattle.rows.proofs.Shown as shown
use Rattle.rows.specs.Claims.{ErrorRowExample, WideRowExample, MalformedRowExample, DropRowExample, OneByteExample, FiveReasonsExample, DroppedSum, WaitingRowExample, OneWaitsExample, ItemRows, Texts, InColumns, AllReasons, RowsFit, ColumnsApart, PlainText, RowsRuled, BoxesStay}
use Rattle.rows.specs.declared.items.Item.{Item}
use Rattle.tag.specs.declared.commands.Parsed.{Parsed}

pub error_row_lem : ErrorRowExample
error_row_lem = shown.error_row_lem

pub wide_row : WideRowExample
wide_row = shown.wide_row

pub malformed_row : MalformedRowExample
malformed_row = shown.malformed_row

pub drop_row : DropRowExample
drop_row = shown.drop_row

pub one_byte : OneByteExample
one_byte = shown.one_byte

pub five_reasons : FiveReasonsExample
five_reasons = shown.five_reasons

pub dropped_sum : DroppedSum
dropped_sum = shown.dropped_sum

pub waiting_row_lem : WaitingRowExample
waiting_row_lem = shown.waiting_row_lem

pub one_waits : OneWaitsExample
one_waits = shown.one_waits

pub item_rows_lem : (n : ℕ) (item : Item) (code : ℕ) (parsed : Parsed) → ItemRows n item code parsed
item_rows_lem = columns.item_rows_lem

pub texts : Texts
texts = columns.texts

pub in_columns : InColumns
in_columns = columns.in_columns

pub all_reasons : AllReasons
all_reasons = shown.all_reasons

pub rows_fit : RowsFit
rows_fit = fits.rows_fit

pub columns_apart : ColumnsApart
columns_apart = fits.columns_apart

pub plain_text : PlainText
plain_text = plain.plain_text

pub rows_ruled : RowsRuled
rows_ruled = ruled.rows_ruled

pub boxes_stay : BoxesStay
boxes_stay = boxes.boxes_stay
