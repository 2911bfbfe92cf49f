-- What is computed: whole rows, as literal text.
use mathlib.Core.Path.{refl}
use Rattle.frame.specs.Bytes.{pick, first_of, part}
use Rattle.naming.specs.Commands.{bank_name, aim_text, bits_text, lock_text, fields_text, command_text}
use Rattle.naming.specs.Errors.{tag_words, error_words, error_text}
use Rattle.rows.specs.Claims.{ErrorRowExample, WideRowExample, MalformedRowExample, DropRowExample, OneByteExample, FiveReasonsExample, DroppedSum, WaitingRowExample, OneWaitsExample, AllReasons}
use Rattle.rows.specs.Columns.{boxed_row, plain_row, number_place, numbered, blank_rows}
use Rattle.rows.specs.Rows.{range_text, bytes_text, error_row, is_some, reasons_in, cell_place, cell_text, with_cell, with_reasons, dropped_in, drop_rows, item_rows, waiting_row}
use Rattle.text.specs.Digits.{hex_digit, hex_byte, width_by, width, digits, decimal}
use Rattle.text.specs.Laying.{spaces}

-- all that a row is made of, opened at once
opened : Unit {0}
unfolding pick first_of boxed_row plain_row number_place numbered blank_rows bank_name aim_text bits_text lock_text fields_text command_text tag_words error_words error_text range_text bytes_text error_row is_some reasons_in cell_place cell_text with_cell with_reasons dropped_in drop_rows item_rows waiting_row hex_digit hex_byte width_by width digits decimal spaces
opened = tt

pub error_row_lem : ErrorRowExample
unfolding opened
error_row_lem password last drops = refl

pub wide_row : WideRowExample
unfolding opened
wide_row password last drops = refl

pub malformed_row : MalformedRowExample
unfolding opened
malformed_row last drops = refl

pub drop_row : DropRowExample
unfolding opened
drop_row code parsed = refl

pub one_byte : OneByteExample
unfolding opened
one_byte code parsed = refl

pub five_reasons : FiveReasonsExample
unfolding opened
five_reasons code parsed = refl

pub dropped_sum : DroppedSum
unfolding opened
dropped_sum = refl

pub waiting_row_lem : WaitingRowExample
unfolding opened
waiting_row_lem = refl

pub one_waits : OneWaitsExample
unfolding opened
one_waits = refl

pub all_reasons : AllReasons
unfolding opened part
all_reasons = refl
