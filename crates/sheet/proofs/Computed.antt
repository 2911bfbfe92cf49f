-- All that the sheet is made of behind its head, opened at once for what is computed.
use Rattle.foot.specs.Foot.{failures_line, name_line, end_line, signature_lines, waiting_rows, foot, end_for}
use Rattle.frame.specs.Bytes.{first_of}
use Rattle.machine.proofs.Computed.{opened as machine}
use Rattle.machine.specs.Machine.{bytes_left, tags_left, work}
use Rattle.naming.specs.Commands.{bank_name, aim_text, bits_text, lock_text, fields_text, command_text}
use Rattle.naming.specs.Errors.{tag_words, error_words, error_text}
use Rattle.report.specs.Lines.{ends}
use Rattle.report.specs.Report.{place_in, laid_out, places_of, fresh}
use Rattle.rows.specs.Columns.{boxed_row, plain_row, number_place, numbered, blank_rows}
use Rattle.rows.specs.Rows.{range_text, bytes_text, is_some, reasons_in, cell_place, cell_text, with_cell, with_reasons, dropped_in, error_row, drop_rows, item_rows, waiting_row}
use Rattle.sheet.specs.Items.{failing, joins, grown, one_more, items_after, closes}
use Rattle.sheet.specs.Sheet.{command_with, command_at, last_rows, items_by, is_told, part_for, teller}
use Rattle.text.specs.Counts.{good_word, error_word, dropped_word, space_word, left_word, count_part, two_counts, tally_part, counts_line}
use Rattle.text.specs.Digits.{hex_digit, hex_byte, width_by, width, digits, decimal}
use Rattle.text.specs.Laying.{spaces}
use Rattle.text.specs.Telling.{left, text_by, text_from}

unfoldable pub opened : Unit {0}
unfolding machine bytes_left tags_left work ends place_in laid_out places_of fresh boxed_row plain_row number_place numbered blank_rows range_text bytes_text is_some reasons_in cell_place cell_text with_cell with_reasons dropped_in drop_rows item_rows waiting_row failing joins grown one_more items_after closes command_with command_at last_rows failures_line name_line end_line signature_lines waiting_rows foot end_for items_by is_told part_for teller good_word error_word dropped_word space_word left_word count_part two_counts tally_part counts_line width_by width digits decimal spaces left text_by text_from error_row bank_name aim_text bits_text lock_text fields_text command_text tag_words error_words error_text hex_digit hex_byte first_of
opened = tt
