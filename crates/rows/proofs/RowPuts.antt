-- The rows that a writer puts: blank ones, and the texts that it lays over them, each at its column.
use Prim.Native.Nat.{ℕ, ◌+◌, ◌-◌, ◌≤◌, ◌<◌}
use lib.ListN.{length}
use lib.Seq.{sets}
use mathlib.Core.List.{◌++◌}
use mathlib.Core.Path.{◌≡◌, ◌∙◌}
use native.Mathlib.Omega.{arith}
use Rattle.naming.specs.Commands.{command_text}
use Rattle.naming.specs.Errors.{error_text}
use Rattle.reader.specs.declared.tally.Tally.{Tally}
use Rattle.rows.proofs.Reasons.{Short}
use Rattle.rows.proofs.RowTexts.{length_error, length_drops, waiting_short, error_row_lem, drop_rows_lem, waiting_row_lem}
use Rattle.rows.specs.Columns.{boxed_row, blank_rows, number_place}
use Rattle.rows.specs.Rows.{range_text, bytes_text, reasons_in, with_reasons, dropped_in, error_row, drop_rows, waiting_row}
use Rattle.tag.specs.declared.commands.Parsed.{Parsed}
use Rattle.text.proofs.Decimals.{decimal_64}
use Rattle.text.proofs.Writing.{within_puts}
use Rattle.text.specs.Digits.{decimal}
use Rattle.text.specs.Words.{ascii}
use Rattle.text.specs.Writing.{LaysWithin, Puts, Holds, PutsRight}
use Rattle.text.specs.declared.writer.Writer.{Writer}

-- the writer at another place
abbrev standing : Writer → ℕ → Writer
standing writer place = record writer { at = place }

-- the number of an item, where its columns and its digits have room
numbers : (n : ℕ) {before after : Writer} → before.at + 4 ≤ length before.buffer.now → before.at + length (decimal n) ≤ length before.buffer.now
    → PutsRight 4 n before after → after.buffer.now ≡ sets before.buffer.now (before.at + number_place n) (decimal n)
unfolding number_place
numbers n room long puts = (puts.put (omega arith) long).output_is

pub error_row_put : (n first code error : ℕ) (parsed : Parsed) {w0 w1 w2 w3 w4 w5 : Writer} → n < 18446744073709551616 → first < 18446744073709551616
    → Puts 100 boxed_row w0 w1 → PutsRight 4 n (standing w1 w0.at) w2 → Puts 20 (decimal first) (standing w2 (w0.at + 7)) w3
    → LaysWithin 59 (command_text code parsed) (standing w3 (w0.at + 20)) w4 → LaysWithin 36 (error_text error) (standing w4 (w0.at + 50)) w5
    → Puts 100 (error_row n first code parsed error) w0 (standing w5 w1.at)
error_row_put n first code error parsed {w0 = w0} {w1 = w1} {w2 = w2} {w3 = w3} {w4 = w4} {w5 = w5} n_small first-small boxed number range command
    result =
    let name = within_puts command in
    let words = within_puts result in
    let digits = decimal_64 n n_small in
    record {
      same_reference = words.same_reference ∙ name.same_reference ∙ range.same_reference ∙ number.same_reference ∙ boxed.same_reference;
      same_length = words.same_length ∙ name.same_length ∙ range.same_length ∙ number.same_length ∙ boxed.same_length;
      short = length_error n first code error parsed;
      put = λ room.
          error_row_lem w0.at w0.buffer.now w1.at n first code error parsed w1.buffer.now w2.buffer.now w3.buffer.now w4.buffer.now w5.buffer.now
          w3.at w4.at w5.at (boxed.put room) digits
          (numbers n (omega (arith, boxed.same_length)) (omega (arith, boxed.same_length)) number) (decimal_64 first first-small)
          (range.put (omega (arith, boxed.same_length, number.same_length)))
          (omega (arith, boxed.same_length, number.same_length, range.same_length)) command.laid
          (omega (arith, boxed.same_length, number.same_length, range.same_length, name.same_length)) result.laid;
    }

pub drop_rows_put : (n first last : ℕ) (t : Tally) {reasons dropped : ℕ} {w0 w1 w2 w3 w4 w5 : Writer} → Short t → n < 18446744073709551616
    → reasons ≡ reasons_in t → dropped ≡ dropped_in t
    → Puts 300 (blank_rows reasons) w0 w1 → PutsRight 4 n (standing w1 w0.at) w2 → Puts 41 (range_text first last) (standing w2 (w0.at + 7)) w3
    → Puts 34 (bytes_text dropped ++ ascii " dropped") (standing w3 (w0.at + 20)) w4 → Holds (with_reasons w0.at t w4.buffer.now) w4 w5
    → Puts 300 (drop_rows n first last t) w0 (standing w5 w1.at)
drop_rows_put n first last t {reasons = reasons} {dropped = dropped} {w0 = w0} {w1 = w1} {w2 = w2} {w3 = w3} {w4 = w4} {w5 = w5}
    short n_small shown all blank number range fate cells =
    let digits = decimal_64 n n_small in
    record {
      same_reference = cells.same_reference ∙ fate.same_reference ∙ range.same_reference ∙ number.same_reference ∙ blank.same_reference;
      same_length = cells.same_length ∙ fate.same_length ∙ range.same_length ∙ number.same_length ∙ blank.same_length;
      short = length_drops n first last t;
      put = λ room.
          let ranged = range.put (omega (arith, blank.same_length, number.same_length)) in
          let fated = fate.put (omega (arith, blank.same_length, number.same_length, range.same_length)) in
          drop_rows_lem w0.at w0.buffer.now w1.at n first last reasons dropped t w1.buffer.now w2.buffer.now w3.buffer.now w4.buffer.now w5.buffer.now
          w3.at w4.at short shown all (blank.put room) digits (numbers n (omega (arith, blank.same_length)) (omega (arith, blank.same_length)) number) ranged
          (omega (arith, ranged.next_is, range.short)) fated (omega (arith, fated.next_is, fate.short)) cells.bytes_are;
    }

pub waiting_row_put : (first behind : ℕ) {last left : ℕ} {w0 w1 w2 w3 w4 w5 : Writer} → last ≡ behind - 1 → left ≡ behind - first → Puts 100 boxed_row w0 w1
    → Puts 1 (ascii "-") (standing w1 (w0.at + 3)) w2 → Puts 41 (range_text first last) (standing w2 (w0.at + 7)) w3
    → Puts 34 (bytes_text left ++ ascii " waiting") (standing w3 (w0.at + 20)) w4 → Puts 17 (ascii "not a whole frame") (standing w4 (w0.at + 50)) w5
    → Puts 100 (waiting_row first behind) w0 (standing w5 w1.at)
waiting_row_put first behind {last = last} {left = left} {w0 = w0} {w1 = w1} {w2 = w2} {w3 = w3} {w4 = w4} {w5 = w5} last_is left-is boxed dash range fate
    words =
    record {
      same_reference = words.same_reference ∙ fate.same_reference ∙ range.same_reference ∙ dash.same_reference ∙ boxed.same_reference;
      same_length = words.same_length ∙ fate.same_length ∙ range.same_length ∙ dash.same_length ∙ boxed.same_length;
      short = waiting_short first behind;
      put = λ room.
          let ranged = range.put (omega (arith, boxed.same_length, dash.same_length)) in
          let fated = fate.put (omega (arith, boxed.same_length, dash.same_length, range.same_length)) in
          waiting_row_lem w0.at w0.buffer.now w1.at first behind last left w1.buffer.now w2.buffer.now w3.buffer.now w4.buffer.now w5.buffer.now
          w2.at w3.at w4.at w5.at last_is left-is (boxed.put room)
          (dash.put (omega (arith, boxed.same_length))) ranged (omega (arith, ranged.next_is, range.short)) fated
          (omega (arith, fated.next_is, fate.short)) (words.put (omega (arith, boxed.same_length, dash.same_length, range.same_length, fate.same_length)));
    }
