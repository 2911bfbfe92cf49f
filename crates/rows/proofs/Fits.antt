-- How long rows are, and how long the text of a column is at most.
use Prim.Native.Nat.{ℕ, zero, suc, ◌≤◌, ◌<◌}
use borrow.Author.Tests.{le-leb, lt-leb}
use lib.Dec.{eqb}
use lib.ListN.{length, length-append}
use lib.Seq.{sets, length-sets}
use mathlib.Core.List.{List, ◌++◌}
use mathlib.Core.Path.{◌≡◌, refl, sym, ◌∙◌}
use native.Mathlib.Omega.{arith}
use Rattle.frame.proofs.Picks.{by_test, pick_true, pick_false}
use Rattle.frame.specs.Bytes.{pick}
use Rattle.naming.proofs.Widths.{decimal_most}
use Rattle.naming.specs.Commands.{command_text}
use Rattle.naming.specs.Errors.{error_text}
use Rattle.reader.specs.declared.tally.Tally.{Tally}
use Rattle.rows.proofs.Layers.{length_boxed, length_two, length_three}
use Rattle.rows.proofs.Reasons.{some_shown, length_reasons}
use Rattle.rows.proofs.RowTexts.{same_rows}
use Rattle.rows.specs.Claims.{one, reasons, RowsFit, ColumnsApart}
use Rattle.rows.specs.Columns.{boxed_row, blank_rows, numbered}
use Rattle.rows.specs.Rows.{range_text, bytes_text, is_some, reasons_in, cell_text, dropped_in, error_row, drop_rows, waiting_row}
use Rattle.tag.specs.declared.commands.Parsed.{Parsed}
use Rattle.text.specs.Digits.{decimal}
use Rattle.text.specs.Words.{ascii}

-- ---- rows

some_is : (n : ℕ) → is_some n ≡ one n
unfolding is_some pick
some_is zero = refl
some_is (suc n) = sym (some_shown (suc n) (λ e. omega arith))

reasons_are : (t : Tally) → reasons_in t ≡ reasons t
unfolding reasons_in
reasons_are t = omega (arith, some_is t.kind, some_is t.long, some_is t.check, some_is t.end, some_is t.header)

blank_one : (n : ℕ) → n ≤ 2 → length (blank_rows n) ≡ 100
unfolding blank_rows
blank_one n few = rw (le-leb n 2 few, pick_true) length_boxed

blank_two : (n : ℕ) → 2 < n → n ≤ 4 → length (blank_rows n) ≡ 200
unfolding blank_rows
blank_two n some few = rw (lt-leb n 2 some, pick_false, le-leb n 4 few, pick_true) length_two

blank_three : (n : ℕ) → 4 < n → length (blank_rows n) ≡ 300
unfolding blank_rows
blank_three n many = rw (lt-leb n 2 (omega arith), pick_false, lt-leb n 4 many, pick_false) length_three

-- what is laid over rows leaves them as long as they are
drops_long : (n first last : ℕ) (t : Tally) → length (drop_rows n first last t) ≡ length (blank_rows (reasons_in t))
unfolding drop_rows
drops_long n first last t =
    let fate : List ℕ = bytes_text (dropped_in t) ++ ascii " dropped" in
    let rows : List ℕ = blank_rows (reasons_in t) in
    length_reasons 0 t (sets (sets (numbered n rows) 7 (range_text first last)) 20 fate) ∙ same_rows n (range_text first last) fate rows

error_long : (n first code e : ℕ) (parsed : Parsed) → length (error_row n first code parsed e) ≡ 100
unfolding error_row
error_long n first code e parsed =
    length-sets (sets (sets (numbered n boxed_row) 7 (decimal first)) 20 (command_text code parsed)) 50 (error_text e)
    ∙ same_rows n (decimal first) (command_text code parsed) boxed_row
    ∙ length_boxed

waiting_long : (first behind : ℕ) → length (waiting_row first behind) ≡ 100
unfolding waiting_row
waiting_long first behind = simp length-sets length_boxed

pub rows_fit : RowsFit
rows_fit =
    record {
      error = error_long;
      waiting = waiting_long;
      two_reasons = λ n first last t few. drops_long n first last t ∙ blank_one (reasons_in t) (omega (arith, reasons_are t));
      four_reasons = λ n first last t some few.
          drops_long n first last t ∙ blank_two (reasons_in t) (omega (arith, reasons_are t)) (omega (arith, reasons_are t));
      five_reasons = λ n first last t many. drops_long n first last t ∙ blank_three (reasons_in t) (omega (arith, reasons_are t));
    }

-- ---- columns

range_short : (first last : ℕ) → first < 32768 → last < 32768 → length (range_text first last) ≤ 12
unfolding range_text
range_short first last h k =
    let from : length (decimal first) ≤ 5 = decimal_most 4 first (omega arith) in
    let to : length (decimal last) ≤ 5 = decimal_most 4 last (omega arith) in
    by_test (λ (text : List ℕ). length text ≤ 12) (eqb first last) (λ _. omega arith)
    (λ _. simp length-append (omega arith))

-- `dropped` and `waiting` are as long
fate_short : (n : ℕ) (fate : List ℕ) → n < 32769 → length fate ≤ 8 → length (bytes_text n ++ fate) ≤ 29
unfolding bytes_text
fate_short n fate h few =
    let word : length (pick (eqb n 1) (ascii " byte") (ascii " bytes")) ≤ 6 =
    by_test (λ (text : List ℕ). length text ≤ 6) (eqb n 1) (λ _. omega arith) (λ _. omega arith)
    in
    simp length-append (omega (arith, decimal_most 4 n (omega arith), word))

reason_short : (n : ℕ) (word : List ℕ) → n < 32769 → length word ≤ 11 → length (cell_text n word) ≤ 17
unfolding cell_text
reason_short n word h few = simp length-append (omega (arith, decimal_most 4 n (omega arith)))

pub columns_apart : ColumnsApart
columns_apart =
    record {
      number = decimal_most 3;
      position = λ first h. omega (arith, decimal_most 4 first (omega arith));
      range = range_short;
      dropped = λ n h. fate_short n (ascii " dropped") h (omega arith);
      waiting = λ n h. fate_short n (ascii " waiting") h (omega arith);
      reason = reason_short;
    }
