-- What stands in each column of a row: a text that is laid over it stands there whole, and those laid behind it leave it.
use Prim.Native.Nat.{ℕ, ◌+◌, ◌-◌, ◌≤◌, ◌<◌}
use borrow.Author.Tests.{eq-eqb, ne_eqb}
use lib.Dec.{eqb, leb}
use lib.ListN.{length}
use lib.Seq.{sets, length-sets}
use mathlib.Core.List.{List, ◌++◌}
use mathlib.Core.Path.{◌≡◌, refl, ◌∙◌}
use native.Mathlib.Omega.{arith}
use Rattle.frame.proofs.Picks.{by_test, pick_true, pick_false}
use Rattle.frame.proofs.Stores.{part_sets, part_sets_before}
use Rattle.frame.specs.Bytes.{pick, part}
use Rattle.naming.proofs.Claimed.{columns_apart as words-apart}
use Rattle.naming.specs.Commands.{command_text}
use Rattle.naming.specs.Errors.{error_text}
use Rattle.reader.specs.declared.tally.Tally.{Tally}
use Rattle.rows.proofs.Fits.{columns_apart}
use Rattle.rows.proofs.Layers.{length_boxed, length_two, length_three}
use Rattle.rows.proofs.RowTexts.{same_rows}
use Rattle.rows.specs.Claims.{Stands, ItemRows, Texts, ErrorColumns, DropColumns, WaitingColumns, InColumns}
use Rattle.rows.specs.Columns.{boxed_row, blank_rows, number_place, numbered}
use Rattle.rows.specs.Rows.{range_text, bytes_text, error_row, reasons_in, cell_place, cell_text, with_cell, with_reasons, dropped_in, drop_rows, item_rows, waiting_row}
use Rattle.rows.specs.declared.items.Item.{Item}
use Rattle.tag.specs.declared.commands.Parsed.{Parsed}
use Rattle.text.specs.Digits.{width_by, width, digits, decimal}
use Rattle.text.specs.Words.{ascii}

pub item_rows_lem : (n : ℕ) (item : Item) (code : ℕ) (parsed : Parsed) → ItemRows n item code parsed
unfolding item_rows
item_rows_lem n item code parsed =
    record {
      drops = λ none. rw (eq-eqb item.error 0 none, pick_true);
      answer = λ some. rw (ne_eqb item.error 0 some, pick_false);
    }

pub texts : Texts
unfolding range_text bytes_text cell_text pick decimal digits width width_by
texts =
    record {
      one_place = λ first. rw (eq-eqb first first refl);
      more_places = λ first last other. rw (ne_eqb first last other);
      one_byte = refl;
      more_bytes = λ n other. rw (ne_eqb n 1 other);
      reason = λ n word. refl;
    }

-- ---- a row with a number, a place and a command

module _ (row : List ℕ) (long : 100 ≤ length row) (n : ℕ) (place command : List ℕ) (number_short : length (decimal n) ≤ 4) (place_short : length place ≤ 12) (command_short : length command ≤ 29) where
  abbrev Laid : List ℕ
  Laid = sets (sets (numbered n row) 7 place) 20 command

  number_there : Stands (decimal n) (4 - length (decimal n)) Laid
  unfolding numbered number_place
  number_there =
      part_sets_before _ 20 command (4 - length (decimal n)) (length (decimal n)) (omega arith)
      ∙ part_sets_before _ 7 place (4 - length (decimal n)) (length (decimal n)) (omega arith)
      ∙ part_sets row (4 - length (decimal n)) (decimal n) (omega arith)

  place_there : Stands place 7 Laid
  unfolding numbered number_place
  place_there =
      part_sets_before _ 20 command 7 (length place) (omega arith)
      ∙ part_sets (sets row (4 - length (decimal n)) (decimal n)) 7 place (omega (arith, length-sets row (4 - length (decimal n)) (decimal n)))

  command_there : Stands command 20 Laid
  unfolding numbered number_place
  command_there =
      part_sets (sets (sets row (4 - length (decimal n)) (decimal n)) 7 place) 20 command
      (omega (arith, length-sets (sets row (4 - length (decimal n)) (decimal n)) 7 place, length-sets row (4 - length (decimal n)) (decimal n)))

-- ---- an error answer

error_columns : (n first code e : ℕ) (parsed : Parsed) → n < 10000 → first < 32768 → length (command_text code parsed) ≤ 29 → ErrorColumns n first code e parsed
unfolding error_row
error_columns n first code e parsed few near short =
    let number_short = columns_apart.number n few in
    let place_short = columns_apart.position first near in
    let long : 100 ≤ length boxed_row = omega (arith, length_boxed) in
    let result-short = words-apart.error e in
    let row : List ℕ = sets (sets (numbered n boxed_row) 7 (decimal first)) 20 (command_text code parsed) in
    let whole : length row ≡ 100 = same_rows n (decimal first) (command_text code parsed) boxed_row ∙ length_boxed in
    record {
      number = part_sets_before row 50 (error_text e) (4 - length (decimal n)) (length (decimal n)) (omega arith)
          ∙ number_there boxed_row long n (decimal first) (command_text code parsed) number_short place_short short;
      place = part_sets_before row 50 (error_text e) 7 (length (decimal first)) (omega arith)
          ∙ place_there boxed_row long n (decimal first) (command_text code parsed) number_short place_short short;
      command = part_sets_before row 50 (error_text e) 20 (length (command_text code parsed)) (omega arith)
          ∙ command_there boxed_row long n (decimal first) (command_text code parsed) number_short place_short short;
      result = part_sets row 50 (error_text e) (omega arith);
    }

-- ---- dropped bytes: reasons begin with column 50, or in a later row

cell_leaves : (shown n : ℕ) (word bytes : List ℕ) (j m : ℕ) → j + m ≤ 50 → part (with_cell 0 shown n word bytes) j m ≡ part bytes j m
unfolding with_cell cell_place
cell_leaves shown n word bytes j m before =
    by_test (λ (l : List ℕ). part l j m ≡ part bytes j m) (eqb n 0) (λ none. refl) (λ some. part_sets_before bytes _ (cell_text n word) j m (omega arith))

reasons_leave : (t : Tally) (bytes : List ℕ) (j m : ℕ) → j + m ≤ 50 → part (with_reasons 0 t bytes) j m ≡ part bytes j m
unfolding with_reasons
reasons_leave t bytes j m before =
    cell_leaves _ t.header _ _ j m before
    ∙ cell_leaves _ t.end _ _ j m before
    ∙ cell_leaves _ t.check _ _ j m before
    ∙ cell_leaves _ t.long _ _ j m before
    ∙ cell_leaves _ t.kind _ _ j m before

one_row : (reasons : ℕ) → 100 ≤ length (blank_rows reasons)
unfolding blank_rows
one_row reasons =
    by_test (λ (rows : List ℕ). 100 ≤ length rows) (leb reasons 2) (λ few. omega (arith, length_boxed))
    (λ more. by_test (λ (rows : List ℕ). 100 ≤ length rows) (leb reasons 4) (λ some. omega (arith, length_two)) (λ many. omega (arith, length_three)))

drop_columns : (n first last : ℕ) (t : Tally) → n < 10000 → first < 32768 → last < 32768 → dropped_in t < 32769 → DropColumns n first last t
unfolding drop_rows
drop_columns n first last t few from to some =
    let fate : List ℕ = bytes_text (dropped_in t) ++ ascii " dropped" in
    let blank : List ℕ = blank_rows (reasons_in t) in
    let number_short = columns_apart.number n few in
    let place_short = columns_apart.range first last from to in
    let fate_short = columns_apart.dropped (dropped_in t) some in
    let long : 100 ≤ length blank = one_row (reasons_in t) in
    let row : List ℕ = sets (sets (numbered n blank) 7 (range_text first last)) 20 fate in
    record {
      number = reasons_leave t row (4 - length (decimal n)) (length (decimal n)) (omega arith) ∙ number_there blank long n (range_text first last) fate number_short place_short fate_short;
      place = reasons_leave t row 7 (length (range_text first last)) (omega arith) ∙ place_there blank long n (range_text first last) fate number_short place_short fate_short;
      dropped = reasons_leave t row 20 (length fate) (omega arith) ∙ command_there blank long n (range_text first last) fate number_short place_short fate_short;
    }

-- ---- what waits

waiting_columns : (first behind : ℕ) → first < 32768 → behind ≤ 32768 → WaitingColumns first behind
unfolding waiting_row
waiting_columns first behind from to =
    let place : List ℕ = range_text first (behind - 1) in
    let fate : List ℕ = bytes_text (behind - first) ++ ascii " waiting" in
    let place_short = columns_apart.range first (behind - 1) from (omega arith) in
    let fate_short = columns_apart.waiting (behind - first) (omega arith) in
    let none : List ℕ = sets boxed_row 3 (ascii "-") in
    let size : length none ≡ 100 = length-sets boxed_row 3 (ascii "-") ∙ length_boxed in
    record {
      place = part_sets_before _ 50 (ascii "not a whole frame") 7 (length place) (omega arith)
          ∙ part_sets_before (sets none 7 place) 20 fate 7 (length place) (omega arith)
          ∙ part_sets none 7 place (omega arith);
      waits = part_sets_before _ 50 (ascii "not a whole frame") 20 (length fate) (omega arith)
          ∙ part_sets (sets none 7 place) 20 fate (omega (arith, length-sets none 7 place));
    }

pub in_columns : InColumns
in_columns = record { error = error_columns; drops = drop_columns; waiting = waiting_columns }
