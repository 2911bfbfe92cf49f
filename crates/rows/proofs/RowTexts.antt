-- The texts of an item's columns, put piece behind piece, and its rows.
use Prim.Native.Nat.{ℕ, ◌+◌, ◌-◌, ◌≤◌}
use borrow.Author.Tests.{eq-eqb, ne_eqb}
use lib.Dec.{eqb}
use lib.ListN.{length}
use lib.Seq.{sets, length-sets}
use mathlib.Core.List.{List, ◌++◌}
use mathlib.Core.Path.{◌≡◌, ◌∙◌}
use native.Mathlib.Omega.{arith}
use Rattle.frame.proofs.Picks.{by_test, pick_true, pick_false}
use Rattle.frame.specs.Putting.{Put}
use Rattle.naming.specs.Commands.{command_text}
use Rattle.naming.specs.Errors.{error_text}
use Rattle.reader.specs.declared.tally.Tally.{Tally}
use Rattle.text.proofs.Writing.{more_room}
use Rattle.rows.proofs.Layers.{length_boxed, blank_long, blank_least, blank_most, Based, lay, number}
use Rattle.rows.proofs.Reasons.{some_one, length_reasons, Short, reasons_put}
use Rattle.rows.specs.Columns.{boxed_row, blank_rows, number_place, numbered}
use Rattle.rows.specs.Rows.{range_text, bytes_text, reasons_in, with_reasons, dropped_in, error_row, drop_rows, item_rows, waiting_row}
use Rattle.rows.specs.declared.items.Item.{Item}
use Rattle.tag.specs.declared.commands.Parsed.{Parsed}
use Rattle.text.proofs.Laying.{within_put}
use Rattle.text.specs.Digits.{decimal}
use Rattle.text.specs.Laying.{LaidWithin}
use Rattle.text.specs.Words.{ascii}
use Rattle.text.specs.Writing.{Puts}
use Rattle.text.specs.declared.writer.Writer.{Writer}

-- ---- the texts of the columns

pub range_one : (first last : ℕ) {before after : Writer} → first ≡ last → Puts 20 (decimal first) before after → Puts 41 (range_text first last) before after
unfolding range_text
range_one first last same digits = more_room {most = 20} 41 (omega arith) (rw (eq-eqb first last same, pick_true) digits)

pub range_two : (first last : ℕ) {before after : Writer} → (first ≡ last → ⊥) → Puts 41 (decimal first ++ ascii "-" ++ decimal last) before after
    → Puts 41 (range_text first last) before after
unfolding range_text
range_two first last other both = rw (ne_eqb first last other, pick_false) both

-- ---- the rows of an item

length_numbered : (n : ℕ) (rows : List ℕ) → length (numbered n rows) ≡ length rows
unfolding numbered
length_numbered n rows = length-sets rows (number_place n) (decimal n)

-- texts laid over rows leave them as long as they are
pub same_rows : (n : ℕ) (range command rows : List ℕ) → length (sets (sets (numbered n rows) 7 range) 20 command) ≡ length rows
same_rows n range command rows =
    length-sets (sets (numbered n rows) 7 range) 20 command ∙ length-sets (numbered n rows) 7 range ∙ length_numbered n rows

few : (t : Tally) → reasons_in t ≤ 5
unfolding reasons_in
few t = omega (arith, some_one t.kind, some_one t.long, some_one t.check, some_one t.end, some_one t.header)

pub length_drops : (n first last : ℕ) (t : Tally) → length (drop_rows n first last t) ≤ 300
unfolding drop_rows
length_drops n first last t =
    let fate : List ℕ = bytes_text (dropped_in t) ++ ascii " dropped" in
    let rows : List ℕ = blank_rows (reasons_in t) in
    let same = length_reasons 0 t (sets (sets (numbered n rows) 7 (range_text first last)) 20 fate) in
    omega (arith, same, same_rows n (range_text first last) fate rows, blank_most (reasons_in t))

pub length_error : (n first code error : ℕ) (parsed : Parsed) → length (error_row n first code parsed error) ≤ 100
unfolding error_row
length_error n first code error parsed =
    let same = length-sets (sets (sets (numbered n boxed_row) 7 (decimal first)) 20 (command_text code parsed)) 50 (error_text error) in
    omega (arith, same, same_rows n (decimal first) (command_text code parsed) boxed_row, length_boxed)

pub item_short : (n : ℕ) (item : Item) (code : ℕ) (parsed : Parsed) → length (item_rows n item code parsed) ≤ 300
unfolding item_rows
item_short n item code parsed =
    by_test (λ (rows : List ℕ). length rows ≤ 300) (eqb item.error 0) (λ _. length_drops n item.first item.last item.drops)
    (λ _. omega (arith, length_error n item.first code item.error parsed))

module _ (n : ℕ) (item : Item) (code : ℕ) (parsed : Parsed) {before after : Writer} where
  pub drops_item : item.error ≡ 0 → Puts 300 (drop_rows n item.first item.last item.drops) before after → Puts 300 (item_rows n item code parsed) before after
  unfolding item_rows
  drops_item none put = rw (eq-eqb item.error 0 none, pick_true) put

  pub error_item : (item.error ≡ 0 → ⊥) → Puts 100 (error_row n item.first code parsed item.error) before after
      → Puts 300 (item_rows n item code parsed) before after
  unfolding item_rows
  error_item some put = more_room {most = 100} 300 (omega arith) (rw (ne_eqb item.error 0 some, pick_false) put)

-- ---- what waits

pub waiting_short : (first behind : ℕ) → length (waiting_row first behind) ≤ 100
unfolding waiting_row
waiting_short first behind =
    let dashed : List ℕ = sets boxed_row 3 (ascii "-") in
    let ranged : List ℕ = sets dashed 7 (range_text first (behind - 1)) in
    let fated : List ℕ = sets ranged 20 (bytes_text (behind - first) ++ ascii " waiting") in
    let words = length-sets fated 50 (ascii "not a whole frame") in
    let fate = length-sets ranged 20 (bytes_text (behind - first) ++ ascii " waiting") in
    omega (arith, words, fate, length-sets dashed 7 (range_text first (behind - 1)), length-sets boxed_row 3 (ascii "-"), length_boxed)

module _ (at : ℕ) (before : List ℕ) (next : ℕ) where
  pub boxed_base : (after : List ℕ) → Put boxed_row at before after next → Based boxed_row at before after next
  boxed_base after put = record { put = put; long = omega (arith, length_boxed) }

  pub blank_base : (reasons : ℕ) (after : List ℕ) → Put (blank_rows reasons) at before after next → Based (blank_rows reasons) at before after next
  blank_base reasons after put = record { put = put; long = blank_least reasons }

  pub error_row_lem : (n first code error : ℕ) (parsed : Parsed) (b1 b2 b3 b4 b5 : List ℕ) (r3 r4 r5 : ℕ) → Put boxed_row at before b1 next
      → length (decimal n) ≤ 20 → b2 ≡ sets b1 (at + number_place n) (decimal n)
      → length (decimal first) ≤ 20 → Put (decimal first) (at + 7) b2 b3 r3
      → at + 79 ≤ length b3 → LaidWithin 59 (command_text code parsed) (at + 20) b3 b4 r4
      → at + 86 ≤ length b4 → LaidWithin 36 (error_text error) (at + 50) b4 b5 r5
      → Put (error_row n first code parsed error) at before b5 next
  unfolding error_row
  error_row_lem n first code error parsed b1 b2 b3 b4 b5 r3 r4 r5 boxed n-short numbers first_short range command-room command error-room result =
      let base = number at before next boxed_row b1 b2 n (boxed_base b1 boxed) n-short numbers in
      let ranged = lay at before next _ b2 b3 7 (decimal first) base (omega arith) range.output_is in
      let name = within_put 59 (command_text code parsed) (at + 20) b3 b4 r4 (omega arith) command in
      let words = within_put 36 (error_text error) (at + 50) b4 b5 r5 (omega arith) result in
      let named = lay at before next _ b3 b4 20 (command_text code parsed) ranged (omega (arith, command.short)) name.output_is in
      (lay at before next _ b4 b5 50 (error_text error) named (omega (arith, result.short)) words.output_is).put

  pub drop_rows_lem : (n first last reasons dropped : ℕ) (t : Tally) (b1 b2 b3 b4 b5 : List ℕ) (r3 r4 : ℕ) → Short t → reasons ≡ reasons_in t → dropped ≡ dropped_in t
      → Put (blank_rows reasons) at before b1 next
      → length (decimal n) ≤ 20 → b2 ≡ sets b1 (at + number_place n) (decimal n)
      → Put (range_text first last) (at + 7) b2 b3 r3 → r3 ≤ at + 7 + 41
      → Put (bytes_text dropped ++ ascii " dropped") (at + 20) b3 b4 r4 → r4 ≤ at + 20 + 34
      → b5 ≡ with_reasons at t b4
      → Put (drop_rows n first last t) at before b5 next
  unfolding drop_rows
  drop_rows_lem n first last reasons dropped t b1 b2 b3 b4 b5 r3 r4 short shown all blank n-short numbers range range_short fate fate_short cells =
      let base = number at before next _ b1 b2 n (blank_base reasons b1 blank) n-short numbers in
      let ranged = lay at before next _ b2 b3 7 (range_text first last) base (omega (arith, range.next_is)) range.output_is in
      let fated = lay at before next _ b3 b4 20 (bytes_text dropped ++ ascii " dropped") ranged (omega (arith, fate.next_is)) fate.output_is in
      let rows : List ℕ = sets (sets (numbered n (blank_rows reasons)) 7 (range_text first last)) 20 (bytes_text dropped ++ ascii " dropped") in
      let long : length rows ≡ length (blank_rows reasons) = same_rows n (range_text first last) (bytes_text dropped ++ ascii " dropped") (blank_rows reasons) in
      rw (cells, ← shown, ← all)
      (reasons_put at before next t short rows b4 fated.put (λ k less. omega (arith, long, shown, blank_long k reasons (omega arith) (omega (arith, few t)))))

  pub waiting_row_lem : (first behind last left : ℕ) (b1 b2 b3 b4 b5 : List ℕ) (r2 r3 r4 r5 : ℕ) → last ≡ behind - 1 → left ≡ behind - first
      → Put boxed_row at before b1 next
      → Put (ascii "-") (at + 3) b1 b2 r2
      → Put (range_text first last) (at + 7) b2 b3 r3 → r3 ≤ at + 7 + 41
      → Put (bytes_text left ++ ascii " waiting") (at + 20) b3 b4 r4 → r4 ≤ at + 20 + 34
      → Put (ascii "not a whole frame") (at + 50) b4 b5 r5
      → Put (waiting_row first behind) at before b5 next
  unfolding waiting_row
  waiting_row_lem first behind last left b1 b2 b3 b4 b5 r2 r3 r4 r5 last_is left_is boxed dash range range_short fate fate_short words =
      let dashed = lay at before next boxed_row b1 b2 3 (ascii "-") (boxed_base b1 boxed) (omega arith) dash.output_is in
      let ranged = lay at before next _ b2 b3 7 (range_text first last) dashed (omega (arith, range.next_is)) range.output_is in
      let fated = lay at before next _ b3 b4 20 (bytes_text left ++ ascii " waiting") ranged (omega (arith, fate.next_is)) fate.output_is in
      rw (← last_is, ← left_is) (lay at before next _ b4 b5 50 (ascii "not a whole frame") fated (omega arith) words.output_is).put
