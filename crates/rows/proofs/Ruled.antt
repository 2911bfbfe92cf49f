-- Rows keep their newlines, and get no others: each text is laid over the columns before the newline.
use Prim.Native.Nat.{ℕ, zero, suc, ◌+◌, ◌-◌, ◌*◌, ◌/◌, ◌%◌, ◌≤◌, ◌<◌}
use borrow.Author.Tests.{ne_eqb}
use lib.Dec.{eqb, leb}
use lib.ListN.{length, set}
use lib.Seq.{sets}
use mathlib.Core.Bool.{Bool, true, ◌&&◌}
use mathlib.Core.List.{List, [], ◌∷◌, ◌++◌}
use mathlib.Core.Path.{◌≡◌, refl}
use native.Mathlib.Omega.{arith}
use Rattle.frame.proofs.Picks.{by_test, pick_false}
use Rattle.frame.proofs.Tests.{and_left, and_right, and_both}
use Rattle.frame.specs.Bytes.{pick}
use Rattle.naming.proofs.Printed.{is_printed, decimal_printed, command_printed, error_printed}
use Rattle.naming.proofs.Widths.{error_short}
use Rattle.naming.specs.Claims.{printed}
use Rattle.naming.specs.Commands.{command_text}
use Rattle.naming.specs.Errors.{error_text}
use Rattle.reader.specs.declared.tally.Tally.{Tally}
use Rattle.rows.proofs.Fits.{columns_apart}
use Rattle.rows.proofs.Printed.{range_printed, cell_printed, fate_printed}
use Rattle.rows.specs.Claims.{ruled, RowsRuled}
use Rattle.rows.specs.Columns.{boxed_row, plain_row, number_place, numbered, blank_rows}
use Rattle.rows.specs.Rows.{range_text, bytes_text, reasons_in, cell_place, cell_text, with_cell, with_reasons, dropped_in, error_row, drop_rows, waiting_row}
use Rattle.tag.specs.declared.commands.Parsed.{Parsed}
use Rattle.text.specs.Digits.{decimal}
use Rattle.text.specs.Laying.{spaces}
use Rattle.text.specs.Words.{ascii}

abbrev fitting : ℕ → ℕ → Bool
fitting at b = pick (eqb (at % 100) 99) (eqb b 10) (leb 32 b && leb b 126)

fits : (at v : ℕ) → at % 100 < 99 → is_printed v ≡ true → fitting at v ≡ true
fits at v before p = rw (ne_eqb (at % 100) 99 (λ e. omega arith), pick_false) p

set_ruled : (at : ℕ) (l : List ℕ) (i v : ℕ) → (at + i) % 100 < 99 → is_printed v ≡ true → ruled at l ≡ true → ruled at (set l i v) ≡ true
set_ruled at [] i v before p q = refl
set_ruled at (x ∷ l) zero v before p q =
    and_both (fitting at v) (ruled (suc at) l) (fits at v (omega arith) p) (and_right (fitting at x) (ruled (suc at) l) q)
set_ruled at (x ∷ l) (suc i) v before p q =
    and_both (fitting at x) (ruled (suc at) (set l i v)) (and_left (fitting at x) (ruled (suc at) l) q)
    (set_ruled (suc at) l i v (omega arith) p (and_right (fitting at x) (ruled (suc at) l) q))

over : (l : List ℕ) (i : ℕ) (vs : List ℕ) → i % 100 + length vs ≤ 99 → printed vs ≡ true → ruled 0 l ≡ true → ruled 0 (sets l i vs) ≡ true
over l i [] before p q = q
over l i (v ∷ vs) before p q =
    over (set l i v) (suc i) vs (omega arith) (and_right (is_printed v) (printed vs) p)
    (set_ruled 0 l i v (omega arith) (and_left (is_printed v) (printed vs) p) q)

-- ---- rows

boxed_ruled : ruled 0 boxed_row ≡ true
unfolding boxed_row spaces pick
boxed_ruled = refl

blank_ruled : (reasons : ℕ) → ruled 0 (blank_rows reasons) ≡ true
unfolding blank_rows boxed_row plain_row spaces pick
blank_ruled reasons =
    by_test (λ (rows : List ℕ). ruled 0 rows ≡ true) (leb reasons _) (λ _. refl)
    (λ _. by_test (λ (rows : List ℕ). ruled 0 rows ≡ true) (leb reasons _) (λ _. refl) (λ _. refl))

numbered_ruled : (n : ℕ) (row : List ℕ) → n < 10000 → ruled 0 row ≡ true → ruled 0 (numbered n row) ≡ true
unfolding numbered number_place
numbered_ruled n row h = over row (number_place n) (decimal n) (omega (arith, columns_apart.number n h)) (decimal_printed n)

error_ruled : (n first code e : ℕ) (parsed : Parsed) → n < 10000 → first < 32768 → code < 256 → e < 256 → length (command_text code parsed) ≤ 29
    → ruled 0 (error_row n first code parsed e) ≡ true
unfolding error_row
error_ruled n first code e parsed few low byte small short =
    let ranged : List ℕ = sets (numbered n boxed_row) 7 (decimal first) in
    over (sets ranged 20 (command_text code parsed)) 50 (error_text e) (omega (arith, error_short e)) (error_printed e small)
    (over ranged 20 (command_text code parsed) (omega arith) (command_printed code parsed byte)
    (over (numbered n boxed_row) 7 (decimal first) (omega (arith, columns_apart.position first low)) (decimal_printed first)
    (numbered_ruled n boxed_row few boxed_ruled)))

-- a reason begins in column 50 or 68
place_in_row : (k r : ℕ) → r < 2 → (0 + (100 * k + 50 + 18 * r)) % 100 ≤ 68
place_in_row k zero h = omega arith
place_in_row k (suc zero) h = omega arith
place_in_row k (suc (suc r)) h = absurd (omega arith)

cell_ruled : (shown n : ℕ) (word rows : List ℕ) → n < 32769 → length word ≤ 11 → printed word ≡ true → ruled 0 rows ≡ true
    → ruled 0 (with_cell 0 shown n word rows) ≡ true
unfolding with_cell cell_place
cell_ruled shown n word rows h letters p q =
    by_test (λ (l : List ℕ). ruled 0 l ≡ true) (eqb n 0) (λ _. q)
    (λ _. over rows (0 + cell_place shown) (cell_text n word) (omega (arith, place_in_row (shown / 2) (shown % 2) (omega arith), columns_apart.reason n word h letters)) (cell_printed n word p) q)

reasons_ruled : (t : Tally) (rows : List ℕ) → dropped_in t < 32769 → ruled 0 rows ≡ true → ruled 0 (with_reasons 0 t rows) ≡ true
unfolding with_reasons dropped_in
reasons_ruled t rows h q =
    cell_ruled _ _ _ _ (omega arith) (omega arith) refl
    (cell_ruled _ _ _ _ (omega arith) (omega arith) refl
    (cell_ruled _ _ _ _ (omega arith) (omega arith) refl
    (cell_ruled _ _ _ _ (omega arith) (omega arith) refl (cell_ruled _ _ _ rows (omega arith) (omega arith) refl q))))

drops_ruled : (n first last : ℕ) (t : Tally) → n < 10000 → first < 32768 → last < 32768 → dropped_in t < 32769 → ruled 0 (drop_rows n first last t) ≡ true
unfolding drop_rows
drops_ruled n first last t few low high some =
    let fate : List ℕ = bytes_text (dropped_in t) ++ ascii " dropped" in
    let base : List ℕ = numbered n (blank_rows (reasons_in t)) in
    let ranged : List ℕ = sets base 7 (range_text first last) in
    reasons_ruled t (sets ranged 20 fate) some
    (over ranged 20 fate (omega (arith, columns_apart.dropped (dropped_in t) some)) (fate_printed (dropped_in t) _ refl)
    (over base 7 (range_text first last) (omega (arith, columns_apart.range first last low high)) (range_printed first last)
    (numbered_ruled n (blank_rows (reasons_in t)) few (blank_ruled (reasons_in t)))))

waiting_ruled : (first end : ℕ) → first < 32768 → end ≤ 32768 → ruled 0 (waiting_row first end) ≡ true
unfolding waiting_row
waiting_ruled first end low high =
    let range : List ℕ = range_text first (end - 1) in
    let fate : List ℕ = bytes_text (end - first) ++ ascii " waiting" in
    let dashed : List ℕ = sets boxed_row 3 (ascii "-") in
    let ranged : List ℕ = sets dashed 7 range in
    over (sets ranged 20 fate) 50 (ascii "not a whole frame") (omega arith) refl
    (over ranged 20 fate (omega (arith, columns_apart.waiting (end - first) (omega arith))) (fate_printed (end - first) _ refl)
    (over dashed 7 range (omega (arith, columns_apart.range first (end - 1) low (omega arith))) (range_printed first (end - 1))
    (over boxed_row 3 (ascii "-") (omega arith) refl boxed_ruled)))

pub rows_ruled : RowsRuled
rows_ruled = record { error = error_ruled; drops = drops_ruled; waiting = waiting_ruled }
