-- The boxes of a row stay: each text ends before them, or stands in a later row.
use Prim.Native.Nat.{ℕ, suc, ◌+◌, ◌-◌, ◌≤◌, ◌<◌}
use borrow.Author.Tests.{ltb-true, ltb-false}
use lib.Dec.{eqb, leb, ltb}
use lib.ListN.{length, set}
use lib.Seq.{sets, get_or-set_other}
use mathlib.Core.List.{List, [], ◌∷◌, ◌++◌}
use mathlib.Core.Path.{◌≡◌, refl, ◌∙◌}
use native.Mathlib.Omega.{arith}
use Rattle.frame.proofs.Picks.{by_test}
use Rattle.frame.proofs.Tests.{either}
use Rattle.frame.specs.Bytes.{byte}
use Rattle.naming.proofs.Widths.{error_short}
use Rattle.naming.specs.Commands.{command_text}
use Rattle.naming.specs.Errors.{error_text}
use Rattle.reader.specs.declared.tally.Tally.{Tally}
use Rattle.rows.proofs.Fits.{columns_apart}
use Rattle.rows.specs.Claims.{boxes, BoxesStay}
use Rattle.rows.specs.Columns.{boxed_row, plain_row, number_place, numbered, blank_rows}
use Rattle.rows.specs.Rows.{range_text, bytes_text, reasons_in, cell_place, cell_text, with_cell, with_reasons, dropped_in, error_row, drop_rows, waiting_row}
use Rattle.tag.specs.declared.commands.Parsed.{Parsed}
use Rattle.text.specs.Digits.{decimal}
use Rattle.text.specs.Laying.{spaces}
use Rattle.text.specs.Words.{ascii}

-- a byte behind a text that is laid, and one before it
behind_it : (l : List ℕ) (i : ℕ) (vs : List ℕ) (k : ℕ) → i + length vs ≤ k → byte (sets l i vs) k ≡ byte l k
unfolding byte
behind_it l i [] k h = refl
behind_it l i (v ∷ vs) k h = behind_it (set l i v) (suc i) vs k (omega arith) ∙ get_or-set_other l i k v 0 (λ e. omega arith)

before_it : (l : List ℕ) (i : ℕ) (vs : List ℕ) (k : ℕ) → k < i → byte (sets l i vs) k ≡ byte l k
unfolding byte
before_it l i [] k h = refl
before_it l i (v ∷ vs) k h = before_it (set l i v) (suc i) vs k (omega arith) ∙ get_or-set_other l i k v 0 (λ e. omega arith)

same : (l m : List ℕ) → ((k : ℕ) → 88 ≤ k → k < 100 → byte l k ≡ byte m k) → boxes l ≡ boxes m
same l m e =
    let at : (k : ℕ) → k < 12 → byte l (88 + k) ≡ byte m (88 + k) = λ k h. e (88 + k) (omega arith) (omega arith) in
    rw (at 0 (omega arith), at 1 (omega arith), at 2 (omega arith), at 3 (omega arith), at 4 (omega arith), at 5 (omega arith), at 6 (omega arith), at 7 (omega arith), at 8 (omega arith), at 9 (omega arith), at 10 (omega arith), at 11 (omega arith))

over : (l : List ℕ) (i : ℕ) (vs : List ℕ) → i + length vs ≤ 88 → boxes (sets l i vs) ≡ boxes l
over l i vs h = same (sets l i vs) l (λ k from to. behind_it l i vs k (omega arith))

past : (l : List ℕ) (i : ℕ) (vs : List ℕ) → 100 ≤ i → boxes (sets l i vs) ≡ boxes l
past l i vs h = same (sets l i vs) l (λ k from to. before_it l i vs k (omega arith))

-- ---- rows

boxed_boxes : boxes boxed_row ≡ ascii "  [ ]   [ ]" ++ (10 ∷ [])
unfolding boxed_row spaces byte
boxed_boxes = refl

blank_boxes : (reasons : ℕ) → boxes (blank_rows reasons) ≡ ascii "  [ ]   [ ]" ++ (10 ∷ [])
unfolding blank_rows boxed_row plain_row spaces byte
blank_boxes reasons =
    by_test (λ (rows : List ℕ). boxes rows ≡ ascii "  [ ]   [ ]" ++ (10 ∷ [])) (leb reasons _) (λ _. refl)
    (λ _. by_test (λ (rows : List ℕ). boxes rows ≡ ascii "  [ ]   [ ]" ++ (10 ∷ [])) (leb reasons _) (λ _. refl) (λ _. refl))

numbered_boxes : (n : ℕ) (row : List ℕ) → n < 10000 → boxes (numbered n row) ≡ boxes row
unfolding numbered number_place
numbered_boxes n row h = over row (number_place n) (decimal n) (omega (arith, columns_apart.number n h))

error_boxes : (n first code e : ℕ) (parsed : Parsed) → n < 10000 → first < 32768 → length (command_text code parsed) ≤ 29
    → boxes (error_row n first code parsed e) ≡ ascii "  [ ]   [ ]" ++ (10 ∷ [])
unfolding error_row
error_boxes n first code e parsed few low short =
    let ranged : List ℕ = sets (numbered n boxed_row) 7 (decimal first) in
    over (sets ranged 20 (command_text code parsed)) 50 (error_text e) (omega (arith, error_short e))
    ∙ over ranged 20 (command_text code parsed) (omega arith)
    ∙ over (numbered n boxed_row) 7 (decimal first) (omega (arith, columns_apart.position first low))
    ∙ numbered_boxes n boxed_row few
    ∙ boxed_boxes

cell_boxes : (shown n : ℕ) (word rows : List ℕ) → n < 32769 → length word ≤ 11 → boxes (with_cell 0 shown n word rows) ≡ boxes rows
unfolding with_cell cell_place
cell_boxes shown n word rows h letters =
    by_test (λ (l : List ℕ). boxes l ≡ boxes rows) (eqb n 0) (λ _. refl)
    (λ _.
    either (ltb shown 2)
    (λ t. over rows (0 + cell_place shown) (cell_text n word) (omega (arith, ltb-true shown 2 t, columns_apart.reason n word h letters)))
    (λ t. past rows (0 + cell_place shown) (cell_text n word) (omega (arith, ltb-false shown 2 t))))

reasons_boxes : (t : Tally) (rows : List ℕ) → dropped_in t < 32769 → boxes (with_reasons 0 t rows) ≡ boxes rows
unfolding with_reasons dropped_in
reasons_boxes t rows h =
    cell_boxes _ _ _ _ (omega arith) (omega arith)
    ∙ cell_boxes _ _ _ _ (omega arith) (omega arith)
    ∙ cell_boxes _ _ _ _ (omega arith) (omega arith)
    ∙ cell_boxes _ _ _ _ (omega arith) (omega arith)
    ∙ cell_boxes _ _ _ rows (omega arith) (omega arith)

drops_boxes : (n first last : ℕ) (t : Tally) → n < 10000 → first < 32768 → last < 32768 → dropped_in t < 32769
    → boxes (drop_rows n first last t) ≡ ascii "  [ ]   [ ]" ++ (10 ∷ [])
unfolding drop_rows
drops_boxes n first last t few low high some =
    let fate : List ℕ = bytes_text (dropped_in t) ++ ascii " dropped" in
    let base : List ℕ = numbered n (blank_rows (reasons_in t)) in
    let ranged : List ℕ = sets base 7 (range_text first last) in
    reasons_boxes t (sets ranged 20 fate) some
    ∙ over ranged 20 fate (omega (arith, columns_apart.dropped (dropped_in t) some))
    ∙ over base 7 (range_text first last) (omega (arith, columns_apart.range first last low high))
    ∙ numbered_boxes n (blank_rows (reasons_in t)) few
    ∙ blank_boxes (reasons_in t)

waiting_boxes : (first end : ℕ) → first < 32768 → end ≤ 32768 → boxes (waiting_row first end) ≡ ascii "  [ ]   [ ]" ++ (10 ∷ [])
unfolding waiting_row
waiting_boxes first end low high =
    let range : List ℕ = range_text first (end - 1) in
    let fate : List ℕ = bytes_text (end - first) ++ ascii " waiting" in
    let dashed : List ℕ = sets boxed_row 3 (ascii "-") in
    let ranged : List ℕ = sets dashed 7 range in
    over (sets ranged 20 fate) 50 (ascii "not a whole frame") (omega arith)
    ∙ over ranged 20 fate (omega (arith, columns_apart.waiting (end - first) (omega arith)))
    ∙ over dashed 7 range (omega (arith, columns_apart.range first (end - 1) low (omega arith)))
    ∙ over boxed_row 3 (ascii "-") (omega arith)
    ∙ boxed_boxes

pub boxes_stay : BoxesStay
boxes_stay = record { error = error_boxes; drops = drops_boxes; waiting = waiting_boxes }
