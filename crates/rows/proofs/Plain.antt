-- Every byte of a row is plain ASCII: the blank row is, and a text laid over plain bytes leaves them plain.
use Prim.Native.Nat.{ℕ, zero, suc, ◌+◌, ◌-◌, ◌<◌}
use lib.Dec.{eqb, leb}
use lib.ListN.{set}
use lib.Seq.{sets}
use mathlib.Core.Bool.{Bool, true, ◌&&◌, ◌||◌, and_assoc}
use mathlib.Core.List.{List, [], ◌∷◌, ◌++◌}
use mathlib.Core.Path.{◌≡◌, refl, sym}
use Rattle.frame.proofs.Picks.{by_test}
use Rattle.frame.proofs.Tests.{and_left, and_right, and_both, or_second}
use Rattle.naming.proofs.Printed.{is_printed, decimal_printed, command_printed, error_printed}
use Rattle.naming.specs.Claims.{printed}
use Rattle.naming.specs.Commands.{command_text}
use Rattle.naming.specs.Errors.{error_text}
use Rattle.reader.specs.declared.tally.Tally.{Tally}
use Rattle.rows.specs.Claims.{plain, PlainText}
use Rattle.rows.specs.Columns.{boxed_row, plain_row, number_place, numbered, blank_rows}
use Rattle.rows.specs.Rows.{range_text, bytes_text, reasons_in, cell_place, cell_text, with_cell, with_reasons, dropped_in, error_row, drop_rows, item_rows, waiting_row}
use Rattle.rows.specs.declared.items.Item.{Item}
use Rattle.tag.specs.declared.commands.Parsed.{Parsed}
use Rattle.text.specs.Digits.{decimal}
use Rattle.text.specs.Laying.{spaces}
use Rattle.text.specs.Words.{ascii}
use Rattle.rows.proofs.Printed.{range_printed, cell_printed, fate_printed}

abbrev is_plain : ℕ → Bool
is_plain b = eqb b 10 || (leb 32 b && leb b 126)

joined : (a b : List ℕ) → plain (a ++ b) ≡ (plain a && plain b)
joined [] b = refl
joined (x ∷ a) b = rw (joined a b) (sym (and_assoc (is_plain x) (plain a) (plain b)))

set_plain : (l : List ℕ) (i v : ℕ) → plain l ≡ true → is_printed v ≡ true → plain (set l i v) ≡ true
set_plain [] i v p q = refl
set_plain (x ∷ l) zero v p q = and_both (is_plain v) (plain l) (or_second (eqb v 10) (is_printed v) q) (and_right (is_plain x) (plain l) p)
set_plain (x ∷ l) (suc i) v p q =
    and_both (is_plain x) (plain (set l i v)) (and_left (is_plain x) (plain l) p) (set_plain l i v (and_right (is_plain x) (plain l) p) q)

over : (l : List ℕ) (i : ℕ) (vs : List ℕ) → plain l ≡ true → printed vs ≡ true → plain (sets l i vs) ≡ true
over l i [] p q = p
over l i (v ∷ vs) p q =
    over (set l i v) (suc i) vs (set_plain l i v p (and_left (is_printed v) (printed vs) q)) (and_right (is_printed v) (printed vs) q)

-- ---- rows

boxed_plain : plain boxed_row ≡ true
unfolding boxed_row spaces
boxed_plain = refl

more_plain : plain plain_row ≡ true
unfolding plain_row spaces
more_plain = refl

blank_plain : (reasons : ℕ) → plain (blank_rows reasons) ≡ true
unfolding blank_rows
blank_plain reasons =
    by_test (λ (rows : List ℕ). plain rows ≡ true) (leb reasons _) (λ _. boxed_plain)
    (λ _.
    by_test (λ (rows : List ℕ). plain rows ≡ true) (leb reasons _) (λ _. simp (joined, boxed_plain, more_plain))
    (λ _. simp (joined, boxed_plain, more_plain)))

numbered_plain : (n : ℕ) (row : List ℕ) → plain row ≡ true → plain (numbered n row) ≡ true
unfolding numbered
numbered_plain n row p = over row (number_place n) (decimal n) p (decimal_printed n)

error_row_plain : (n first code e : ℕ) (parsed : Parsed) → code < 256 → e < 256 → plain (error_row n first code parsed e) ≡ true
unfolding error_row
error_row_plain n first code e parsed h k =
    over _ 50 (error_text e)
    (over _ 20 (command_text code parsed) (over _ 7 (decimal first) (numbered_plain n boxed_row boxed_plain) (decimal_printed first)) (command_printed code parsed h))
    (error_printed e k)

cell_plain : (at shown n : ℕ) (word bytes : List ℕ) → printed word ≡ true → plain bytes ≡ true → plain (with_cell at shown n word bytes) ≡ true
unfolding with_cell
cell_plain at shown n word bytes p q =
    by_test (λ (rows : List ℕ). plain rows ≡ true) (eqb n 0) (λ _. q)
    (λ _. over bytes (at + cell_place shown) (cell_text n word) q (cell_printed n word p))

reasons_plain : (t : Tally) (bytes : List ℕ) → plain bytes ≡ true → plain (with_reasons 0 t bytes) ≡ true
unfolding with_reasons
reasons_plain t bytes p =
    cell_plain 0 _ _ _ _ refl (cell_plain 0 _ _ _ _ refl (cell_plain 0 _ _ _ _ refl (cell_plain 0 _ _ _ _ refl (cell_plain 0 _ _ _ bytes refl p))))

drop_rows_plain : (n first last : ℕ) (t : Tally) → plain (drop_rows n first last t) ≡ true
unfolding drop_rows
drop_rows_plain n first last t =
    let fate : List ℕ = bytes_text (dropped_in t) ++ ascii " dropped" in
    reasons_plain t _
    (over _ 20 fate
    (over _ 7 (range_text first last) (numbered_plain n (blank_rows (reasons_in t)) (blank_plain (reasons_in t))) (range_printed first last))
    (fate_printed (dropped_in t) _ refl))

item_plain : (n : ℕ) (i : Item) (code : ℕ) (parsed : Parsed) → code < 256 → i.error < 256 → plain (item_rows n i code parsed) ≡ true
unfolding item_rows
item_plain n i code parsed h k =
    by_test (λ (rows : List ℕ). plain rows ≡ true) (eqb i.error 0) (λ _. drop_rows_plain n i.first i.last i.drops)
    (λ _. error_row_plain n i.first code i.error parsed h k)

waiting_plain : (first end : ℕ) → plain (waiting_row first end) ≡ true
unfolding waiting_row
waiting_plain first end =
    let range : List ℕ = range_text first (end - 1) in
    let fate : List ℕ = bytes_text (end - first) ++ ascii " waiting" in
    let dashed : List ℕ = sets boxed_row 3 (ascii "-") in
    let ranged : List ℕ = sets dashed 7 range in
    over (sets ranged 20 fate) 50 (ascii "not a whole frame")
    (over ranged 20 fate (over dashed 7 range (over boxed_row 3 (ascii "-") boxed_plain refl) (range_printed first (end - 1))) (fate_printed (end - first) _ refl))
    refl

pub plain_text : PlainText
plain_text = record { item = item_plain; waiting = waiting_plain }
