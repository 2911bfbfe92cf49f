-- The reasons of dropped bytes, laid over rows that have room for as many.
use Prim.Native.Nat.{ℕ, ◌+◌, ◌*◌, ◌/◌, ◌%◌, ◌≤◌, ◌<◌}
use borrow.Author.Tests.{eq-eqb, ne_eqb}
use lib.Dec.{eqb}
use lib.ListN.{length, length-append}
use lib.Seq.{length-sets}
use mathlib.Core.Bool.{not}
use mathlib.Core.List.{List, ◌++◌}
use mathlib.Core.Path.{◌≡◌, refl, sym, ◌∙◌}
use mir.Val.{bool_byte}
use native.Mathlib.Omega.{arith}
use Rattle.frame.proofs.Picks.{by_test, pick_true, pick_false}
use Rattle.frame.proofs.Tests.{either}
use Rattle.frame.specs.Putting.{Put}
use Rattle.reader.specs.declared.tally.Tally.{Tally}
use Rattle.rows.proofs.Layers.{cell}
use Rattle.rows.specs.Rows.{is_some, reasons_in, cell_place, cell_text, with_cell, with_reasons}
use Rattle.text.specs.Digits.{decimal}
use Rattle.text.specs.Words.{ascii}
use Rattle.text.specs.Writing.{Holds}
use Rattle.text.specs.declared.writer.Writer.{Writer}

pub some_one : (n : ℕ) → is_some n ≤ 1
unfolding is_some
some_one n = by_test (λ (k : ℕ). k ≤ 1) (eqb n 0) (λ _. omega arith) (λ _. omega arith)

pub none_shown : (n : ℕ) → n ≡ 0 → 0 ≡ is_some n
unfolding is_some
none_shown n e = sym (rw (eq-eqb n 0 e, pick_true))

pub some_shown : (n : ℕ) → (n ≡ 0 → ⊥) → 1 ≡ is_some n
unfolding is_some
some_shown n other = sym (rw (ne_eqb n 0 other, pick_false))

pub some_counted : (n : ℕ) → bool_byte (not (eqb n 0)) ≡ is_some n
unfolding is_some
some_counted n = either (eqb n 0) (λ e. simp (e, pick_true)) (λ e. simp (e, pick_false))

length_cell : (at shown n : ℕ) (word rows : List ℕ) → length (with_cell at shown n word rows) ≡ length rows
unfolding with_cell
length_cell at shown n word rows = by_test (λ (l : List ℕ). length l ≡ length rows) (eqb n 0) (λ _. refl) (λ _. length-sets rows (at + cell_place shown) (cell_text n word))

pub length_reasons : (at : ℕ) (t : Tally) (rows : List ℕ) → length (with_reasons at t rows) ≡ length rows
unfolding with_reasons
length_reasons at t rows = simp length_cell

-- a number of 64 bits, and a word of no more than eleven letters
pub cell_short : (n : ℕ) (word : List ℕ) → length (decimal n) ≤ 20 → length word ≤ 11 → length (cell_text n word) ≤ 32
unfolding cell_text
cell_short n word digits letters =
    omega (arith, length-append (decimal n ++ ascii " ") word, length-append (decimal n) (ascii " "))

-- the counts of drops, each with no more digits than a number of 64 bits has
pub record Short (t : Tally) : Type 0 where
  pub kind : length (decimal t.kind) ≤ 20
  pub long : length (decimal t.long) ≤ 20
  pub check : length (decimal t.check) ≤ 20
  pub end : length (decimal t.end) ≤ 20
  pub header : length (decimal t.header) ≤ 20

module _ (at : ℕ) (before : List ℕ) (next : ℕ) (t : Tally) (short : Short t) where
  pub reasons_put : (rows middle : List ℕ) → Put rows at before middle next
      → ((shown : ℕ) → shown < reasons_in t → 100 * (shown / 2) + 100 ≤ length rows)
      → Put (with_reasons 0 t rows) at before (with_reasons at t middle) next
  unfolding with_reasons reasons_in
  reasons_put rows middle put room =
      let type : List ℕ = ascii "wrong type" in
      let long : List ℕ = ascii "too long" in
      let check : List ℕ = ascii "wrong check" in
      let end : List ℕ = ascii "wrong end" in
      let header : List ℕ = ascii "no header" in
      let a : ℕ = is_some t.kind in
      let b : ℕ = is_some t.long in
      let c : ℕ = is_some t.check in
      let d : ℕ = is_some t.end in
      let r1 : List ℕ = with_cell 0 0 t.kind type rows in
      let r2 : List ℕ = with_cell 0 a t.long long r1 in
      let r3 : List ℕ = with_cell 0 (a + b) t.check check r2 in
      let r4 : List ℕ = with_cell 0 (a + b + c) t.end end r3 in
      let l1 = length_cell 0 0 t.kind type rows in
      let l2 = length_cell 0 a t.long long r1 in
      let l3 = length_cell 0 (a + b) t.check check r2 in
      let l4 = length_cell 0 (a + b + c) t.end end r3 in
      cell at before next r4 _ _ (a + b + c + d) t.header header
      (cell at before next r3 _ _ (a + b + c) t.end end
      (cell at before next r2 _ _ (a + b) t.check check
      (cell at before next r1 _ _ a t.long long
      (cell at before next rows _ _ 0 t.kind type put
      (λ some. room 0 (omega (arith, some))) (cell_short t.kind type short.kind (omega arith)) refl)
      (λ some. omega (arith, room a (omega (arith, some)), l1)) (cell_short t.long long short.long (omega arith)) refl)
      (λ some. omega (arith, room (a + b) (omega (arith, some)), l1, l2)) (cell_short t.check check short.check (omega arith)) refl)
      (λ some. omega (arith, room (a + b + c) (omega (arith, some)), l1, l2, l3)) (cell_short t.end end short.end (omega arith)) refl)
      (λ some. omega (arith, room (a + b + c + d) (omega (arith, some)), l1, l2, l3, l4)) (cell_short t.header header short.header (omega arith)) refl

-- ---- what the code puts

pub no_cell : (at shown n : ℕ) (word bytes : List ℕ) → n ≡ 0 → bytes ≡ with_cell at shown n word bytes
unfolding with_cell
no_cell at shown n word bytes none = sym (rw (eq-eqb n 0 none, pick_true))

pub no_more : (shown n : ℕ) → n ≡ 0 → shown ≡ shown + is_some n
no_more shown n none = omega (arith, none_shown n none)

pub a_cell : (at shown n : ℕ) (word before after : List ℕ) (result : ℕ) → (n ≡ 0 → ⊥)
    → Put (decimal n ++ ascii " " ++ word) (at + 100 * (shown / 2) + 50 + 18 * (shown % 2)) before after result → after ≡ with_cell at shown n word before
unfolding with_cell cell_place cell_text
a_cell at shown n word before after result some put =
    let there : at + 100 * (shown / 2) + 50 + 18 * (shown % 2) ≡ at + (100 * (shown / 2) + 50 + 18 * (shown % 2)) = omega arith in
    put.output_is ∙ rw (there, ne_eqb n 0 some, pick_false)

pub one_more : (shown n : ℕ) → (n ≡ 0 → ⊥) → shown + 1 ≡ shown + is_some n
one_more shown n some = omega (arith, some_shown n some)

pub reasons_are : (at : ℕ) (t : Tally) (b0 b1 b2 b3 b4 b5 : List ℕ) (r1 r2 r3 r4 : ℕ)
    → b1 ≡ with_cell at 0 t.kind (ascii "wrong type") b0 → r1 ≡ 0 + is_some t.kind
    → b2 ≡ with_cell at r1 t.long (ascii "too long") b1 → r2 ≡ r1 + is_some t.long
    → b3 ≡ with_cell at r2 t.check (ascii "wrong check") b2 → r3 ≡ r2 + is_some t.check
    → b4 ≡ with_cell at r3 t.end (ascii "wrong end") b3 → r4 ≡ r3 + is_some t.end
    → b5 ≡ with_cell at r4 t.header (ascii "no header") b4
    → b5 ≡ with_reasons at t b0
unfolding with_reasons
reasons_are at t b0 b1 b2 b3 b4 b5 r1 r2 r3 r4 e1 s1 e2 s2 e3 s3 e4 s4 e5 =
    let one : r1 ≡ is_some t.kind = omega arith in
    e5 ∙ rw (s4, e4, s3, e3, s2, e2, one, e1)

-- cell by cell, by one writer
pub cells_held : (at : ℕ) (t : Tally) {w0 w1 w2 w3 w4 w5 : Writer} {r1 r2 r3 r4 : ℕ}
    → Holds (with_cell at 0 t.kind (ascii "wrong type") w0.buffer.now) w0 w1 → r1 ≡ 0 + is_some t.kind
    → Holds (with_cell at r1 t.long (ascii "too long") w1.buffer.now) w1 w2 → r2 ≡ r1 + is_some t.long
    → Holds (with_cell at r2 t.check (ascii "wrong check") w2.buffer.now) w2 w3 → r3 ≡ r2 + is_some t.check
    → Holds (with_cell at r3 t.end (ascii "wrong end") w3.buffer.now) w3 w4 → r4 ≡ r3 + is_some t.end
    → Holds (with_cell at r4 t.header (ascii "no header") w4.buffer.now) w4 w5
    → Holds (with_reasons at t w0.buffer.now) w0 w5
cells_held at t a s1 b s2 c s3 d s4 e =
    record {
      same_reference = e.same_reference ∙ d.same_reference ∙ c.same_reference ∙ b.same_reference ∙ a.same_reference;
      same_length = e.same_length ∙ d.same_length ∙ c.same_length ∙ b.same_length ∙ a.same_length;
      bytes_are = reasons_are at t _ _ _ _ _ _ _ _ _ _ a.bytes_are s1 b.bytes_are s2 c.bytes_are s3 d.bytes_are s4 e.bytes_are;
    }
