-- Texts laid one after the other over rows that stand in a buffer.
use Prim.Native.Nat.{ℕ, ◌+◌, ◌*◌, ◌/◌, ◌≤◌, ◌<◌}
use borrow.Author.Tests.{leb-true, le-leb, lt-leb}
use lib.Dec.{eqb, leb}
use lib.ListN.{length, length-append}
use lib.Seq.{sets, length-sets}
use mathlib.Core.List.{List, ◌++◌}
use mathlib.Core.Path.{◌≡◌, refl, ap, sym, ◌∙◌}
use native.Mathlib.Omega.{arith}
use Rattle.frame.proofs.Picks.{by_test, pick_true, pick_false}
use Rattle.frame.proofs.Tests.{either}
use Rattle.frame.specs.Putting.{Put}
use Rattle.text.proofs.Overlays.{overlay}
use Rattle.rows.specs.Columns.{boxed_row, plain_row, blank_rows, number_place, numbered}
use Rattle.rows.specs.Rows.{is_some, cell_place, cell_text, with_cell}
use Rattle.text.proofs.Writing.{put_behind, more_room}
use Rattle.text.specs.Digits.{decimal}
use Rattle.text.specs.Laying.{spaces}
use Rattle.text.specs.Writing.{Puts}
use Rattle.text.specs.declared.writer.Writer.{Writer}

-- ---- how long rows are

pub length_boxed : length boxed_row ≡ 100
unfolding boxed_row spaces
length_boxed = refl

pub length_plain : length plain_row ≡ 100
unfolding plain_row spaces
length_plain = refl

pub length_two : length (boxed_row ++ plain_row) ≡ 200
length_two = omega (arith, length-append boxed_row plain_row, length_boxed, length_plain)

pub length_three : length (boxed_row ++ plain_row ++ plain_row) ≡ 300
length_three = omega (arith, length-append (boxed_row ++ plain_row) plain_row, length_two, length_plain)

-- the last reason that is shown has a row
pub blank_long : (shown reasons : ℕ) → shown < reasons → reasons ≤ 5 → 100 * (shown / 2) + 100 ≤ length (blank_rows reasons)
unfolding blank_rows
blank_long shown reasons h few =
    by_test (λ (rows : List ℕ). 100 * (shown / 2) + 100 ≤ length rows) (leb reasons 2)
    (λ one. omega (arith, length_boxed, leb-true reasons 2 one))
    (λ more.
    by_test (λ (rows : List ℕ). 100 * (shown / 2) + 100 ≤ length rows) (leb reasons 4)
    (λ two. omega (arith, length_two, leb-true reasons 4 two))
    (λ three. omega (arith, length_three)))

pub blank_least : (reasons : ℕ) → 100 ≤ length (blank_rows reasons)
unfolding blank_rows
blank_least reasons =
    by_test (λ (rows : List ℕ). 100 ≤ length rows) (leb reasons 2)
    (λ one. omega (arith, length_boxed))
    (λ more. by_test (λ (rows : List ℕ). 100 ≤ length rows) (leb reasons 4) (λ two. omega (arith, length_two)) (λ three. omega (arith, length_three)))

pub blank_most : (reasons : ℕ) → length (blank_rows reasons) ≤ 300
unfolding blank_rows
blank_most reasons =
    by_test (λ (rows : List ℕ). length rows ≤ 300) (leb reasons 2)
    (λ one. omega (arith, length_boxed))
    (λ more. by_test (λ (rows : List ℕ). length rows ≤ 300) (leb reasons 4) (λ two. omega (arith, length_two)) (λ three. omega (arith, length_three)))

-- ---- a text over rows

-- the rows stand at `at`, and there is at least one
pub record Based (rows : List ℕ) (at : ℕ) (before after : List ℕ) (next : ℕ) : Type 0 where
  pub put : Put rows at before after next
  pub long : 100 ≤ length rows

module _ (at : ℕ) (before : List ℕ) (next : ℕ) where
  pub lay : (rows middle after : List ℕ) (place : ℕ) (piece : List ℕ) → Based rows at before middle next → place + length piece ≤ 100
      → after ≡ sets middle (at + place) piece → Based (sets rows place piece) at before after next
  lay rows middle after place piece base fits e =
      record {
        put =
            record {
              output_is =
                  e
                  ∙ ap (λ (l : List ℕ). sets l (at + place) piece) base.put.output_is
                  ∙ overlay before at rows place piece (omega (arith, base.long));
              next_is = base.put.next_is ∙ ap (λ (k : ℕ). at + k) (sym (length-sets rows place piece));
            };
        long = omega (arith, base.long, length-sets rows place piece);
      }

  -- the number of an item
  pub number : (rows middle after : List ℕ) (n : ℕ) → Based rows at before middle next → length (decimal n) ≤ 20
      → after ≡ sets middle (at + number_place n) (decimal n) → Based (numbered n rows) at before after next
  unfolding numbered number_place
  number rows middle after n base short e = lay rows middle after (number_place n) (decimal n) base (omega arith) e

  -- a reason, where some bytes were dropped for it
  pub cell : (rows middle after : List ℕ) (shown n : ℕ) (word : List ℕ) → Put rows at before middle next
      → (is_some n ≡ 1 → 100 * (shown / 2) + 100 ≤ length rows) → length (cell_text n word) ≤ 32 → after ≡ with_cell at shown n word middle
      → Put (with_cell 0 shown n word rows) at before after next
  unfolding with_cell cell_place is_some
  cell rows middle after shown n word put room short e =
      either (eqb n 0)
      (λ none.
      let stays : after ≡ middle = e ∙ simp (none, pick_true) in
      rw (none, pick_true, stays) put)
      (λ some.
      let long = room (simp (some, pick_false)) in
      let place : ℕ = 0 + cell_place shown in
      let there : at + cell_place shown ≡ at + place = omega arith in
      let chosen : after ≡ sets middle (at + cell_place shown) (cell_text n word) = e ∙ simp (some, pick_false) in
      let stored : after ≡ sets middle (at + place) (cell_text n word) = chosen ∙ ap (λ (k : ℕ). sets middle k (cell_text n word)) there in
      rw (some, pick_false)
      record {
        output_is =
            stored
            ∙ ap (λ (l : List ℕ). sets l (at + place) (cell_text n word)) put.output_is
            ∙ overlay before at rows place (cell_text n word) (omega arith);
        next_is = put.next_is ∙ ap (λ (k : ℕ). at + k) (sym (length-sets rows place (cell_text n word)));
      })

-- ---- blank rows

module _ (reasons : ℕ) {before after : Writer} where
  pub one_row : reasons ≤ 2 → Puts 100 boxed_row before after → Puts 300 (blank_rows reasons) before after
  unfolding blank_rows
  one_row few first = more_room {most = 100} 300 (omega arith) (rw (le-leb reasons 2 few, pick_true) first)

  pub two_rows : {middle : Writer} → 2 < reasons → reasons ≤ 4 → Puts 100 boxed_row before middle → Puts 100 plain_row middle after
      → Puts 300 (blank_rows reasons) before after
  unfolding blank_rows
  two_rows some few first more =
      more_room {most = 200} 300 (omega arith) (rw (lt-leb reasons 2 some, pick_false, le-leb reasons 4 few, pick_true) (put_behind first more))

  pub three_rows : {middle later : Writer} → 4 < reasons → Puts 100 boxed_row before middle → Puts 100 plain_row middle later
      → Puts 100 plain_row later after → Puts 300 (blank_rows reasons) before after
  unfolding blank_rows
  three_rows many first more last =
      rw (lt-leb reasons 2 (omega arith), pick_false, lt-leb reasons 4 many, pick_false) (put_behind (put_behind first more) last)
