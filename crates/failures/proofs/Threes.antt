-- A list that is lent as numbers, three for each record: what is done to the numbers is done to the records.
use Prim.Native.Nat.{ℕ, zero, suc, ◌<◌, ◌≤◌, ◌+◌, ◌-◌, ◌*◌}
use borrow.Author.Tests.{ltb-true, ltb-false, lt-ltb, le-ltb}
use lib.Dec.{ltb}
use lib.ListN.{length, set, take, drop, length-set, length-drop}
use lib.Seq.{set_out}
use mathlib.Core.Bool.{true, false}
use mathlib.Core.List.{List, [], ◌∷◌, ◌++◌}
use mathlib.Core.Path.{◌≡◌, refl, sym, ◌∙◌, ap, subst}
use native.Mathlib.Omega.{arith}
use Rattle.failures.proofs.Moves.{few_go, held_fit, kept_is, kept_none, moved_none, length_moved}
use Rattle.failures.specs.Lists.{may_remove, kept_of, moved_up, slots_in, room_in, numbers_with}
use Rattle.failures.specs.Records.{record_of}
use Rattle.failures.specs.declared.record.Record.{Record}
use Rattle.frame.proofs.Picks.{by_test, pick_true, pick_false}
use Rattle.frame.proofs.Tests.{either}

-- three more
three_more : (k : ℕ) → 3 * suc k ≡ suc (suc (suc (3 * k)))
three_more k = omega arith

pub length_slots : (numbers : List ℕ) → length (slots_in numbers) ≡ room_in numbers
unfolding slots_in
length_slots [] = omega arith
length_slots (x ∷ []) = omega arith
length_slots (x ∷ y ∷ []) = omega arith
length_slots (x ∷ y ∷ z ∷ rest) = omega (arith, length_slots rest)

-- ---- a record is added

-- the numbers of a record, each at its place
abbrev three : List ℕ → ℕ → ℕ → ℕ → Record → List ℕ
three numbers a b c item = set (set (set numbers a item.cursor) b item.code) c item.error

pub with_inside : (numbers : List ℕ) (at : ℕ) (item : Record) → at < room_in numbers
    → numbers_with numbers at item ≡ three numbers (3 * at) (3 * at + 1) (3 * at + 2) item
unfolding numbers_with
with_inside numbers at item l = rw (lt-ltb at (room_in numbers) l, pick_true)

pub with_behind : (numbers : List ℕ) (at : ℕ) (item : Record) → room_in numbers ≤ at → numbers_with numbers at item ≡ numbers
unfolding numbers_with
with_behind numbers at item l = rw (le-ltb at (room_in numbers) l, pick_false)

length_three : (numbers : List ℕ) (a b c : ℕ) (item : Record) → length (three numbers a b c item) ≡ length numbers
length_three numbers a b c item =
    length-set (set (set numbers a item.cursor) b item.code) c item.error
    ∙ length-set (set numbers a item.cursor) b item.code
    ∙ length-set numbers a item.cursor

slots_three : (at : ℕ) (numbers : List ℕ) (item : Record) → at < room_in numbers
    → slots_in (three numbers (3 * at) (3 * at + 1) (3 * at + 2) item) ≡ set (slots_in numbers) at item
unfolding slots_in
slots_three at [] item l = absurd (omega (arith, l))
slots_three at (x ∷ []) item l = absurd (omega (arith, l))
slots_three at (x ∷ y ∷ []) item l = absurd (omega (arith, l))
slots_three zero (x ∷ y ∷ z ∷ rest) item l = refl
slots_three (suc at) (x ∷ y ∷ z ∷ rest) item l =
    let all : List ℕ = x ∷ y ∷ z ∷ rest in
    let next : 3 * suc at + 1 ≡ suc (suc (suc (3 * at + 1))) = omega arith in
    let last : 3 * suc at + 2 ≡ suc (suc (suc (3 * at + 2))) = omega arith in
    ap (λ (a : ℕ). slots_in (three all a (3 * suc at + 1) (3 * suc at + 2) item)) (three_more at)
    ∙ ap (λ (b : ℕ). slots_in (three all (suc (suc (suc (3 * at)))) b (3 * suc at + 2) item)) next
    ∙ ap (λ (c : ℕ). slots_in (three all (suc (suc (suc (3 * at)))) (suc (suc (suc (3 * at + 1)))) c item)) last
    ∙ ap (λ (slots : List Record). record_of x y z ∷ slots) (slots_three at rest item (omega (arith, l)))

module _ (numbers : List ℕ) (at : ℕ) (item : Record) where
  pub length_numbers_added : length (numbers_with numbers at item) ≡ length numbers
  unfolding numbers_with
  length_numbers_added =
      by_test (λ (xs : List ℕ). length xs ≡ length numbers) (ltb at (room_in numbers)) (λ _. length_three numbers (3 * at) (3 * at + 1) (3 * at + 2) item)
      (λ _. refl)

  pub slots_added : slots_in (numbers_with numbers at item) ≡ set (slots_in numbers) at item
  slots_added =
      either (ltb at (room_in numbers))
      (λ inside.
      let l : at < room_in numbers = ltb-true at (room_in numbers) inside in ap slots_in (with_inside numbers at item l) ∙ slots_three at numbers item l)
      (λ behind.
      let l : room_in numbers ≤ at = ltb-false at (room_in numbers) behind in
      ap slots_in (with_behind numbers at item l) ∙ sym (set_out (slots_in numbers) at item (omega (arith, l, length_slots numbers))))

-- ---- the first n go

slots_drop : (n : ℕ) (numbers : List ℕ) → slots_in (drop (3 * n) numbers) ≡ drop n (slots_in numbers)
unfolding slots_in
slots_drop zero numbers = refl
slots_drop (suc n) [] = rw (three_more n)
slots_drop (suc n) (x ∷ []) = rw (three_more n)
slots_drop (suc n) (x ∷ y ∷ []) = rw (three_more n)
slots_drop (suc n) (x ∷ y ∷ z ∷ rest) = rw (three_more n) (slots_drop n rest)

slots_front : (m : ℕ) (numbers others : List ℕ) → 3 * m ≤ length numbers → slots_in (take (3 * m) numbers ++ others) ≡ take m (slots_in numbers) ++ slots_in others
unfolding slots_in
slots_front zero numbers others l = refl
slots_front (suc m) [] others l = absurd (omega (arith, l))
slots_front (suc m) (x ∷ []) others l = absurd (omega (arith, l))
slots_front (suc m) (x ∷ y ∷ []) others l = absurd (omega (arith, l))
slots_front (suc m) (x ∷ y ∷ z ∷ rest) others l =
    ap (λ (k : ℕ). slots_in (take k (x ∷ y ∷ z ∷ rest) ++ others)) (three_more m)
    ∙ ap (λ (slots : List Record). record_of x y z ∷ slots) (slots_front m rest others (omega (arith, l)))

module _ (numbers : List ℕ) where
  slots_moved : (n m : ℕ) → m + n ≤ room_in numbers → slots_in (moved_up numbers (3 * n) (3 * m)) ≡ moved_up (slots_in numbers) n m
  unfolding moved_up
  slots_moved n m l =
      slots_front m (drop (3 * n) numbers) (drop (3 * m) numbers) (omega (arith, l, length-drop (3 * n) numbers))
      ∙ ap (λ (slots : List Record). take m slots ++ slots_in (drop (3 * m) numbers)) (slots_drop n numbers)
      ∙ ap (λ (slots : List Record). take m (drop n (slots_in numbers)) ++ slots) (slots_drop m numbers)

  module _ (held n : ℕ) where
    abbrev left : ℕ
    left = kept_of (room_in numbers) held n

    -- what is kept, and those that go, have room
    kept_fit : may_remove (room_in numbers) held n ≡ true → left + n ≤ room_in numbers
    kept_fit may = omega (arith, few_go (room_in numbers) held n may, held_fit (room_in numbers) held n may, kept_is (room_in numbers) held n may)

    pub kept_inside : 3 * left ≤ length numbers
    kept_inside = either (may_remove (room_in numbers) held n) (λ may. omega (arith, kept_fit may)) (λ not. omega (arith, kept_none (room_in numbers) held n not))

    -- what a move reads lies within the numbers
    pub reads_inside : (k : ℕ) → k < 3 * left → k + 3 * n < length numbers
    reads_inside k l =
        either (may_remove (room_in numbers) held n) (λ may. omega (arith, kept_fit may, l))
        (λ not. absurd (omega (arith, kept_none (room_in numbers) held n not, l)))

    pub slots_removed : slots_in (moved_up numbers (3 * n) (3 * left)) ≡ moved_up (slots_in numbers) n left
    slots_removed =
        either (may_remove (room_in numbers) held n) (λ may. slots_moved n left (kept_fit may))
        (λ not.
        subst (λ (m : ℕ). slots_in (moved_up numbers (3 * n) (3 * m)) ≡ moved_up (slots_in numbers) n m) (sym (kept_none (room_in numbers) held n not))
        (ap slots_in (moved_none numbers (3 * n)) ∙ sym (moved_none (slots_in numbers) n)))

    -- how many numbers there are stays while they move
    pub length_numbers_at : (k : ℕ) → k ≤ 3 * left → length (moved_up numbers (3 * n) k) ≡ length numbers
    length_numbers_at zero l = ap (λ (xs : List ℕ). length xs) (moved_none numbers (3 * n))
    length_numbers_at (suc j) l = length_moved numbers (3 * n) (suc j) (omega (arith, reads_inside j l))

    pub length_numbers_removed : length (moved_up numbers (3 * n) (3 * left)) ≡ length numbers
    length_numbers_removed = length_numbers_at (3 * left) (omega arith)

    -- under a refusal the numbers stay
    pub numbers_not_removed : may_remove (room_in numbers) held n ≡ false → moved_up numbers (3 * n) (3 * left) ≡ numbers
    numbers_not_removed not =
        ap (λ (m : ℕ). moved_up numbers (3 * n) (3 * m)) (kept_none (room_in numbers) held n not) ∙ moved_none numbers (3 * n)

-- ---- while they move

-- k numbers have moved, of those that are to
-- where some are kept, what moves and what goes is there
pub left_there : (numbers : List ℕ) (held n left : ℕ) → left ≡ kept_of (room_in numbers) held n → 0 < left → 3 * left + 3 * n ≤ length numbers
left_there numbers held n left e some =
    let last : 3 * left - 1 + 3 * n < length numbers = reads_inside numbers held n (3 * left - 1) (omega (arith, e)) in
    omega arith
