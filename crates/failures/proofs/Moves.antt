-- A removal in its places: how many records are kept, what one move makes of the places moved so far, and how many places there are.
use Prim.Native.Nat.{ℕ, zero, suc, ◌<◌, ◌≤◌, ◌+◌, ◌-◌}
use borrow.Author.Tests.{leb-true}
use lib.Dec.{leb}
use lib.ListN.{length, get_or, set, take, drop, length-drop}
use lib.Seq.{length-take-le, length_front, take-suc, drop-cons, set_at, get_or-append-add, get_or-drop}
use mathlib.Core.Bool.{true, false}
use mathlib.Core.List.{List, [], ◌∷◌, ◌++◌}
use mathlib.Core.Path.{◌≡◌, refl, sym, ◌∙◌, ap, subst}
use native.Mathlib.Numerals.{add-one}
use native.Mathlib.Omega.{arith}
use Rattle.failures.specs.Lists.{may_remove, kept_of, moved_up}
use Rattle.frame.proofs.Picks.{pick_true, pick_false}
use Rattle.frame.proofs.Tests.{and_left, and_right, either}

-- ---- how many are kept

module _ (room held n : ℕ) where
  pub few_go : may_remove room held n ≡ true → n ≤ held
  few_go may = leb-true n held (and_left (leb n held) (leb held room) may)

  pub held_fit : may_remove room held n ≡ true → held ≤ room
  held_fit may = leb-true held room (and_right (leb n held) (leb held room) may)

  pub kept_is : may_remove room held n ≡ true → kept_of room held n ≡ held - n
  unfolding kept_of
  kept_is may = rw (may, pick_true)

  pub kept_none : may_remove room held n ≡ false → kept_of room held n ≡ 0
  unfolding kept_of
  kept_none not = rw (not, pick_false)

  -- what a move reads lies within the places
  pub moves_fit : (k : ℕ) → k < kept_of room held n → k + n < room
  moves_fit k l =
      either (may_remove room held n) (λ may. omega (arith, few_go may, held_fit may, kept_is may, l)) (λ not. absurd (omega (arith, kept_none not, l)))

-- ---- the places

module _ {A : Type 0} where
  pub front_length : (slots : List A) (n m : ℕ) → m + n ≤ length slots → length (take m (drop n slots)) ≡ m
  front_length slots n m l = length-take-le m (drop n slots) (omega (arith, l, length-drop n slots))

  pub moved_none : (slots : List A) (n : ℕ) → moved_up slots n 0 ≡ slots
  unfolding moved_up
  moved_none slots n = refl

  pub length_moved : (slots : List A) (n m : ℕ) → m + n ≤ length slots → length (moved_up slots n m) ≡ length slots
  unfolding moved_up
  length_moved slots n m l =
      length_front slots (take m (drop n slots)) m (front_length slots n m l ∙ sym (length-take-le m slots (omega (arith, l))))

  snoc_append : (xs : List A) (a : A) (ys : List A) → (xs ++ (a ∷ [])) ++ ys ≡ xs ++ a ∷ ys
  snoc_append [] a ys = refl
  snoc_append (x ∷ xs) a ys = ap (λ (r : List A). x ∷ r) (snoc_append xs a ys)

  -- what is read at k + n is still what stood there
  reads_old : (slots : List A) (n k : ℕ) (d : A) → k + n < length slots → get_or (moved_up slots n k) (k + n) d ≡ get_or slots (k + n) d
  unfolding moved_up
  reads_old slots n k d l =
      subst (λ (j : ℕ). get_or (moved_up slots n k) (j + n) d ≡ get_or (drop k slots) n d) (front_length slots n k (omega (arith, l)))
      (get_or-append-add (take k (drop n slots)) (drop k slots) n d)
      ∙ get_or-drop k slots n d

  -- one more is moved
  pub moved_suc : (slots : List A) (n k : ℕ) (d : A) → k + n < length slots
      → set (moved_up slots n k) k (get_or (moved_up slots n k) (k + n) d) ≡ moved_up slots n (k + 1)
  unfolding moved_up
  moved_suc slots n k d l =
      ap (λ (r : A). set (moved_up slots n k) k r) (reads_old slots n k d l)
      ∙ ap (λ (t : List A). set (take k (drop n slots) ++ t) k (get_or slots (k + n) d)) (drop-cons slots k d (omega (arith, l)))
      ∙ set_at (take k (drop n slots)) (get_or slots k d) (drop (suc k) slots) (get_or slots (k + n) d) k (front_length slots n k (omega (arith, l)))
      ∙ ap (λ (r : A). take k (drop n slots) ++ r ∷ drop (suc k) slots) (ap (λ (j : ℕ). get_or slots j d) (omega arith) ∙ sym (get_or-drop n slots k d))
      ∙ sym (snoc_append (take k (drop n slots)) (get_or (drop n slots) k d) (drop (suc k) slots))
      ∙ ap (λ (t : List A). t ++ drop (suc k) slots) (sym (take-suc (drop n slots) k d (omega (arith, l, length-drop n slots))))
      ∙ ap (λ (j : ℕ). moved_up slots n j) (sym (add-one k))

  -- their number stays while they move
  pub length_at : (slots : List A) (held n k : ℕ) → k ≤ kept_of (length slots) held n → length (moved_up slots n k) ≡ length slots
  length_at slots held n zero l = ap (λ (xs : List A). length xs) (moved_none slots n)
  length_at slots held n (suc j) l = length_moved slots n (suc j) (omega (arith, moves_fit (length slots) held n j l))
