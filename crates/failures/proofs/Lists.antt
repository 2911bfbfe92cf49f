-- The list in its places, as the machine's pages have it: what is added stands at its end, what is removed stood at its start.
use Prim.Native.Nat.{ℕ, zero, suc, ◌<◌, ◌≤◌, ◌+◌, ◌-◌}
use borrow.Author.Tests.{leb-true, le-leb}
use lib.Dec.{leb}
use lib.ListN.{length, set, take, drop, length-set, length-replicate}
use lib.Seq.{length-take-le, take-suc-set, set_out, take_at, take-nil}
use mathlib.Core.Bool.{true, false}
use mathlib.Core.List.{List, [], ◌∷◌, ◌++◌}
use mathlib.Core.Path.{◌≡◌, sym, ◌∙◌, ap, subst}
use native.Mathlib.Nat.{zero-add, suc-add}
use native.Mathlib.Numerals.{add-one}
use native.Mathlib.Omega.{arith}
use Rattle.machine.specs.Machine as Inner
use Rattle.failures.proofs.Moves.{few_go, held_fit, kept_is, kept_none, moved_none, front_length, length_moved, length_at}
use Rattle.failures.specs.Lists.{may_remove, kept_of, moved_up}
use Rattle.failures.specs.Machine.{state_of, may_acknowledge}
use Rattle.failures.specs.Records.{blank, records_in}
use Rattle.failures.specs.declared.record.Record.{Record}
use Rattle.frame.proofs.Picks.{by_test, pick_true}

-- with as many places as are held the list is the first of them
pub in_room : (slots : List Record) (held : ℕ) → held ≤ length slots → records_in slots held ≡ take held slots
unfolding records_in
in_room slots held l = rw (le-leb held (length slots) l, pick_true)

pub length_records : (slots : List Record) (held : ℕ) → length (records_in slots held) ≡ held
unfolding records_in
length_records slots held =
    by_test (λ (xs : List Record). length xs ≡ held) (leb held (length slots)) (λ fits. length-take-le held slots (leb-true held (length slots) fits))
    (λ _. length-replicate held blank)

-- ---- a record is added

pub length_added : (slots : List Record) (at : ℕ) (item : Record) → length (set slots at item) ≡ length slots
length_added slots at item = length-set slots at item

pub added : (slots : List Record) (held : ℕ) (item : Record) → held < length slots
    → records_in (set slots held item) (held + 1) ≡ records_in slots held ++ (item ∷ [])
added slots held item l =
    in_room (set slots held item) (held + 1) (omega (arith, l, length-set slots held item))
    ∙ ap (λ (k : ℕ). take k (set slots held item)) (add-one held)
    ∙ take-suc-set slots held item l
    ∙ ap (λ (xs : List Record). xs ++ (item ∷ [])) (sym (in_room slots held (omega (arith, l))))

-- behind the room stands no record
pub not_added : (slots : List Record) (held : ℕ) (item : Record) → records_in (set slots (length slots) item) held ≡ records_in slots held
not_added slots held item = ap (λ (xs : List Record). records_in xs held) (set_out slots (length slots) item (omega arith))

-- ---- the first n go

-- the first n + m places without the first n
drop_take : (n m : ℕ) (slots : List Record) → drop n (take (n + m) slots) ≡ take m (drop n slots)
drop_take zero m slots = ap (λ (k : ℕ). take k slots) (zero-add m)
drop_take (suc n) m [] = ap (λ (k : ℕ). drop (suc n) (take {A = Record} k [])) (suc-add n m) ∙ sym (take-nil m)
drop_take (suc n) m (x ∷ slots) = ap (λ (k : ℕ). drop (suc n) (take k (x ∷ slots))) (suc-add n m) ∙ drop_take n m slots

-- the first m places of those moved up
front_of : (slots : List Record) (n m : ℕ) → m + n ≤ length slots → take m (moved_up slots n m) ≡ take m (drop n slots)
unfolding moved_up
front_of slots n m l = take_at (take m (drop n slots)) (drop m slots) m (front_length slots n m l)

module _ (slots : List Record) (held n : ℕ) where
  pub length_removed : length (moved_up slots n (kept_of (length slots) held n)) ≡ length slots
  length_removed = length_at slots held n (kept_of (length slots) held n) (omega arith)

  pub moved : may_remove (length slots) held n ≡ true → records_in (moved_up slots n (held - n)) (held - n) ≡ drop n (records_in slots held)
  moved may =
      let few : n ≤ held = few_go (length slots) held n may in
      let fits : held ≤ length slots = held_fit (length slots) held n may in
      let all : n + (held - n) ≡ held = omega (arith, few) in
      in_room (moved_up slots n (held - n)) (held - n) (omega (arith, fits, length_moved slots n (held - n) (omega (arith, few, fits))))
      ∙ front_of slots n (held - n) (omega (arith, few, fits))
      ∙ sym (drop_take n (held - n) slots)
      ∙ ap (λ (k : ℕ). drop n (take k slots)) all
      ∙ ap (drop n) (sym (in_room slots held fits))

  pub removed : may_remove (length slots) held n ≡ true
      → records_in (moved_up slots n (kept_of (length slots) held n)) (kept_of (length slots) held n) ≡ drop n (records_in slots held)
  removed may = subst (λ (m : ℕ). records_in (moved_up slots n m) m ≡ drop n (records_in slots held)) (sym (kept_is (length slots) held n may)) (moved may)

  pub not_removed : may_remove (length slots) held n ≡ false → moved_up slots n (kept_of (length slots) held n) ≡ slots
  not_removed not = ap (moved_up slots n) (kept_none (length slots) held n not) ∙ moved_none slots n

  -- what the code tests of the numbers is what the machine tests of the list
  pub may_acknowledge_is : (bench : Inner.State) → may_acknowledge n (state_of bench (length slots) (records_in slots held)) ≡ may_remove (length slots) held n
  unfolding may_acknowledge
  may_acknowledge_is bench = rw (length_records slots held)
