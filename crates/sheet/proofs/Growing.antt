-- A dropped byte that belongs to the last item: it is the item's last now, and stands for one failure more.
use Prim.Native.Nat.{ℕ, zero, suc, ◌+◌, ◌-◌, ◌≤◌}
use borrow.Author.Tests.{eqb-true, eq-eqb, ne_eqb, ltb-true}
use lib.Dec.{eqb, ltb}
use mathlib.Core.Bool.{true, ◌&&◌}
use mathlib.Core.List.{List, [], ◌∷◌, ◌++◌, append-nil}
use mathlib.Core.Path.{◌≡◌, refl, ap, sym, ◌∙◌}
use native.Mathlib.Omega.{arith}
use Rattle.frame.proofs.Picks.{by_test, pick_true, pick_false}
use Rattle.frame.proofs.Tests.{and_left, and_right}
use Rattle.frame.specs.declared.finding.Reason.{Reason}
use Rattle.reader.specs.Tallies.{with_dropped}
use Rattle.rows.specs.declared.items.Item.{Item}
use Rattle.sheet.specs.Claims.{Fault, fault, dropped_from, faults_of, all_faults}
use Rattle.sheet.specs.Itemised.{pending}
use Rattle.sheet.specs.Items.{item_of, items_of, joins, grown, one_more}
use Rattle.sheet.specs.declared.items.Items.{Items}

-- one byte more, at the end
pub dropped_more : (place n : ℕ) → dropped_from place (suc n) ≡ dropped_from place n ++ (fault (place + n) 0 ∷ [])
unfolding dropped_from
dropped_more place zero = ap (λ (k : ℕ). fault k 0 ∷ []) (omega arith)
dropped_more place (suc n) =
    ap (λ (l : List Fault). fault place 0 ∷ l)
    (dropped_more (suc place) n ∙ ap (λ (k : ℕ). dropped_from (suc place) n ++ (fault k 0 ∷ [])) (omega arith))

-- ---- an item

-- the last item, where there is one, ends no earlier than it begins
abbrev pub Formed : Items → Type 0
Formed items = (items.count ≡ 0 → ⊥) → items.last.first ≤ items.last.last

pub more_than_none : (n : ℕ) → one_more n ≡ 0 → ⊥
unfolding one_more
more_than_none n =
    by_test (λ (m : ℕ). m ≡ 0 → ⊥) (eqb n 18446744073709551615) (λ most e. omega (arith, eqb-true n 18446744073709551615 most)) (λ less e. omega arith)

pub some_pending : (items : Items) → (items.count ≡ 0 → ⊥) → pending items ≡ items.last ∷ []
unfolding pending
some_pending items some = rw (ne_eqb items.count 0 some, pick_false)

pub all_one : (item : Item) → all_faults (item ∷ []) ≡ faults_of item
unfolding all_faults
all_one item = append-nil (faults_of item)

pub faults_drops : (item : Item) → item.error ≡ 0 → faults_of item ≡ dropped_from item.first (item.last + 1 - item.first)
unfolding faults_of
faults_drops item none = rw (eq-eqb item.error 0 none, pick_true)

-- ---- the byte behind the item

pub record Joined (items : Items) (cursor : ℕ) : Type 0 where
  pub some : items.count ≡ 0 → ⊥
  pub drops : items.last.error ≡ 0
  pub next : items.last.last + 1 ≡ cursor

pub joined : (items : Items) (cursor : ℕ) → joins items cursor ≡ true → Joined items cursor
unfolding joins
joined items cursor h =
    let rest = and_right (ltb 0 items.count) (eqb items.last.error 0 && eqb (items.last.last + 1) cursor) h in
    let first = ltb-true 0 items.count (and_left (ltb 0 items.count) (eqb items.last.error 0 && eqb (items.last.last + 1) cursor) h) in
    record {
      some = λ none. omega arith;
      drops = eqb-true items.last.error 0 (and_left (eqb items.last.error 0) (eqb (items.last.last + 1) cursor) rest);
      next = eqb-true (items.last.last + 1) cursor (and_right (eqb items.last.error 0) (eqb (items.last.last + 1) cursor) rest);
    }

pub grown_item : (items : Items) (cursor : ℕ) (r : Reason) → Formed items → Joined items cursor
    → all_faults (pending (grown items cursor r)) ≡ all_faults (pending items) ++ (fault cursor 0 ∷ [])
unfolding grown
grown_item items cursor r formed j =
    let first : ℕ = items.last.first in
    let n : ℕ = items.last.last + 1 - first in
    let well = formed j.some in
    let one : cursor + 1 - first ≡ suc n = omega (arith, j.next) in
    let end : first + n ≡ cursor = omega (arith, j.next) in
    let item : Item = item_of first cursor 0 (with_dropped r items.last.drops) in
    ap all_faults (some_pending (items_of items.count item) j.some)
    ∙ all_one item
    ∙ faults_drops item refl
    ∙ ap (dropped_from first) one
    ∙ dropped_more first n
    ∙ ap (λ (k : ℕ). dropped_from first n ++ (fault k 0 ∷ [])) end
    ∙ ap (λ (l : List Fault). l ++ (fault cursor 0 ∷ [])) (sym (ap all_faults (some_pending items j.some) ∙ all_one items.last ∙ faults_drops items.last j.drops))
