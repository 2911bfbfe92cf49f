-- Dropped bytes with no command between them are one item: no item of drops begins right behind another.
use Prim.Native.Nat.{ℕ, ◌+◌, ◌≤◌, ◌<◌}
use borrow.Author.Tests.{eqb-true, eqb-false, eq-eqb, lt-ltb}
use lib.Dec.{eqb}
use mathlib.Core.Bool.{false, true≢false}
use mathlib.Core.List.{List, [], ◌∷◌}
use mathlib.Core.Logic.{⊎_elim}
use mathlib.Core.Path.{◌≡◌, sym, ◌∙◌}
use native.Mathlib.Omega.{arith}
use Rattle.frame.proofs.Tests.{either}
use Rattle.frame.specs.declared.finding.Reason.{Reason}
use Rattle.reader.specs.Tallies.{fresh_tally}
use Rattle.rows.specs.declared.items.Item.{Item}
use Rattle.sheet.proofs.ItemByItem.{Begun, Told, ByCalls, good_items}
use Rattle.sheet.proofs.Growing.{more_than_none, some_pending, Joined}
use Rattle.sheet.proofs.Itemising.{none_pending}
use Rattle.sheet.specs.Claims.{Apart, ApartFrom, AllApart, DropsTogether}
use Rattle.sheet.specs.Itemised.{pending, itemised}
use Rattle.sheet.specs.Items.{item_of, items_of, joins, grown, one_more}
use Rattle.sheet.specs.declared.items.Items.{Items}

-- of the item before the last one; where there is no item yet an error answer stands in its place, behind which anything may begin
record Clear (before : Item) (items : Items) (cursor : ℕ) : Type 0 where
  passed : (items.count ≡ 0 → ⊥) → items.last.last < cursor
  last_apart : (items.count ≡ 0 → ⊥) → Apart before items.last
  none_before : items.count ≡ 0 → before.error ≡ 0 → ⊥

ends_apart : (before : Item) (items : Items) (cursor : ℕ) → Clear before items cursor → ApartFrom before (pending items)
unfolding ApartFrom
ends_apart before items cursor c =
    either (eqb items.count 0) (λ none. rw (none_pending items (eqb-true items.count 0 none)) tt)
    (λ some.
    let more = eqb-false items.count 0 some in
    rw (some_pending items more) (c.last_apart more, tt))

passes : (before : Item) (items : Items) (cursor next : ℕ) → Clear before items cursor → cursor ≤ next → Clear before items next
passes before items cursor next c moved =
    record { passed = λ some. omega (arith, c.passed some); last_apart = c.last_apart; none_before = c.none_before }

-- a byte that was dropped right behind the last item, which is one of drops, would have joined it
not_behind : (items : Items) (cursor : ℕ) → (items.count ≡ 0 → ⊥) → items.last.error ≡ 0 → joins items cursor ≡ false → items.last.last + 1 ≡ cursor → ⊥
unfolding joins
not_behind items cursor some drops apart next =
    true≢false
    (sym (rw (lt-ltb 0 items.count (omega (arith, some)), eq-eqb items.last.error 0 drops, eq-eqb (items.last.last + 1) cursor next)) ∙ apart)

begins : (before : Item) (items : Items) (cursor next : ℕ) (item : Item) → Clear before items cursor → Begun items cursor item → cursor < next
    → Told Clear ApartFrom before (pending items) (items_of (one_more items.count) item) next
unfolding ApartFrom
begins before items cursor next item c b moved rest good =
    either (eqb items.count 0)
    (λ none.
    let empty = eqb-true items.count 0 none in
    rw (none_pending items empty) (good before (begun before (λ error drops. absurd (c.none_before empty error)))))
    (λ some.
    let more = eqb-false items.count 0 some in
    rw (some_pending items more) (c.last_apart more, good items.last (begun items.last (behind more))))
  where
    begun : (last : Item) → Apart last item → Clear last (items_of (one_more items.count) item) next
    begun last apart =
        record {
          passed = λ some. omega (arith, b.last_is);
          last_apart = λ some. apart;
          none_before = λ none. absurd (more_than_none items.count none);
        }

    behind : (items.count ≡ 0 → ⊥) → Apart items.last item
    behind more last-drops drops =
        ⊎_elim (λ (error : 0 < item.error). absurd (omega arith))
        (λ (apart : joins items cursor ≡ false).
        let not-next = not_behind items cursor more last-drops apart in
        omega (arith, not-next, c.passed more, b.first_is))
        b.kind

grows : (before : Item) (items : Items) (cursor next : ℕ) (q : Reason) → Clear before items cursor → Joined items cursor → cursor < next
    → Clear before (grown items cursor q) next
unfolding grown
grows before items cursor next q c j moved =
    record {
      passed = λ some. moved;
      last_apart = λ some error drops. c.last_apart some error j.drops;
      none_before = λ none. absurd (j.some none);
    }

apart_by : ByCalls Clear ApartFrom
apart_by = record { ends = ends_apart; passes = passes; grows = grows; begins = begins }

from_the_first : (before : Item) (items : List Item) → ApartFrom before items → AllApart items
unfolding ApartFrom AllApart
from_the_first before [] h = tt
from_the_first before (item ∷ items) h = h.1

pub drops_together : DropsTogether
drops_together k input s none =
    let error : Item = item_of 0 0 1 fresh_tally in
    from_the_first error (itemised k input s)
    (good_items Clear ApartFrom apart_by k input error s
    record {
      passed = λ some. absurd (some none);
      last_apart = λ some. absurd (some none);
      none_before = λ empty is_zero. omega arith;
    })
