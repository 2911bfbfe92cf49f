-- The items rise: every failing call moves the cursor, and no call moves it back.
use Prim.Native.Nat.{ℕ, ◌+◌, ◌≤◌, ◌<◌}
use borrow.Author.Tests.{eqb-true, eqb-false}
use lib.Dec.{eqb}
use mathlib.Core.Path.{◌≡◌}
use native.Mathlib.Omega.{arith}
use Rattle.frame.proofs.Tests.{either}
use Rattle.frame.specs.declared.finding.Reason.{Reason}
use Rattle.rows.specs.declared.items.Item.{Item}
use Rattle.sheet.proofs.ItemByItem.{Cursor, Begun, Told, ByCalls, good_items}
use Rattle.sheet.proofs.Growing.{more_than_none, some_pending, Joined}
use Rattle.sheet.proofs.Itemising.{none_pending}
use Rattle.sheet.specs.Claims.{InOrder, Rising}
use Rattle.sheet.specs.Itemised.{pending}
use Rattle.sheet.specs.Items.{items_of, grown, one_more}
use Rattle.sheet.specs.declared.items.Items.{Items}

-- where the items stand: the last one, where there is one, in front of the cursor, and no item that is still to tell in front of `from`
record Placed (from : ℕ) (items : Items) (cursor : ℕ) : Type 0 where
  formed : (items.count ≡ 0 → ⊥) → items.last.first ≤ items.last.last
  passed : (items.count ≡ 0 → ⊥) → items.last.last < cursor
  last_from : (items.count ≡ 0 → ⊥) → from ≤ items.last.first
  none_from : items.count ≡ 0 → from ≤ cursor

ends_in_order : (from : ℕ) (items : Items) (cursor : ℕ) → Placed from items cursor → InOrder from (pending items)
unfolding InOrder
ends_in_order from items cursor p =
    either (eqb items.count 0) (λ none. rw (none_pending items (eqb-true items.count 0 none)) tt)
    (λ some.
    let more = eqb-false items.count 0 some in
    rw (some_pending items more) (p.last_from more, (p.formed more, tt)))

passes : (from : ℕ) (items : Items) (cursor next : ℕ) → Placed from items cursor → cursor ≤ next → Placed from items next
passes from items cursor next p moved =
    record {
      formed = p.formed;
      passed = λ some. omega (arith, p.passed some);
      last_from = p.last_from;
      none_from = λ none. omega (arith, p.none_from none);
    }

-- an item that begins at the cursor closes the one before
begins : (from : ℕ) (items : Items) (cursor next : ℕ) (item : Item) → Placed from items cursor → Begun items cursor item → cursor < next
    → Told Placed InOrder from (pending items) (items_of (one_more items.count) item) next
unfolding InOrder
begins from items cursor next item p b moved rest order =
    either (eqb items.count 0)
    (λ none.
    let empty = eqb-true items.count 0 none in
    rw (none_pending items empty) (order from (begun from (p.none_from empty))))
    (λ some.
    let more = eqb-false items.count 0 some in
    rw (some_pending items more) (p.last_from more, (p.formed more, order (items.last.last + 1) (begun (items.last.last + 1) (omega (arith, p.passed more))))))
  where
    begun : (later : ℕ) → later ≤ cursor → Placed later (items_of (one_more items.count) item) next
    begun later less =
        record {
          formed = λ some. omega (arith, b.first_is, b.last_is);
          passed = λ some. omega (arith, b.last_is);
          last_from = λ some. omega (arith, b.first_is);
          none_from = λ none. absurd (more_than_none items.count none);
        }

grows : (from : ℕ) (items : Items) (cursor next : ℕ) (q : Reason) → Placed from items cursor → Joined items cursor → cursor < next → Placed from (grown items cursor q) next
unfolding grown
grows from items cursor next q p j moved =
    record {
      formed = λ some. omega (arith, p.formed some, p.passed some);
      passed = λ some. moved;
      last_from = λ some. p.last_from some;
      none_from = λ none. absurd (j.some none);
    }

in_order : ByCalls Placed InOrder
in_order = record { ends = ends_in_order; passes = passes; grows = grows; begins = begins }

pub rising : Rising
rising k input s none =
    good_items Placed InOrder in_order k input (Cursor s) s
    record {
      formed = λ some. absurd (some none);
      passed = λ some. absurd (some none);
      last_from = λ some. absurd (some none);
      none_from = λ empty. omega arith;
    }
