-- What holds of the items of a run one behind the other, by one law: every call passes, or lets the last item grow, or begins another.
use Prim.Native.Nat.{ℕ, zero, suc, ◌+◌, ◌≤◌, ◌<◌}
use mathlib.Core.Bool.{false}
use mathlib.Core.List.{List, [], ◌++◌, append_assoc}
use mathlib.Core.Logic.{◌⊎◌, inl, inr}
use mathlib.Core.Path.{◌≡◌, refl}
use native.Mathlib.Omega.{arith}
use Rattle.machine.specs.Machine.{call, Step, step}
use Rattle.frame.proofs.Picks.{pick_true, pick_false}
use Rattle.frame.proofs.Tests.{either}
use Rattle.frame.specs.Bytes.{pick}
use Rattle.frame.specs.declared.finding.Reason.{Reason}
use Rattle.reader.specs.Tallies.{fresh_tally, with_dropped}
use Rattle.rows.specs.declared.items.Item.{Item}
use Rattle.sheet.proofs.Calling.{least, HasByte, called}
use Rattle.sheet.proofs.Growing.{Joined, joined}
use Rattle.sheet.specs.Itemised.{advanced, pending, closed_by, itemised}
use Rattle.sheet.specs.Items.{item_of, items_of, failing, joins, grown, one_more, items_after, closes}
use Rattle.sheet.specs.Sheet.{Standing, items_by, teller}
use Rattle.sheet.specs.declared.items.Failing.{Failing}
use Rattle.sheet.specs.declared.items.Failing.TheVariants.{Passed, Error, Drop}
use Rattle.sheet.specs.declared.items.Items.{Items}

abbrev pub Cursor : Standing → ℕ
Cursor s = s.bench.reader.cursor

-- an item of one call at the cursor: an error answer, or a dropped byte that does not belong to the item before
pub record Begun (items : Items) (cursor : ℕ) (item : Item) : Type 0 where
  pub first_is : item.first ≡ cursor
  pub last_is : item.last ≡ cursor
  pub kind : (0 < item.error) ⊎ (joins items cursor ≡ false)

-- `Kept a items cursor` is known before a call at the cursor; `Good a` is to hold of the items that are told from there on, where `a` is what they need to know of
-- those before
module _ {A : Type 0} (Kept : A → Items → ℕ → Type 0) (Good : A → List Item → Type 0) where
  -- what a call tells, in front of a rest that is good behind it
  abbrev pub Told : A → List Item → Items → ℕ → Type 0
  Told a told items cursor = (rest : List Item) → ((b : A) → Kept b items cursor → Good b rest) → Good a (told ++ rest)

  pub record ByCalls : Type 0 where
    pub ends : (a : A) (items : Items) (cursor : ℕ) → Kept a items cursor → Good a (pending items)
    pub passes : (a : A) (items : Items) (cursor next : ℕ) → Kept a items cursor → cursor ≤ next → Kept a items next
    pub grows : (a : A) (items : Items) (cursor next : ℕ) (q : Reason) → Kept a items cursor → Joined items cursor → cursor < next → Kept a (grown items cursor q) next
    pub begins : (a : A) (items : Items) (cursor next : ℕ) (item : Item) → Kept a items cursor → Begun items cursor item → cursor < next
        → Told a (pending items) (items_of (one_more items.count) item) next

  module _ (by : ByCalls) where
    one_call : (a : A) (items : Items) (cursor next : ℕ) (f : Failing) → Kept a items cursor → cursor + least f ≤ next → HasByte f
        → Told a (pick (closes items cursor f) (pending items) []) (items_after items cursor f) next
    unfolding items_after closes least HasByte
    one_call a items cursor next Passed kept moved has = rw pick_false (λ rest good. good a (by.passes a items cursor next kept (omega arith)))
    one_call a items cursor next (Error e) kept moved has =
        rw pick_true
        (by.begins a items cursor next (item_of cursor cursor e fresh_tally) kept record { first_is = refl; last_is = refl; kind = inl has } (omega arith))
    one_call a items cursor next (Drop q) kept moved has =
        either (joins items cursor)
        (λ yes-joined.
        rw (yes-joined, pick_true, pick_false)
        (λ rest good. good a (by.grows a items cursor next q kept (joined items cursor yes-joined) (omega arith))))
        (λ apart.
        rw (apart, pick_false, pick_true)
        (by.begins a items cursor next (item_of cursor cursor 0 (with_dropped q fresh_tally)) kept record { first_is = refl; last_is = refl; kind = inr apart } (omega arith)))

    next_items : (k : ℕ) (input : List ℕ) (a : A) (s : Standing) → Kept a s.items (Cursor s)
        → ((b : A) → Kept b ((teller input).next s).items (Cursor ((teller input).next s)) → Good b (itemised k input ((teller input).next s)))
        → Good a (itemised (suc k) input s)
    unfolding itemised closed_by advanced teller items_by
    next_items k input a s kept rest =
        let x : Step = step (call input) s.bench in
        let f : Failing = failing x.next.output x.outcome in
        let next : Standing = (teller input).next s in
        let c = called input s.bench in
        rw (append_assoc (pick (closes s.items (Cursor s) f) (pending s.items) []) (closed_by k input next) (pending (advanced k input next).items))
        (one_call a s.items (Cursor s) (Cursor next) f kept c.moves c.has_byte (itemised k input next) rest)

    pub good_items : (k : ℕ) (input : List ℕ) (a : A) (s : Standing) → Kept a s.items (Cursor s) → Good a (itemised k input s)
    unfolding itemised closed_by advanced
    good_items zero input a s kept = by.ends a s.items (Cursor s) kept
    good_items (suc k) input a s kept = next_items k input a s kept (λ b. good_items k input b ((teller input).next s))
