-- An item of dropped bytes has as many as its reasons sum up to.
use Prim.Native.Nat.{ℕ, zero, suc, ◌+◌, ◌≤◌, ◌<◌}
use borrow.Author.Tests.{eqb-true, eqb-false, eq-eqb}
use lib.Dec.{eqb}
use mathlib.Core.List.{List, [], ◌∷◌, ◌++◌}
use mathlib.Core.Logic.{◌⊎◌, inl, inr, ⊎_elim}
use mathlib.Core.Path.{◌≡◌, refl, ap, ◌∙◌}
use native.Mathlib.Omega.{arith}
use Rattle.machine.specs.Machine.{call, Step, step}
use Rattle.frame.proofs.Picks.{by_test, pick_true}
use Rattle.frame.proofs.Tests.{either}
use Rattle.frame.specs.Bytes.{pick}
use Rattle.frame.specs.Finding.{reason_number}
use Rattle.frame.specs.declared.finding.Reason.{Reason}
use Rattle.frame.specs.declared.finding.Reason.TheVariants.{NoHeader, WrongType, TooLong, WrongCheck, WrongEnd}
use Rattle.reader.proofs.Tallies.{raised_below}
use Rattle.reader.specs.Tallies.{limit, fresh_tally, with_dropped}
use Rattle.reader.specs.declared.tally.Tally.{Tally}
use Rattle.rows.specs.Rows.{dropped_in}
use Rattle.rows.specs.declared.items.Item.{Item}
use Rattle.sheet.proofs.Calling.{adds, least, called}
use Rattle.sheet.proofs.Growing.{some_pending, Joined, joined}
use Rattle.sheet.proofs.Itemising.{none_pending}
use Rattle.sheet.proofs.Summing.{Below, Counted, sums, none_shown}
use Rattle.sheet.specs.Claims.{reason_count, OneAnswer, DroppedBytes, EachOne, BytesOfDrops}
use Rattle.sheet.specs.Itemised.{advanced, pending, closed_by, itemised}
use Rattle.sheet.specs.Items.{failing, joins, grown, items_after, closes}
use Rattle.sheet.specs.Sheet.{Standing, items_by, teller, begun_on}
use Rattle.sheet.specs.declared.items.Failing.{Failing}
use Rattle.sheet.specs.declared.items.Failing.TheVariants.{Passed, Error, Drop}
use Rattle.sheet.specs.declared.items.Items.{Items}

-- a drop adds one byte, where the count of its reason is below the limit
byte_more : (q : Reason) (t : Tally) → reason_count q t < limit → dropped_in (with_dropped q t) ≡ dropped_in t + 1
unfolding dropped_in with_dropped reason_count
byte_more NoHeader t less = omega (arith, raised_below t.header (λ e. omega arith))
byte_more WrongType t less = omega (arith, raised_below t.kind (λ e. omega arith))
byte_more TooLong t less = omega (arith, raised_below t.long (λ e. omega arith))
byte_more WrongCheck t less = omega (arith, raised_below t.check (λ e. omega arith))
byte_more WrongEnd t less = omega (arith, raised_below t.end (λ e. omega arith))

first_byte : (q : Reason) → dropped_in (with_dropped q fresh_tally) ≡ 1
unfolding limit reason_count dropped_in
first_byte NoHeader = byte_more NoHeader fresh_tally (omega arith)
first_byte WrongType = byte_more WrongType fresh_tally (omega arith)
first_byte TooLong = byte_more TooLong fresh_tally (omega arith)
first_byte WrongCheck = byte_more WrongCheck fresh_tally (omega arith)
first_byte WrongEnd = byte_more WrongEnd fresh_tally (omega arith)

adds_own : (q : Reason) → adds q (Drop q) ≡ 1
unfolding adds
adds_own q = rw (eq-eqb (reason_number q) (reason_number q) refl, pick_true) refl

-- ---- one call

-- No byte is dropped right behind the first one of a command that was answered with an error: so no drop joins its item.
abbrev Sized : Items → ℕ → Type 0
Sized items cursor =
    (items.count ≡ 0 → ⊥)
    → (OneAnswer items.last × (items.last.last + 1 < cursor)) ⊎ (DroppedBytes items.last × (items.last.first ≤ items.last.last))

grows : (items : Items) (cursor next : ℕ) (q : Reason) → Sized items cursor → Joined items cursor → reason_count q items.last.drops < limit
    → Sized (grown items cursor q) next
unfolding grown
grows items cursor next q sized j less some =
    ⊎_elim (λ (answer : OneAnswer items.last × (items.last.last + 1 < cursor)). absurd (omega (arith, answer.1, j.next)))
    (λ (drops : DroppedBytes items.last × (items.last.first ≤ items.last.last)).
    inr ((refl, omega (arith, byte_more q items.last.drops less, drops.0.1, drops.1, j.next)), omega (arith, drops.1, j.next)))
    (sized some)

sized_call : (items : Items) (cursor next : ℕ) (f : Failing) → Sized items cursor → cursor + least f ≤ next
    → ((q : Reason) → f ≡ Drop q → (items.count ≡ 0 → ⊥) → reason_count q items.last.drops < limit) → Sized (items_after items cursor f) next
unfolding items_after least
sized_call items cursor next Passed sized moved less some =
    ⊎_elim (λ (answer : OneAnswer items.last × (items.last.last + 1 < cursor)). inl (answer.0, omega (arith, answer.1)))
    (λ (drops : DroppedBytes items.last × (items.last.first ≤ items.last.last)). inr drops)
    (sized some)
sized_call items cursor next (Error e) sized moved less some = inl ((refl, refl), omega arith)
sized_call items cursor next (Drop q) sized moved less some =
    by_test (λ (after : Items). Sized after next) (joins items cursor)
    (λ yes-joined.
    let j = joined items cursor yes-joined in
    grows items cursor next q sized j (less q refl j.some))
    (λ apart more. inr ((refl, omega (arith, first_byte q)), omega arith))
    some

-- ---- any number of calls

each_join : (a b : List Item) → EachOne a → EachOne b → EachOne (a ++ b)
unfolding EachOne
each_join [] b h k = k
each_join (item ∷ a) b h k = (h.0, each_join a b h.1 k)

each_pending : (items : Items) (cursor : ℕ) → Sized items cursor → EachOne (pending items)
unfolding EachOne
each_pending items cursor sized =
    either (eqb items.count 0) (λ none. rw (none_pending items (eqb-true items.count 0 none)) tt)
    (λ some.
    let more = eqb-false items.count 0 some in
    rw (some_pending items more) (
      ⊎_elim (λ (answer : OneAnswer items.last × (items.last.last + 1 < cursor)). inl answer.0)
          (λ (drops : DroppedBytes items.last × (items.last.first ≤ items.last.last)). inr drops.0) (sized more),
      tt,
    ))

each_none : EachOne []
unfolding EachOne
each_none = tt

abbrev Cursor : Standing → ℕ
Cursor s = s.bench.reader.cursor

record Kept (s : Standing) : Type 0 where
  sized : Sized s.items (Cursor s)
  below : (r : Reason) → Below r s.items (Counted r s)

module _ (input : List ℕ) where
  abbrev Failed : Standing → Failing
  Failed s = failing (step (call input) s.bench).next.output (step (call input) s.bench).outcome

  keeps : (s : Standing) → Kept s → Kept ((teller input).next s)
  unfolding teller items_by
  keeps s k =
      let c = called input s.bench in
      let x : Step = step (call input) s.bench in
      record {
        sized =
            sized_call s.items (Cursor s) x.next.reader.cursor (Failed s) k.sized c.moves
            (λ q e some. omega (arith, (k.below q).shown some, c.below q (k.below q).most, ap (adds q) e ∙ adds_own q));
        below = λ r. rw (c.counts r) (sums r s.items (Cursor s) (Counted r s) (Failed s) (k.below r) (c.below r (k.below r).most)).below;
      }

  each_closed : (s : Standing) → Kept s → EachOne (pick (closes s.items (Cursor s) (Failed s)) (pending s.items) [])
  each_closed s k = by_test EachOne (closes s.items (Cursor s) (Failed s)) (λ closed. each_pending s.items (Cursor s) k.sized) (λ growing. each_none)

  each_by : (k : ℕ) (s : Standing) → Kept s → EachOne (closed_by k input s) × EachOne (pending (advanced k input s).items)
  unfolding closed_by advanced
  each_by zero s kept = (each_none, each_pending s.items (Cursor s) kept.sized)
  each_by (suc k) s kept =
      let rest = each_by k ((teller input).next s) (keeps s kept) in
      (each_join _ _ (each_closed s kept) rest.0, rest.1)

pub bytes_of_drops : BytesOfDrops
unfolding itemised
bytes_of_drops k commands memory sizes =
    let all = each_by commands k (begun_on memory sizes) record { sized = λ some. absurd (some refl); below = λ r. none_shown r memory sizes } in
    each_join _ _ all.0 all.1
