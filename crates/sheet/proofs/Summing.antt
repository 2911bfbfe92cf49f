-- The drops that the items show are those that the tally counts, reason by reason.
use Prim.Native.Nat.{ℕ, zero, suc, ◌+◌, ◌≤◌}
use lib.Dec.{eqb}
use mathlib.Core.List.{List, [], ◌∷◌, ◌++◌}
use mathlib.Core.Path.{◌≡◌, refl, ap, ◌∙◌}
use native.Mathlib.Omega.{arith}
use Rattle.machine.specs.Machine.{call, Step, step}
use Rattle.frame.proofs.Picks.{by_test, pick_true, pick_false}
use Rattle.frame.proofs.Tests.{either}
use Rattle.frame.specs.Bytes.{pick}
use Rattle.frame.specs.Finding.{reason_number}
use Rattle.frame.specs.declared.finding.Reason.{Reason}
use Rattle.frame.specs.declared.finding.Reason.TheVariants.{NoHeader, WrongType, TooLong, WrongCheck, WrongEnd}
use Rattle.reader.proofs.Tallies.{raised_below}
use Rattle.reader.specs.Tallies.{tally_of, limit, raised, fresh_tally, with_dropped}
use Rattle.reader.specs.declared.tally.Tally.{Tally}
use Rattle.report.specs.Report.{fresh}
use Rattle.rows.specs.declared.items.Item.{Item}
use Rattle.sheet.proofs.Calling.{adds, called}
use Rattle.sheet.proofs.Growing.{more_than_none, some_pending, joined}
use Rattle.sheet.proofs.Itemising.{none_pending}
use Rattle.sheet.specs.Claims.{reason_count, summed, ReasonsSummed}
use Rattle.sheet.specs.Itemised.{advanced, pending, closed_by, itemised}
use Rattle.sheet.specs.Items.{item_of, items_of, failing, joins, grown, one_more, items_after, closes}
use Rattle.sheet.specs.Sheet.{Standing, items_by, teller, begun_on}
use Rattle.sheet.specs.declared.items.Failing.{Failing}
use Rattle.sheet.specs.declared.items.Failing.TheVariants.{Passed, Error, Drop}
use Rattle.sheet.specs.declared.items.Items.{Items}

-- ---- one count

abbrev raised_for : Reason → ℕ → ℕ → ℕ
raised_for q n count = pick (eqb (reason_number q) n) (raised count) count

each_count : (q : Reason) (t : Tally)
    → with_dropped q t
    ≡ tally_of t.good t.error (raised_for q 1 t.header) (raised_for q 2 t.kind) (raised_for q 3 t.long) (raised_for q 4 t.check) (raised_for q 5 t.end)
unfolding with_dropped reason_number pick
each_count NoHeader t = refl
each_count WrongType t = refl
each_count TooLong t = refl
each_count WrongCheck t = refl
each_count WrongEnd t = refl

count_raised : (q r : Reason) (t : Tally) → reason_count r (with_dropped q t) ≡ raised_for q (reason_number r) (reason_count r t)
unfolding reason_count reason_number
count_raised q NoHeader t = ap (λ (u : Tally). u.header) (each_count q t)
count_raised q WrongType t = ap (λ (u : Tally). u.kind) (each_count q t)
count_raised q TooLong t = ap (λ (u : Tally). u.long) (each_count q t)
count_raised q WrongCheck t = ap (λ (u : Tally). u.check) (each_count q t)
count_raised q WrongEnd t = ap (λ (u : Tally). u.end) (each_count q t)

-- below the limit a drop adds one to the count of its reason
pub drop_adds : (q r : Reason) (t : Tally) → reason_count r t + adds r (Drop q) ≤ limit → reason_count r (with_dropped q t) ≡ reason_count r t + adds r (Drop q)
unfolding adds
drop_adds q r t less =
    count_raised q r t
    ∙ either (eqb (reason_number q) (reason_number r))
    (λ same. rw (same, pick_true, pick_true) (raised_below (reason_count r t) (λ e. let one : reason_count r t + 1 ≤ limit = rw (same, pick_true) at less in omega arith)))
    (λ other. rw (other, pick_false, pick_false) (omega arith))

fresh_none : (r : Reason) → reason_count r fresh_tally ≡ 0
unfolding reason_count
fresh_none NoHeader = refl
fresh_none WrongType = refl
fresh_none TooLong = refl
fresh_none WrongCheck = refl
fresh_none WrongEnd = refl

adds_most : (r : Reason) (f : Failing) → adds r f ≤ 1
unfolding adds
adds_most r Passed = omega arith
adds_most r (Error e) = omega arith
adds_most r (Drop q) = by_test (λ (n : ℕ). n ≤ 1) (eqb (reason_number q) (reason_number r)) (λ h. omega arith) (λ h. omega arith)

-- ---- one call

grown_drops : (items : Items) (cursor : ℕ) (q : Reason) → (grown items cursor q).last.drops ≡ with_dropped q items.last.drops
unfolding grown
grown_drops items cursor q = refl

grown_some : (items : Items) (cursor : ℕ) (q : Reason) → (items.count ≡ 0 → ⊥) → (grown items cursor q).count ≡ 0 → ⊥
unfolding grown
grown_some items cursor q some = some

module _ (r : Reason) where
  sum_join : (a b : List Item) → summed r (a ++ b) ≡ summed r a + summed r b
  unfolding summed
  sum_join [] b = omega arith
  sum_join (item ∷ a) b = omega (arith, sum_join a b)

  sum_some : (items : Items) → (items.count ≡ 0 → ⊥) → summed r (pending items) ≡ reason_count r items.last.drops
  unfolding summed
  sum_some items some = ap (summed r) (some_pending items some) ∙ omega arith

  sum_new : (n : ℕ) (item : Item) → summed r (pending (items_of (one_more n) item)) ≡ reason_count r item.drops
  sum_new n item = sum_some (items_of (one_more n) item) (more_than_none n)

  -- no item shows more than was counted, and no count is above the limit
  pub record Below (items : Items) (counted : ℕ) : Type 0 where
    pub shown : (items.count ≡ 0 → ⊥) → reason_count r items.last.drops ≤ counted
    pub most : counted ≤ limit

  pub record Sums (items : Items) (cursor counted : ℕ) (f : Failing) : Type 0 where
    pub below : Below (items_after items cursor f) (counted + adds r f)
    pub same : summed r (pick (closes items cursor f) (pending items) []) + summed r (pending (items_after items cursor f)) ≡ summed r (pending items) + adds r f

  new_drop : (q : Reason) → reason_count r (with_dropped q fresh_tally) ≡ adds r (Drop q)
  unfolding limit
  new_drop q = drop_adds q r fresh_tally (omega (arith, fresh_none r, adds_most r (Drop q))) ∙ omega (arith, fresh_none r)

  pub sums : (items : Items) (cursor counted : ℕ) (f : Failing) → Below items counted → counted + adds r f ≤ limit → Sums items cursor counted f
  unfolding items_after closes summed adds
  sums items cursor counted Passed b less = record { below = record { shown = λ some. omega (arith, b.shown some); most = less }; same = rw pick_false (omega arith) }
  sums items cursor counted (Error e) b less =
      record {
        below = record { shown = λ some. omega (arith, fresh_none r); most = less };
        same = rw pick_true (omega (arith, sum_new items.count (item_of cursor cursor e fresh_tally), fresh_none r));
      }
  sums items cursor counted (Drop q) b less =
      either (joins items cursor)
      (λ yes-joined.
      let j = joined items cursor yes-joined in
      let shown = b.shown j.some in
      let one = drop_adds q r items.last.drops (omega arith) in
      record {
        below = rw (yes-joined, pick_true) record { shown = λ some. omega (arith, ap (reason_count r) (grown_drops items cursor q), one); most = less };
        same =
            rw (yes-joined, pick_true, pick_false)
            (omega (arith, one, sum_some items j.some, sum_some (grown items cursor q) (grown_some items cursor q j.some), ap (reason_count r) (grown_drops items cursor q)));
      })
      (λ apart.
      record {
        below = rw (apart, pick_false) record { shown = λ some. omega (arith, new_drop q); most = less };
        same = rw (apart, pick_false, pick_true) (omega (arith, sum_new items.count (item_of cursor cursor 0 (with_dropped q fresh_tally)), new_drop q));
      })

  -- ---- any number of calls

  abbrev pub Counted : Standing → ℕ
  Counted s = reason_count r s.bench.reader.tally

  abbrev Summed : ℕ → List ℕ → Standing → Type 0
  Summed k input s = summed r (itemised k input s) + Counted s ≡ summed r (pending s.items) + Counted (advanced k input s)

  next_sum : (k : ℕ) (input : List ℕ) (s : Standing) → Below s.items (Counted s)
      → (Below ((teller input).next s).items (Counted ((teller input).next s)) → Summed k input ((teller input).next s))
      → Summed (suc k) input s
  unfolding itemised closed_by advanced teller items_by
  next_sum k input s b rest =
      let x : Step = step (call input) s.bench in
      let cursor : ℕ = s.bench.reader.cursor in
      let f : Failing = failing x.next.output x.outcome in
      let next : Standing = (teller input).next s in
      let p : List Item = pick (closes s.items cursor f) (pending s.items) [] in
      let c = called input s.bench in
      let one = sums s.items cursor (Counted s) f b (c.below r b.most) in
      let counts = c.counts r in
      omega (
        arith,
        rest (rw counts one.below),
        one.same,
        counts,
        sum_join (p ++ closed_by k input next) (pending (advanced k input next).items),
        sum_join p (closed_by k input next),
        sum_join (closed_by k input next) (pending (advanced k input next).items),
      )

  sum_by : (k : ℕ) (input : List ℕ) (s : Standing) → Below s.items (Counted s) → Summed k input s
  unfolding itemised closed_by advanced
  sum_by zero input s b = refl
  sum_by (suc k) input s b = next_sum k input s b (sum_by k input ((teller input).next s))

pub none_shown : (r : Reason) (memory sizes : List ℕ) → Below r (begun_on memory sizes).items (Counted r (begun_on memory sizes))
unfolding fresh limit
none_shown r memory sizes = record { shown = λ some. absurd (some refl); most = omega (arith, fresh_none r) }

pub reasons_summed : ReasonsSummed
unfolding fresh summed
reasons_summed r k commands memory sizes =
    let s : Standing = begun_on memory sizes in
    omega (
      arith,
      sum_by r k commands s (none_shown r memory sizes),
      fresh_none r,
      ap (summed r) (none_pending s.items refl),
    )
