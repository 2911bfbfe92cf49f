-- The text of the sheet is the rows of its items, numbered from 1, and what ends it.
use Prim.Native.Nat.{ℕ, zero, suc, ◌+◌, ◌≤◌, ◌<◌}
use borrow.Author.Tests.{eqb-true, eqb-false, eq-eqb, ne_eqb}
use lib.Dec.{eqb}
use lib.ListN.{length, length-append}
use mathlib.Core.Bool.{Bool, true, false, true≢false}
use mathlib.Core.List.{List, [], ◌∷◌, ◌++◌, append_assoc, append-nil}
use mathlib.Core.Path.{◌≡◌, refl, ap, sym, ◌∙◌}
use native.Mathlib.Omega.{arith}
use Rattle.machine.specs.Machine.{call, step, code_at}
use Rattle.frame.proofs.Picks.{pick_true, pick_false}
use Rattle.frame.proofs.Tests.{either}
use Rattle.foot.specs.Foot.{end_for}
use Rattle.frame.specs.Bytes.{pick}
use Rattle.frame.specs.declared.finding.Reason.{Reason}
use Rattle.report.specs.Lines.{ends}
use Rattle.reader.specs.Tallies.{fresh_tally, with_dropped}
use Rattle.reader.specs.declared.outcome.Outcome.{Outcome}
use Rattle.reader.specs.declared.outcome.Outcome.TheVariants.{Answered, AtEnd, Incomplete, Dropped, PastEnd, BadImage, ShortOutput, FullTally, FullList}
use Rattle.reader.specs.declared.state.Reader.{Reader}
use Rattle.rows.specs.Rows.{item_rows}
use Rattle.rows.specs.declared.items.Item.{Item}
use Rattle.sheet.proofs.Growing.{more_than_none, some_pending, joined}
use Rattle.sheet.proofs.Itemising.{none_pending}
use Rattle.sheet.proofs.Tellings.{falls}
use Rattle.sheet.specs.Claims.{GoesOn, RowForEachItem, ItemsCounted}
use Rattle.sheet.specs.Itemised.{advanced, pending, closed_by, itemised, rows_from}
use Rattle.sheet.specs.Items.{item_of, items_of, failing, joins, grown, one_more, items_after, closes}
use Rattle.sheet.specs.Sheet.{Standing, command_at, last_rows, items_by, is_told, part_for, teller}
use Rattle.sheet.specs.declared.items.Failing.{Failing}
use Rattle.sheet.specs.declared.items.Failing.TheVariants.{Passed, Error, Drop}
use Rattle.sheet.specs.declared.items.Items.{Items}
use Rattle.text.proofs.Told.{text_over, text_more}
use Rattle.text.specs.Telling.{text_from}

rows_join : (n : ℕ) (input : List ℕ) (a b : List Item) → rows_from n input (a ++ b) ≡ rows_from n input a ++ rows_from (n + length a) input b
unfolding rows_from
rows_join n input [] b = ap (λ (k : ℕ). rows_from k input b) (omega arith)
rows_join n input (item ∷ a) b =
    let row : List ℕ = item_rows n item (code_at input item.first) (command_at input item.first) in
    let there : n + 1 + length a ≡ n + suc (length a) = omega arith in
    ap (λ (l : List ℕ). row ++ l) (rows_join (n + 1) input a b ∙ ap (λ (k : ℕ). rows_from (n + 1) input a ++ rows_from k input b) there)
    ∙ sym (append_assoc row (rows_from (n + 1) input a) (rows_from (n + suc (length a)) input b))

-- the number of the first item that is told from here on: that of the one that may still grow, or 1
unfoldable first : ℕ → ℕ
first n = pick (eqb n 0) 1 n

first_none : (n : ℕ) → n ≡ 0 → first n ≡ 1
unfolding first
first_none n none = rw (eq-eqb n 0 none, pick_true)

first_some : (n : ℕ) → (n ≡ 0 → ⊥) → first n ≡ n
unfolding first
first_some n some = rw (ne_eqb n 0 some, pick_false)

last_none : (input : List ℕ) (items : Items) → items.count ≡ 0 → last_rows input items ≡ []
unfolding last_rows
last_none input items none = rw (eq-eqb items.count 0 none, pick_true)

last_some : (input : List ℕ) (items : Items) → (items.count ≡ 0 → ⊥)
    → last_rows input items ≡ item_rows items.count items.last (code_at input items.last.first) (command_at input items.last.first)
unfolding last_rows
last_some input items some = rw (ne_eqb items.count 0 some, pick_false)

last_rows_lem : (input : List ℕ) (items : Items) → last_rows input items ≡ rows_from (first items.count) input (pending items)
unfolding rows_from
last_rows_lem input items =
    either (eqb items.count 0)
    (λ none.
    let zero-items = eqb-true items.count 0 none in
    last_none input items zero-items ∙ sym (ap (rows_from (first items.count) input) (none_pending items zero-items)))
    (λ some.
    let more = eqb-false items.count 0 some in
    last_some input items more
    ∙ sym (append-nil (item_rows items.count items.last (code_at input items.last.first) (command_at input items.last.first)))
    ∙ ap (λ (n : ℕ). rows_from n input (items.last ∷ [])) (sym (first_some items.count more))
    ∙ sym (ap (rows_from (first items.count) input) (some_pending items more)))

one_above : (n : ℕ) → n < 18446744073709551615 → one_more n ≡ n + 1
unfolding one_more
one_above n less = rw (ne_eqb n 18446744073709551615 (λ e. omega arith), pick_false)

-- behind an item that is closed comes the next number
first_next : (items : Items) → first items.count + length (pending items) ≡ first (items.count + 1)
first_next items =
    let next = first_some (items.count + 1) (λ e. omega arith) in
    either (eqb items.count 0)
    (λ none.
    let zero-items = eqb-true items.count 0 none in
    omega (arith, next, first_none items.count zero-items, ap length (none_pending items zero-items), zero-items))
    (λ some.
    let more = eqb-false items.count 0 some in
    omega (arith, next, first_some items.count more, ap length (some_pending items more)))

-- ---- what one call does to the number

record Counts (items : Items) (cursor : ℕ) (f : Failing) : Type 0 where
  rows_number : first items.count + length (pick (closes items cursor f) (pending items) []) ≡ first (items_after items cursor f).count
  most : (items_after items cursor f).count ≤ items.count + 1
  number : length (pick (closes items cursor f) (pending items) []) + length (pending (items_after items cursor f)) + items.count
      ≡ length (pending items) + (items_after items cursor f).count

one_pending : (n : ℕ) (item : Item) → length (pending (items_of (one_more n) item)) ≡ 1
one_pending n item = ap length (some_pending (items_of (one_more n) item) (more_than_none n))

begun : (items : Items) (cursor : ℕ) (item : Item) → items.count < 18446744073709551615 → first items.count + length (pending items) ≡ first (one_more items.count)
begun items cursor item less = first_next items ∙ ap first (sym (one_above items.count less))

module _ (items : Items) (cursor : ℕ) (r : Reason) where
  grown_count : (grown items cursor r).count ≡ items.count
  unfolding grown
  grown_count = refl

  grown_pending : (items.count ≡ 0 → ⊥) → length (pending (grown items cursor r)) ≡ 1
  unfolding grown
  grown_pending some = ap length (some_pending (grown items cursor r) some)

counted_call : (items : Items) (cursor : ℕ) (f : Failing) → items.count < 18446744073709551615 → Counts items cursor f
unfolding items_after closes
counted_call items cursor Passed less =
    record { rows_number = rw pick_false (omega arith); most = omega arith; number = rw pick_false (omega arith) }
counted_call items cursor (Error e) less =
    let more = one_above items.count less in
    record {
      rows_number = rw pick_true (begun items cursor items.last less);
      most = omega (arith, more);
      number = rw pick_true (omega (arith, more, one_pending items.count (item_of cursor cursor e fresh_tally)));
    }
counted_call items cursor (Drop r) less =
    let more = one_above items.count less in
    either (joins items cursor)
    (λ yes-joined.
    let j = joined items cursor yes-joined in
    let old = ap length (some_pending items j.some) in
    record {
      rows_number = rw (yes-joined, pick_true, pick_false) (omega (arith, ap first (grown_count items cursor r)));
      most = rw (yes-joined, pick_true) (omega (arith, grown_count items cursor r));
      number = rw (yes-joined, pick_true, pick_false) (omega (arith, old, grown_pending items cursor r j.some, grown_count items cursor r));
    })
    (λ apart.
    record {
      rows_number = rw (apart, pick_false, pick_true) (begun items cursor items.last less);
      most = rw (apart, pick_false) (omega (arith, more));
      number = rw (apart, pick_false, pick_true) (omega (arith, more, one_pending items.count (item_of cursor cursor 0 (with_dropped r fresh_tally))));
    })

-- ---- the text

-- a call after which the sheet goes on ends nothing
ends_none : (input : List ℕ) (reader : Reader) (items : ℕ) (o : Outcome) → ends o ≡ false → end_for input reader items o ≡ []
unfolding ends end_for
ends_none input reader items Answered h = refl
ends_none input reader items (Dropped r) h = refl
ends_none input reader items AtEnd h = absurd (true≢false h)
ends_none input reader items Incomplete h = absurd (true≢false h)
ends_none input reader items PastEnd h = absurd (true≢false h)
ends_none input reader items BadImage h = absurd (true≢false h)
ends_none input reader items ShortOutput h = absurd (true≢false h)
ends_none input reader items FullTally h = absurd (true≢false h)
ends_none input reader items FullList h = absurd (true≢false h)

rows_closed : (closed : Bool) (input : List ℕ) (items : Items)
    → pick closed (last_rows input items) [] ≡ rows_from (first items.count) input (pick closed (pending items) [])
unfolding rows_from
rows_closed closed input items =
    either closed (λ yes-closed. rw (yes-closed, pick_true, pick_true) (last_rows_lem input items)) (λ growing. rw (growing, pick_false, pick_false))

abbrev Ending : List ℕ → Standing → List ℕ
Ending input s = end_for input (step (call input) s.bench).next.reader s.items.count (step (call input) s.bench).outcome

module _ (input : List ℕ) where
  -- the last call tells the last item, and ends the text
  last_text : (s : Standing) → ends (step (call input) s.bench).outcome ≡ true
      → text_from (teller input) false s ≡ rows_from (first s.items.count) input (pending s.items) ++ Ending input s
  unfolding teller part_for is_told
  last_text s over =
      text_more (teller input) (falls input) s
      ∙ rw (over, text_over (teller input) (falls input) ((teller input).next s))
      (append-nil _ ∙ ap (λ (l : List ℕ). l ++ Ending input s) (pick_true (last_rows input s.items) [] ∙ last_rows_lem input s.items))

  abbrev Cursor : Standing → ℕ
  Cursor s = s.bench.reader.cursor

  abbrev Failed : Standing → Failing
  Failed s = failing (step (call input) s.bench).next.output (step (call input) s.bench).outcome

  abbrev Closed : Standing → List Item
  Closed s = pick (closes s.items (Cursor s) (Failed s)) (pending s.items) []

  -- a call after which it goes on tells the item that it closes
  more_text : (s : Standing) → ends (step (call input) s.bench).outcome ≡ false
      → text_from (teller input) false s ≡ rows_from (first s.items.count) input (Closed s) ++ text_from (teller input) false ((teller input).next s)
  unfolding teller part_for is_told
  more_text s on =
      text_more (teller input) (falls input) s
      ∙ rw (on, ends_none input (step (call input) s.bench).next.reader s.items.count (step (call input) s.bench).outcome on)
      (ap (λ (l : List ℕ). l ++ text_from (teller input) false ((teller input).next s))
      (append-nil _ ∙ rows_closed (closes s.items (Cursor s) (Failed s)) input s.items))

  abbrev Whole : ℕ → Standing → Type 0
  Whole k s = text_from (teller input) false s ≡ rows_from (first s.items.count) input (itemised k input s) ++ Ending input (advanced k input s)

  next_text : (k : ℕ) (s : Standing) → s.items.count < 18446744073709551615 → ends (step (call input) s.bench).outcome ≡ false
      → Whole k ((teller input).next s) → Whole (suc k) s
  unfolding itemised closed_by advanced teller items_by
  next_text k s less on rest =
      let next : Standing = (teller input).next s in
      let here : List ℕ = rows_from (first s.items.count) input (Closed s) in
      let there : first next.items.count ≡ first s.items.count + length (Closed s) = sym (counted_call s.items (Cursor s) (Failed s) less).rows_number in
      more_text s on
      ∙ ap (λ (l : List ℕ). here ++ l) rest
      ∙ sym (append_assoc here (rows_from (first next.items.count) input (itemised k input next)) (Ending input (advanced k input next)))
      ∙ ap (λ (n : ℕ). here ++ rows_from n input (itemised k input next) ++ Ending input (advanced k input next)) there
      ∙ ap (λ (l : List ℕ). l ++ Ending input (advanced k input next)) (sym (rows_join (first s.items.count) input (Closed s) (itemised k input next)))
      ∙ ap (λ (l : List Item). rows_from (first s.items.count) input l ++ Ending input (advanced k input next))
      (sym (append_assoc (Closed s) (closed_by k input next) (pending (advanced k input next).items)))

  few : (k : ℕ) (s : Standing) → s.items.count + suc k < 18446744073709551615 → ((teller input).next s).items.count + k < 18446744073709551615
  unfolding teller items_by
  few k s less = omega (arith, (counted_call s.items (Cursor s) (Failed s) (omega arith)).most)

  bench_next : (k : ℕ) (s : Standing) → GoesOn k input (step (call input) s.bench).next → GoesOn k input ((teller input).next s).bench
  unfolding teller
  bench_next k s on = on

  next_counted : (k : ℕ) (s : Standing) → s.items.count < 18446744073709551615
      → length (itemised k input ((teller input).next s)) + ((teller input).next s).items.count
      ≡ length (pending ((teller input).next s).items) + (advanced k input ((teller input).next s)).items.count
      → length (itemised (suc k) input s) + s.items.count ≡ length (pending s.items) + (advanced (suc k) input s).items.count
  unfolding itemised closed_by advanced teller items_by
  next_counted k s less rest =
      let next : Standing = (teller input).next s in
      let one = counted_call s.items (Cursor s) (Failed s) less in
      omega (
        arith,
        rest,
        one.number,
        length-append (Closed s ++ closed_by k input next) (pending (advanced k input next).items),
        length-append (Closed s) (closed_by k input next),
        length-append (closed_by k input next) (pending (advanced k input next).items),
      )

  text_by : (k : ℕ) (s : Standing) → s.items.count + k < 18446744073709551615 → GoesOn k input s.bench → Whole k s
  unfolding GoesOn itemised closed_by advanced
  text_by zero s less over = last_text s over
  text_by (suc k) s less on =
      next_text k s (omega arith) on.0 (text_by k ((teller input).next s) (few k s less) (bench_next k s on.1))

  -- ---- and their number

  counted_by : (k : ℕ) (s : Standing) → s.items.count + k < 18446744073709551615
      → length (itemised k input s) + s.items.count ≡ length (pending s.items) + (advanced k input s).items.count
  unfolding itemised closed_by advanced
  counted_by zero s less = refl
  counted_by (suc k) s less = next_counted k s (omega arith) (counted_by k ((teller input).next s) (few k s less))

pub row_for_each_item : RowForEachItem
row_for_each_item k input s none less on =
    text_by input k s (omega arith) on
    ∙ ap (λ (n : ℕ). rows_from n input (itemised k input s) ++ Ending input (advanced k input s)) (first_none s.items.count none)

pub items_counted : ItemsCounted
items_counted k input s none less =
    omega (arith, counted_by input k s (omega arith), ap length (none_pending s.items none))
