-- The part of one call: the rows of the item that is told, and what ends the sheet.
use Prim.Native.Nat.{ℕ, ◌+◌, ◌-◌, ◌≤◌, ◌<◌}
use borrow.Author.Tests.{eq-eqb, ne_eqb}
use lib.ListN.{length, take, drop, length-drop, drop_of_length-le}
use lib.Seq.{take_all, take-nil}
use mathlib.Core.Bool.{Bool, true, false, ◌||◌}
use mathlib.Core.List.{List, []}
use mathlib.Core.Path.{◌≡◌, refl, ap, sym, subst, ◌∙◌}
use native.Mathlib.Omega.{arith}
use Rattle.machine.proofs.Listing.{room_step}
use Rattle.machine.specs.Lent.{selection_in}
use Rattle.calls.specs.Calls.{step_of}
use Rattle.machine.specs.Machine.{state_of, call, Step, step, step_unless, code_at, parameters_at}
use Rattle.calls.specs.declared.calling.Called.{Called}
use Rattle.foot.proofs.FootTexts.{ended_put}
use Rattle.foot.specs.Ending.{Ends}
use Rattle.foot.specs.Foot.{end_for}
use Rattle.frame.proofs.Picks.{pick_true, pick_false}
use Rattle.frame.specs.Bytes.{pick, number, part}
use Rattle.frame.specs.Putting.{Put}
use Rattle.report.specs.Lines.{ends}
use Rattle.text.proofs.Puts.{put_join}
use Rattle.text.proofs.Writing.{nothing_put, within_puts}
use Rattle.rows.specs.Rows.{item_rows}
use Rattle.sheet.specs.Items.{failing, items_after, closes}
use Rattle.sheet.specs.Sheet.{Standing, standing_of, command_with, command_at, last_rows, items_by, is_told, part_for, teller}
use Rattle.sheet.specs.Writing.{OnePart}
use Rattle.sheet.specs.declared.items.Failing.{Failing}
use Rattle.sheet.specs.declared.items.Items.{Items}
use Rattle.tag.specs.Commands.{parse}
use Rattle.tag.specs.declared.commands.Parsed.{Parsed}
use Rattle.text.specs.Writing.{LaysWithin, Puts}
use Rattle.text.specs.declared.writer.Writer.{Writer}

-- ---- the command at a place

module _ (input : List ℕ) (cursor code : ℕ) (r : Parsed) where
  shown : (parameters : List ℕ) → r ≡ parse code parameters → parameters ≡ parameters_at input cursor (number (drop cursor input) 3) → r ≡ command_with input cursor code
  unfolding command_with
  shown parameters e is = e ∙ ap (parse code) is

  pub coded : code ≡ code_at input cursor → r ≡ command_with input cursor code → r ≡ command_at input cursor
  unfolding command_at
  coded is e = e ∙ ap (command_with input cursor) is

  -- behind the end nothing stands
  pub command_none : length input < cursor + 5 → r ≡ parse code (take (0 - 0) (drop 0 input)) → r ≡ command_with input cursor code
  unfolding parameters_at part
  command_none short e =
      let none : drop (cursor + 5) input ≡ [] = drop_of_length-le input {i = cursor + 5} (omega arith) in
      shown (take (0 - 0) (drop 0 input)) e (sym (ap (take (number (drop cursor input) 3)) none ∙ take-nil (number (drop cursor input) 3)))

  module _ (pl : ℕ) (there : cursor + 5 ≤ length input) (told : pl ≡ number (take (length input - cursor) (drop cursor input)) 3) where
    pl_is : pl ≡ number (drop cursor input) 3
    pl_is = told ∙ ap (λ (l : List ℕ). number l 3) (take_all (length input - cursor) (drop cursor input) (omega (arith, length-drop cursor input)))

    -- a frame that is cut off has what is there
    pub command_cut : length input - (cursor + 5) < pl → r ≡ parse code (take (length input - (cursor + 5)) (drop (cursor + 5) input)) → r ≡ command_with input cursor code
    unfolding parameters_at part
    command_cut cut e =
        let rest : List ℕ = drop (cursor + 5) input in
        let size = length-drop (cursor + 5) input in
        shown (take (length input - (cursor + 5)) rest) e
        (take_all (length input - (cursor + 5)) rest (omega arith) ∙ sym (take_all (number (drop cursor input) 3) rest (omega (arith, pl_is))))

    pub command_whole : r ≡ parse code (take (cursor + 5 + pl - (cursor + 5)) (drop (cursor + 5) input)) → r ≡ command_with input cursor code
    unfolding parameters_at part
    command_whole e =
        let n : cursor + 5 + pl - (cursor + 5) ≡ number (drop cursor input) 3 = omega (arith, pl_is) in
        shown (take (cursor + 5 + pl - (cursor + 5)) (drop (cursor + 5) input)) e (ap (λ (k : ℕ). take k (drop (cursor + 5) input)) n)

-- ---- the item that is told

module _ (input : List ℕ) (items : Items) (told : Bool) where
  pub not_told : (writer : Writer) → told ≡ false → Puts 300 (pick told (last_rows input items) []) writer writer
  not_told writer never = rw (never, pick_false) (nothing_put 300 writer)

  pub no_item : (writer : Writer) → told ≡ true → items.count ≡ 0 → Puts 300 (pick told (last_rows input items) []) writer writer
  unfolding last_rows
  no_item writer yes-told none = rw (yes-told, pick_true, eq-eqb items.count 0 none, pick_true) (nothing_put 300 writer)

  pub an_item : {before after : Writer} (code : ℕ) (parsed : Parsed) → told ≡ true → (items.count ≡ 0 → ⊥)
      → code ≡ code_at input items.last.first → parsed ≡ command_at input items.last.first
      → LaysWithin 300 (item_rows items.count items.last code parsed) before after
      → Puts 300 (pick told (last_rows input items) []) before after
  unfolding last_rows
  an_item code parsed yes-told some coded parsed-is laid =
      rw (yes-told, pick_true, ne_eqb items.count 0 some, pick_false, ← coded, ← parsed-is) (within_puts laid)

-- ---- one call

module _ (input : List ℕ) (s : Standing) (r : Called) (memory bytes output : List ℕ)
    (made : step_of r memory s.bench.places s.bench.tags bytes output ≡ step_unless false (call input) s.bench) where
  made_is : step_of r memory s.bench.places s.bench.tags bytes output ≡ step (call input) s.bench
  made_is = made ∙ room_step false (call input) s.bench refl

  pub one_part : {before middle after : Writer} (f : Failing) (over told : Bool) (items : Items) → f ≡ failing output r.outcome
      → over ≡ ends r.outcome → told ≡ (over || closes s.items s.bench.reader.cursor f) → items ≡ items_after s.items s.bench.reader.cursor f
      → before.at + 1024 ≤ length before.buffer.now
      → Puts 300 (pick told (last_rows input s.items) []) before middle
      → Ends (end_for input r.state.reader s.items.count r.outcome) middle after
      → OnePart input s before after
      (standing_of (state_of memory s.bench.places s.bench.tags (selection_in bytes r.state.selected) output r.state.reader r.state.next) items) over
  unfolding teller part_for is_told items_by
  one_part {before = before} {middle = middle} {after = after} f over told items f-is over_is told_is items-are room rows end =
      let x : Step = step_of r memory s.bench.places s.bench.tags bytes output in
      let known : told ≡ is_told s x = told_is ∙ rw (over_is, f-is) in
      let told_rows = rows.put (omega arith) in
      let ending = ended_put _ middle.at middle.buffer.now after.buffer.now after.at (omega (arith, told_rows.next_is, rows.short, rows.same_length)) end.ended in
      let whole = put_join _ _ before.at before.buffer.now middle.buffer.now after.buffer.now middle.at after.at told_rows ending.0 in
      let part : Put (part_for input s x) before.at before.buffer.now after.buffer.now after.at = rw known at whole in
      record {
        same_reference = end.same_reference ∙ rows.same_reference;
        put = subst (λ (y : Step). Put (part_for input s y) before.at before.buffer.now after.buffer.now after.at) made_is part;
        most = omega (arith, ending.1, told_rows.next_is, rows.short);
        next_is =
            ap (λ (i : Items). standing_of x.next i) (items-are ∙ ap (items_after s.items s.bench.reader.cursor) f-is)
            ∙ ap (λ (y : Step). standing_of y.next (items_by input s y)) made_is;
        over_is = over_is ∙ ap (λ (y : Step). ends y.outcome) made_is;
      }
