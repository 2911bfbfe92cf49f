-- The sheet behind its head: a row for each item of the run, and a foot with the counts and the lines for the names.
use Rattle.std.specs.Prelude.{ℕ, Bool, ◌||◌, List, [], ◌++◌, eqb, drop}
use Rattle.foot.specs.Foot.{end_for}
use Rattle.machine.specs.Machine.{State, call, Step, step, work, code_at, parameters_at}
use Rattle.frame.specs.Bytes.{pick, number}
use Rattle.report.specs.Lines.{ends}
use Rattle.report.specs.Report.{fresh}
use Rattle.rows.specs.Rows.{item_rows}
use Rattle.sheet.specs.Items.{no_items, failing, items_after, closes}
use Rattle.sheet.specs.declared.items.Items.{Items}
use Rattle.tag.specs.Commands.{parse}
use Rattle.tag.specs.declared.commands.Parsed.{Parsed}
use Rattle.text.specs.Telling.{Teller}

-- where the sheet stands: the bench, and the items so far
pub record Standing : Type 0 where
  pub bench : State
  pub items : Items

abbrev pub standing_of : State → Items → Standing
standing_of bench items = record { bench = bench; items = items }

-- ---- the rows

-- "The command is decoded from the input at the record's cursor": the frame that begins there
unfoldable pub command_with : List ℕ → ℕ → ℕ → Parsed
command_with input cursor code = parse code (parameters_at input cursor (number (drop cursor input) 3))

unfoldable pub command_at : List ℕ → ℕ → Parsed
command_at input cursor = command_with input cursor (code_at input cursor)

-- the rows of the last item, where there is one
unfoldable pub last_rows : List ℕ → Items → List ℕ
last_rows input items =
    pick (eqb items.count 0) []
    (item_rows items.count items.last (code_at input items.last.first) (command_at input items.last.first))

-- ---- call by call

unfoldable pub items_by : List ℕ → Standing → Step → Items
items_by input s x = items_after s.items s.bench.reader.cursor (failing x.next.output x.outcome)

-- an item is told when the next one begins, or the run ends
unfoldable pub is_told : Standing → Step → Bool
is_told s x = ends x.outcome || closes s.items s.bench.reader.cursor (failing x.next.output x.outcome)

unfoldable pub part_for : List ℕ → Standing → Step → List ℕ
part_for input s x = pick (is_told s x) (last_rows input s.items) [] ++ end_for input x.next.reader s.items.count x.outcome

unfoldable pub teller : List ℕ → Teller Standing
teller input =
    record {
      part = λ s. part_for input s (step (call input) s.bench);
      next = λ s. standing_of (step (call input) s.bench).next (items_by input s (step (call input) s.bench));
      last = λ s. ends (step (call input) s.bench).outcome;
      work = λ s. work input s.bench;
    }

-- ---- where the program begins

abbrev pub begun_on : List ℕ → List ℕ → Standing
begun_on memory sizes = standing_of (fresh memory sizes) no_items
