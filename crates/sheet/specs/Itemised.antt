-- The items of a run, one behind the other, and their rows.
use Rattle.std.specs.Prelude.{ℕ, zero, suc, ◌+◌, List, [], ◌∷◌, ◌++◌, ◌≡◌, eqb}
use Rattle.machine.specs.Machine.{call, step, code_at}
use Rattle.frame.specs.Bytes.{pick}
use Rattle.rows.specs.Rows.{item_rows}
use Rattle.rows.specs.declared.items.Item.{Item}
use Rattle.sheet.specs.Items.{failing, closes}
use Rattle.sheet.specs.Sheet.{Standing, command_at, teller}
use Rattle.sheet.specs.declared.items.Items.{Items}

-- where the sheet stands after k calls
unfoldable pub advanced : ℕ → List ℕ → Standing → Standing
advanced zero input s = s
advanced (suc k) input s = advanced k input ((teller input).next s)

-- some of the run's calls leave this memory
abbrev pub LeftBySome : List ℕ → Standing → List ℕ → Type 0
LeftBySome input s memory = (k : ℕ) × (memory ≡ (advanced k input s).bench.memory)

-- the item that may still grow, where there is one
unfoldable pub pending : Items → List Item
pending items = pick (eqb items.count 0) [] (items.last ∷ [])

-- the items that k calls close, and all of them
unfoldable pub closed_by : ℕ → List ℕ → Standing → List Item
closed_by zero input s = []
closed_by (suc k) input s =
    pick (closes s.items s.bench.reader.cursor (failing (step (call input) s.bench).next.output (step (call input) s.bench).outcome))
    (pending s.items) []
    ++ closed_by k input ((teller input).next s)

unfoldable pub itemised : ℕ → List ℕ → Standing → List Item
itemised k input s = closed_by k input s ++ pending (advanced k input s).items

-- their rows, numbered
unfoldable pub rows_from : ℕ → List ℕ → List Item → List ℕ
rows_from n input [] = []
rows_from n input (item ∷ items) = item_rows n item (code_at input item.first) (command_at input item.first) ++ rows_from (n + 1) input items
