-- What the functions that write the sheet promise.
use Rattle.std.specs.Prelude.{ℕ, ◌+◌, ◌≤◌, Bool, false, List, ◌≡◌}
use Rattle.machine.specs.Lent.{selection_in}
use Rattle.machine.specs.Machine.{state_of}
use Rattle.frame.specs.Putting.{Put}
use Rattle.population.specs.declared.places.Population.{Population}
use Rattle.reader.specs.Readers.{fresh_bench}
use Rattle.sheet.specs.Items.{no_items}
use Rattle.sheet.specs.Sheet.{Standing, standing_of, teller}
use Rattle.sheet.specs.declared.telling.Progress.{Progress}
use Rattle.text.specs.declared.writer.Writer.{Writer}

-- more than the longest part has: the rows of an item, and the foot
abbrev pub longest_part : ℕ
longest_part = 1024

abbrev pub begun : Progress
begun = record { state = fresh_bench; items = no_items; over = false }

-- where a sheet goes on from
abbrev pub standing_at : List ℕ → Population → List ℕ → List ℕ → Progress → Standing
standing_at memory population bytes output p =
    standing_of
    (state_of memory population.places population.tags (selection_in bytes p.state.selected) output p.state.reader p.state.next)
    p.items

-- one call is made, its part is put at the writer's place, and the sheet stands where the call leaves it
pub record OnePart (input : List ℕ) (s : Standing) (before after : Writer) (next : Standing) (over : Bool) : Type 0 where
  pub same_reference : after.buffer.ghost_name ≡ before.buffer.ghost_name
  pub put : Put ((teller input).part s) before.at before.buffer.now after.buffer.now after.at
  pub most : after.at ≤ before.at + longest_part
  pub next_is : next ≡ (teller input).next s
  pub over_is : over ≡ (teller input).last s
