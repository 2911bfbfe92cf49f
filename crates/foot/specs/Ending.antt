-- What the end of the sheet promises of the writer that it was lent.
use Rattle.std.specs.Prelude.{List, ℕ, ◌≡◌}
use Rattle.foot.specs.Foot.{Ended}
use Rattle.text.specs.declared.writer.Writer.{Writer}

-- the text is laid at the writer's place, and the writer keeps the reference to its buffer
pub record Ends (text : List ℕ) (before after : Writer) : Type 0 where
  pub same_reference : after.buffer.ghost_name ≡ before.buffer.ghost_name
  pub ended : Ended text before.at before.buffer.now after.buffer.now after.at
