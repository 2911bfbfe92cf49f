-- `put_boxed` meets its contract: blanks, and what ends the row.
use native.Mathlib.Omega.{arith}
use Rattle.rows.specs.Columns.{boxed_row}
use Rattle.text.proofs.Lengths.{length_spaces}
use Rattle.text.proofs.Writing.{short_put, word_put, put_behind}
use Rattle.rows.proofs.columns.put_boxed.Goals as goal

pub returns : goal.returns
unfolding boxed_row
returns c = put_behind {m = 88} (short_put (omega (arith, length_spaces 88)) c.put_spaces.ensures) (word_put c.put_text.ensures)
