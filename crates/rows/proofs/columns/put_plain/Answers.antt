-- `put_plain` meets its contract: blanks, and what ends the row.
use native.Mathlib.Omega.{arith}
use Rattle.rows.specs.Columns.{plain_row}
use Rattle.text.proofs.Lengths.{length_spaces}
use Rattle.text.proofs.Writing.{short_put, word_put, put_behind}
use Rattle.rows.proofs.columns.put_plain.Goals as goal

pub returns : goal.returns
unfolding plain_row
returns c = put_behind {m = 99} (short_put (omega (arith, length_spaces 99)) c.put_spaces.ensures) (word_put c.put_text.ensures)
