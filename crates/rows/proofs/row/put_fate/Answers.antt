-- `put_fate` meets its contract: the number of bytes, the word for it, and what became of them.
use native.Mathlib.Omega.{arith}
use Rattle.rows.specs.Rows.{bytes_text}
use Rattle.text.proofs.Lengths.{either_short}
use Rattle.text.proofs.Writing.{decimal_put, word_put, text_put, put_behind}
use Rattle.rows.proofs.row.put_fate.Goals as goal

pub returns : goal.returns
unfolding bytes_text
returns c =
    let unit = text_put 6 c.word_for.ensures (either_short _ 6 _ _ (omega arith) (omega arith)) c.put_text.ensures in
    put_behind (put_behind (decimal_put (omega arith) c.put_decimal.ensures) unit) (word_put c.put_text-2.ensures)
