-- `put_drop` meets its contract: the word, the byte and the newline.
use Rattle.report.specs.Lines.{drop_word, drop_line}
use Rattle.text.proofs.Writing.{word_put, hex_put, put_behind}
use Rattle.report.proofs.lines.put_drop.Goals as goal

pub returns : goal.returns
unfolding drop_word drop_line
returns c = put_behind (word_put c.put_text.ensures) (put_behind (hex_put _ c.put_hex.ensures) (word_put c.put_text-2.ensures))
