-- `put_signature` meets its contract: the line for the names, and the last line.
use Rattle.foot.specs.Foot.{name_line, end_line, signature_lines}
use Rattle.text.proofs.Writing.{word_put, put_behind}
use Rattle.foot.proofs.ending.put_signature.Goals as goal

pub returns : goal.returns
unfolding name_line end_line signature_lines
returns c = put_behind (word_put c.put_text.ensures) (word_put c.put_text-2.ensures)
