-- `put_hex` meets its contract: the two digits are a text.
use Rattle.text.specs.Digits.{hex_byte}
use Rattle.text.proofs.writer.Writer.put_hex.Goals as goal

pub returns : goal.returns
unfolding hex_byte
returns c = rw (c.hex_digit.ensures, c.hex_digit-2.ensures) at c.put_text.ensures
