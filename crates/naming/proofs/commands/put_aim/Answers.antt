-- `put_aim` meets its contract: the bank, the pointer and the count.
use native.Mathlib.Omega.{arith}
use Rattle.naming.proofs.Widths.{bank_short}
use Rattle.naming.specs.Commands.{aim_text}
use Rattle.text.proofs.Writing.{decimal_put, word_put, put_behind, text_put}
use Rattle.naming.proofs.commands.put_aim.Goals as goal

pub returns : goal.returns
unfolding aim_text
returns c =
    let bank = text_put 8 c.bank_name.ensures (bank_short _) c.put_text.ensures in
    let from = put_behind (put_behind bank (word_put c.put_text-2.ensures)) (decimal_put (omega arith) c.put_decimal.ensures) in
    put_behind (put_behind from (word_put c.put_text-3.ensures)) (decimal_put (omega arith) c.put_decimal-2.ensures)
