-- `put_count` meets its contract: the word, then the number.
use native.Mathlib.Omega.{arith}
use Rattle.std.proofs.Common.{rules}
use Rattle.text.proofs.CountLines.{count_short}
use Rattle.text.proofs.Writing.{word_put, decimal_put, put_behind, puts_within, within_nothing}
use Rattle.text.specs.Counts.{count_part}
use Rattle.text.proofs.writer.Writer.put_count.Goals as goal

pub returns-then-has_room : goal.returns-then-has_room
unfolding count_part
returns-then-has_room c =
    puts_within (search rules) (put_behind (word_put c.put_text.ensures) (decimal_put (omega arith) c.put_decimal.ensures))

pub returns-else-has_room : goal.returns-else-has_room
returns-else-has_room c = within_nothing _ _ _ (count_short c.args.word.now c.args.n (omega arith)) (search rules)
