-- `put_refused` meets its contract: the word, the number and the newline, where the longest has room.
use mathlib.Core.Path.{refl}
use native.Mathlib.Omega.{arith}
use Rattle.std.proofs.Common.{rules}
use Rattle.text.proofs.CountLines.{refused_short}
use Rattle.text.proofs.Writing.{word_put, put_behind, count_put, puts_within, within_nothing}
use Rattle.text.specs.Counts.{refused_word, refused_line}
use Rattle.text.proofs.writer.Writer.put_refused.Goals as goal

pub returns-then-has_room : goal.returns-then-has_room
unfolding refused_word refused_line
returns-then-has_room c = puts_within (search rules) (put_behind (count_put refused_word refl c.put_count.ensures) (word_put c.put_text.ensures))

pub returns-else-has_room : goal.returns-else-has_room
returns-else-has_room c = within_nothing _ _ _ (refused_short c.args.number (omega arith)) (search rules)
