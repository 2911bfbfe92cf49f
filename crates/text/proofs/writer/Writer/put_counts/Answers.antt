-- `put_counts` meets its contract: the tally, what is left, and the newline, where the longest has room.
use mathlib.Core.Path.{refl}
use native.Mathlib.Omega.{arith}
use Rattle.std.proofs.Common.{rules}
use Rattle.text.proofs.CountLines.{counts_short}
use Rattle.text.proofs.Writing.{word_put, put_behind, count_put, puts_within, within_nothing}
use Rattle.text.specs.Counts.{left_word, counts_line}
use Rattle.text.proofs.writer.Writer.put_counts.Goals as goal

pub returns-then-has_room : goal.returns-then-has_room
unfolding left_word counts_line
returns-then-has_room c =
    puts_within (search rules)
    (put_behind (put_behind c.put_tally.ensures (count_put left_word refl c.put_count.ensures)) (word_put c.put_text.ensures))

pub returns-else-has_room : goal.returns-else-has_room
returns-else-has_room c =
    within_nothing _ _ _
    (counts_short c.args.tally c.args.left
    record {
      good_small = omega arith;
      error_small = omega arith;
      header_small = omega arith;
      kind_small = omega arith;
      long_small = omega arith;
      check_small = omega arith;
      end_small = omega arith;
    }
    (omega arith))
    (search rules)
