-- `put_tally` meets its contract: the seven counts behind each other.
use Rattle.text.proofs.Writing.{put_behind, count_put}
use Rattle.text.specs.Counts.{good_word, error_word, dropped_word, space_word, two_counts, tally_part}
use Rattle.text.proofs.writer.Writer.put_tally.Goals as goal

pub returns : goal.returns
unfolding good_word error_word dropped_word space_word two_counts tally_part
returns c =
    let first = put_behind (count_put good_word c.from.ensures c.put_count.ensures) (count_put error_word c.from-2.ensures c.put_count-2.ensures) in
    let second = put_behind (count_put dropped_word c.from-3.ensures c.put_count-3.ensures) (count_put space_word c.from-4.ensures c.put_count-4.ensures) in
    let third = put_behind (count_put space_word c.from-5.ensures c.put_count-5.ensures) (count_put space_word c.from-6.ensures c.put_count-6.ensures) in
    put_behind (put_behind (put_behind first second) third) (count_put space_word c.from-7.ensures c.put_count-7.ensures)
