-- `put_foot` meets its contract: what waits, the counts, the failures, and the lines for the names.
use mathlib.Core.Path.{ap}
use Rattle.foot.specs.Foot.{foot}
use Rattle.text.proofs.Writing.{word_put, within_puts, put_behind, same_piece}
use Rattle.text.specs.Counts.{counts_line}
use Rattle.foot.proofs.ending.put_foot.Goals as goal

pub returns : goal.returns
unfolding foot
returns c =
    let counts = same_piece (ap (counts_line c.args.reader.tally) c.missing.ensures) (within_puts c.put_counts.ensures) in
    let rows = put_behind (put_behind c.put_waiting_rows.ensures (word_put c.put_text.ensures)) counts in
    put_behind (put_behind rows c.put_failures.ensures) c.put_signature.ensures
