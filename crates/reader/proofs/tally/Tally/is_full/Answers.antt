-- `Tally::is_full` meets its contract: where the bits of all counts together are below the limit no count is at it, else the counts are looked through.
use Rattle.std.proofs.Common.{sym}
use Rattle.reader.proofs.Tallies.{few_bits}
use Rattle.reader.specs.Tallies.{limit, any_at_limit, full}
use Rattle.reader.proofs.tally.Tally.is_full.Goals as goal

pub returns-then-bits-lt-LIMIT : goal.returns-then-bits-lt-LIMIT
unfolding limit full
returns-then-bits-lt-LIMIT c = sym (few_bits _ _ c.if-bits-lt-LIMIT.true)

pub returns : goal.returns
unfolding limit any_at_limit full
returns c = rw c.counts.ensures at c.contains.ensures.value
