-- `eight_bytes` meets its contract: the sum of shifts is what the plain steps give.
use Rattle.std.proofs.Common.{◌<◌, ◌^◌, ◌∙◌, rules}
use Rattle.crc.proofs.Folds.{long_folded}
use Rattle.crc.proofs.shifts.eight_bytes.Goals as goal

pub returns : goal.returns
returns c =
    let given = c.args in
    let word : given.register < 0x10000 = search rules in
    let eight : given.eight < 2 ^ 64 = search rules in
    c.spread_out.ensures ∙ rw c.from.ensures (long_folded given.register given.eight word eight)
