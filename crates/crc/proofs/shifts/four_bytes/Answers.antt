-- `four_bytes` meets its contract: the sum of shifts is what the plain steps give.
use Rattle.std.proofs.Common.{◌<◌, ◌∙◌, rules}
use Rattle.crc.proofs.Folds.{half_folded}
use Rattle.crc.proofs.shifts.four_bytes.Goals as goal

pub returns : goal.returns
returns c =
    let given = c.args in
    let word : given.register < 0x10000 = search rules in
    let four : given.four < 4294967296 = search rules in
    c.spread_out.ensures ∙ rw (c.from.ensures, c.from-2.ensures) (half_folded given.register given.four word four)
