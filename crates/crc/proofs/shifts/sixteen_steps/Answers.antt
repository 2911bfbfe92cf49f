-- `sixteen_steps` meets its contract: the sum of shifts is what the plain steps give.
use borrow.Author.Rules.{rules}
use mathlib.Core.Path.{◌∙◌}
use Prim.Native.Nat.{◌<◌}
use Rattle.crc.proofs.Folds.{folded_is}
use Rattle.crc.proofs.shifts.sixteen_steps.Goals as goal

pub returns : goal.returns
returns c =
    let register = c.args.register in
    let word : register < 0x10000 = search rules in
    c.spread_out.ensures ∙ folded_is register word
