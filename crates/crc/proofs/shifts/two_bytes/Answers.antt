-- `two_bytes` meets its contract: the two enter together, and sixteen steps are worked.
use borrow.Author.Rules.{rules}
use mathlib.Core.Path.{◌∙◌}
use Prim.Native.Nat.{◌<◌}
use Rattle.crc.proofs.Folds.{entered_together}
use Rattle.crc.proofs.shifts.two_bytes.Goals as goal

pub returns : goal.returns
returns c =
    let given = c.args in
    let word : given.register < 0x10000 = search rules in
    let a : given.a < 256 = search rules in
    let b : given.b < 256 = search rules in
    c.sixteen_steps.ensures ∙ rw c.from_be_bytes.ensures (entered_together given.register given.a given.b word a b)
