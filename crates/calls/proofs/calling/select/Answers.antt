-- `select` meets its contract: the parameters are kept where they are taken, and else refused.
use Rattle.calls.proofs.Doing.{not_taken, is_taken}
use Rattle.frame.proofs.Tests.{holds, fails}
use Rattle.frame.specs.Bytes.{byte}
use Rattle.population.proofs.Takings.{taken_short}
use borrow.Author.Rules.{rules}
use native.Mathlib.Omega.{arith}
use Rattle.calls.proofs.calling.select.Goals as goal

pub returns-then-not-is_taken : goal.returns-then-not-is_taken
returns-then-not-is_taken c =
    not_taken _ _ _ _ _ _ _ (fails c.if-not-is_taken.true c.is_taken.ensures) _ c.miss.ensures

pub returns : goal.returns
unfolding byte
returns c =
    let taken = holds c.if-not-is_taken.false c.is_taken.ensures in
    is_taken c.args.selection.now _ _ _ _ _ _ taken (taken_short _ (omega (arith, c.type_inv.parameters 5)) taken)
    (search rules) _ c.copy.ensures _
    c.put_byte-length.ensures _ c.with_good.ensures
