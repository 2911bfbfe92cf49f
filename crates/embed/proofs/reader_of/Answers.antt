-- `reader_of` meets its contract: the bits of all counts together tell whether one is out of range.
use native.Mathlib.Omega.{arith}
use Rattle.embed.proofs.Packing.{too_high_together, fit_together, counts_fit, too_high, all_fit}
use Rattle.reader.specs.Tallies.{limit}
use Rattle.embed.proofs.reader_of.Goals as goal

pub returns-then-bits-gt-LIMIT : goal.returns-then-bits-gt-LIMIT
unfolding limit
returns-then-bits-gt-LIMIT c = too_high _ (too_high_together _ _ c.if-bits-gt-LIMIT.true)

pub overflow_cast-result : goal.overflow_cast-result
unfolding limit
overflow_cast-result c =
    omega (arith, counts_fit c.args.state.now 0 c.if-bits-gt-LIMIT.false)

pub overflow_cast-result-2 : goal.overflow_cast-result-2
unfolding limit
overflow_cast-result-2 c =
    omega (arith, counts_fit c.args.state.now 1 c.if-bits-gt-LIMIT.false)

pub overflow_cast-result-3 : goal.overflow_cast-result-3
unfolding limit
overflow_cast-result-3 c =
    omega (arith, counts_fit c.args.state.now 2 c.if-bits-gt-LIMIT.false)

pub overflow_cast-result-4 : goal.overflow_cast-result-4
unfolding limit
overflow_cast-result-4 c =
    omega (arith, counts_fit c.args.state.now 3 c.if-bits-gt-LIMIT.false)

pub overflow_cast-result-5 : goal.overflow_cast-result-5
unfolding limit
overflow_cast-result-5 c =
    omega (arith, counts_fit c.args.state.now 4 c.if-bits-gt-LIMIT.false)

pub overflow_cast-result-6 : goal.overflow_cast-result-6
unfolding limit
overflow_cast-result-6 c =
    omega (arith, counts_fit c.args.state.now 5 c.if-bits-gt-LIMIT.false)

pub overflow_cast-result-7 : goal.overflow_cast-result-7
unfolding limit
overflow_cast-result-7 c =
    omega (arith, counts_fit c.args.state.now 6 c.if-bits-gt-LIMIT.false)

pub returns : goal.returns
unfolding limit
returns c = all_fit _ (fit_together _ _ c.if-bits-gt-LIMIT.false)
