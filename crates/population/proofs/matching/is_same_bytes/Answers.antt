use mathlib.Core.Path.{refl, sym, ◌∙◌}
use native.Mathlib.Omega.{arith}
use Rattle.population.proofs.Below.{none_below}
use Rattle.population.proofs.Bits.{byte_same, byte_differs}
use Rattle.population.specs.Matching.{same_bits}
use Rattle.population.proofs.matching.is_same_bytes.Goals as goal

pub loop-k-init : goal.loop-k-init
unfolding same_bits
loop-k-init c = (omega arith, refl)

pub returns-then-bits_from : goal.returns-then-bits_from
returns-then-bits_from c =
    sym (c.loop-k.invariant.1
    ∙ byte_differs _ _ _ _ c.loop-k-test.true _ _ c.bits_from.ensures c.bits_from-in-loop-k.ensures c.if-bits_from.true)

pub loop-k-preserved : goal.loop-k-preserved
loop-k-preserved c = (
  omega arith,
  c.loop-k.invariant.1
      ∙ byte_same _ _ _ _ c.loop-k-test.true _ _ c.bits_from.ensures c.bits_from-in-loop-k.ensures c.if-bits_from.false,
)

pub returns : goal.returns
returns c = sym (c.loop-k.invariant.1 ∙ none_below _ _ (omega arith))
