use mathlib.Core.Path.{◌∙◌}
use native.Mathlib.Omega.{arith}
use Rattle.population.proofs.Bits.{bits_are}
use Rattle.population.proofs.matching.bits_from.Goals as goal

pub returns : goal.returns
returns c =
    bits_are _ _ _ _ (c.from.ensures ∙ c.byte_at.ensures) (c.from-2.ensures ∙ c.byte_at-2.ensures) (omega arith) _ (omega arith)
