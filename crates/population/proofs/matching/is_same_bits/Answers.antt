use borrow.Author.Tests.{ne_eqb}
use mathlib.Core.Path.{◌∙◌}
use Rattle.population.proofs.Bits.{rest_differs, rest_same}
use Rattle.population.proofs.matching.is_same_bits.Goals as goal

pub returns-then-bits_from : goal.returns-then-bits_from
returns-then-bits_from c =
    rest_same _ _ _ _ _ _ c.bits_from.ensures c.bits_from-2.ensures c.if-bits_from.true _ c.is_same_bytes.ensures

pub returns-else-bits_from : goal.returns-else-bits_from
returns-else-bits_from c =
    ne_eqb _ _ c.if-bits_from.false ∙ rest_differs _ _ _ _ _ _ c.bits_from.ensures c.bits_from-2.ensures c.if-bits_from.false
