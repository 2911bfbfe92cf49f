use borrow.Author.Tests.{ne_eqb}
use mathlib.Core.Path.{◌∙◌}
use Rattle.population.proofs.Selects.{selected_outside, selected_gone, selected_present}
use Rattle.population.proofs.lowest.is_selected.Goals as goal

pub returns-then-byte_at-eq0 : goal.returns-then-byte_at-eq0
returns-then-byte_at-eq0 c =
    selected_present _ _ _ c.in-Some.ensures.0 _ c.in-Some.ensures.1 _ c.byte_at.ensures c.if-byte_at-eq0.true _ c.is_match.ensures

pub returns-else-byte_at-eq0 : goal.returns-else-byte_at-eq0
returns-else-byte_at-eq0 c =
    ne_eqb _ _ c.if-byte_at-eq0.false ∙ selected_gone _ _ _ c.in-Some.ensures.0 _ c.in-Some.ensures.1 _ c.byte_at.ensures c.if-byte_at-eq0.false

pub returns-in-None : goal.returns-in-None
returns-in-None c = selected_outside _ _ _ c.in-None.ensures
