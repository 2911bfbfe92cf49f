use borrow.Author.Tests.{eqb-true, eqb-false}
use mathlib.Core.Path.{◌∙◌}
use Rattle.frame.proofs.Tests.{holds, fails}
use Rattle.population.proofs.Takings.{none_is_good, taken_decides}
use Rattle.population.proofs.selection.is_good_selection.Goals as goal

pub returns-then-is_empty : goal.returns-then-is_empty
returns-then-is_empty c = c.if-is_empty.true ∙ none_is_good _ (eqb-true _ _ (holds c.if-is_empty.true c.is_empty.ensures))

pub returns-else-is_empty : goal.returns-else-is_empty
returns-else-is_empty c = taken_decides _ (eqb-false _ _ (fails c.if-is_empty.false c.is_empty.ensures)) _ c.is_taken.ensures
