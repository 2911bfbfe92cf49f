use borrow.Author.Tests.{le-leb, lt-leb}
use mathlib.Core.Path.{sym, ◌∙◌}
use native.Mathlib.Omega.{arith}
use Rattle.population.proofs.Overlaps.{apart_first}
use Rattle.population.proofs.Populations.{apart_else}
use Rattle.population.proofs.places.Place.is_apart_from.Goals as goal

pub returns-then-end-from : goal.returns-then-end-from
returns-then-end-from c = le-leb _ _ c.if-end-from.true ∙ sym (apart_first c.args.self c.args.other (omega arith))

pub returns-else-end-from : goal.returns-else-end-from
returns-else-end-from c =
    apart_else _ _ _ (lt-leb _ _ (omega arith)) (simp (c.end-else-end-from.ensures, c.from-else-end-from.ensures))
