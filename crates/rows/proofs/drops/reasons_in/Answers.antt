-- `reasons_in` meets its contract: the five together.
use mathlib.Core.Path.{◌∙◌}
use native.Mathlib.Omega.{arith}
use Rattle.rows.proofs.Reasons.{some_counted}
use Rattle.rows.specs.Rows.{reasons_in}
use Rattle.rows.proofs.drops.reasons_in.Goals as goal

pub returns : goal.returns
unfolding reasons_in
returns c =
    let t = c.args.tally in
    omega (
      arith,
      c.from.ensures ∙ some_counted t.kind,
      c.from-2.ensures ∙ some_counted t.long,
      c.from-3.ensures ∙ some_counted t.check,
      c.from-4.ensures ∙ some_counted t.end,
      c.from-5.ensures ∙ some_counted t.header,
    )
