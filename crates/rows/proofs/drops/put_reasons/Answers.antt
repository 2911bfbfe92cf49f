-- `put_reasons` meets its contract: the five, one behind the other.
use native.Mathlib.Omega.{arith}
use Rattle.rows.proofs.Reasons.{some_one, cells_held}
use Rattle.rows.proofs.drops.put_reasons.Goals as goal

pub put_cell-second-requires-clause-shown_bound : goal.put_cell-second-requires-clause-shown_bound
put_cell-second-requires-clause-shown_bound c = omega (arith, some_one)

pub put_cell-third-requires-clause-shown_bound : goal.put_cell-third-requires-clause-shown_bound
put_cell-third-requires-clause-shown_bound c = omega (arith, some_one)

pub put_cell-fourth-requires-clause-shown_bound : goal.put_cell-fourth-requires-clause-shown_bound
put_cell-fourth-requires-clause-shown_bound c = omega (arith, some_one)

pub put_cell-requires-clause-shown_bound : goal.put_cell-requires-clause-shown_bound
put_cell-requires-clause-shown_bound c = omega (arith, some_one)

pub returns : goal.returns
returns c =
    let a = c.put_cell-first.ensures in
    let b = c.put_cell-second.ensures in
    let d = c.put_cell-third.ensures in
    let e = c.put_cell-fourth.ensures in
    let f = c.put_cell.ensures in
    cells_held _ c.args.tally a.cell a.value b.cell b.value d.cell d.value e.cell e.value f.cell
