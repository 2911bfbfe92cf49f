-- `run` is safe: the part of the line that is printed is there.
use lib.Seq.{length-take-le}
use mathlib.Core.Path.{sym}
use native.Mathlib.Omega.{arith}
use Rattle.published.proofs.run.Goals as goal

pub slice_bounds-line-end : goal.slice_bounds-line-end
slice_bounds-line-end c =
    let made = c.write in
    omega (arith, c.in-Some.ensures.within, made.auto.buffer)

pub slice_bounds-write_all-end : goal.slice_bounds-write_all-end
slice_bounds-write_all-end c =
    let made = c.write in
    sym (length-take-le _ _ (omega (arith, c.in-Some.ensures.within, made.auto.buffer)))
