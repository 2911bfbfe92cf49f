-- `print_notice` meets its contract: what was written stands in the buffer.
use Rattle.console.proofs.Printing.{told_there}
use lib.Seq.{length-take-le}
use mathlib.Core.Path.{sym}
use Rattle.console.proofs.print_notice.Goals as goal

pub slice_bounds-write_all-end : goal.slice_bounds-write_all-end
slice_bounds-write_all-end c =
    let made = c.write_notice-used in
    told_there _ _ _ _ made.ensures made.auto.buffer

pub slice_bounds-write_all-end-2 : goal.slice_bounds-write_all-end-2
slice_bounds-write_all-end-2 c =
    let made = c.write_notice-used in
    sym (length-take-le _ _ (told_there _ _ _ _ made.ensures made.auto.buffer))

pub returns : goal.returns
returns c =
    let made = c.write_notice-used in
    record { used = _; told = made.ensures }
