-- `print` meets its contract: nothing is run where no rows follow; else the rows are those of the run on these files.
use Rattle.poldrisk_sheet.proofs.Printing.{not_run, rows_run}
use lib.Seq.{length-take-le}
use mathlib.Core.Path.{sym}
use native.Mathlib.Omega.{arith}
use borrow.Author.Rules.{rules}
use borrow.Author.Tests.{not-false}
use Rattle.poldrisk_sheet.proofs.print.Goals as goal

pub slice_bounds-write_all-end : goal.slice_bounds-write_all-end
slice_bounds-write_all-end c =
    let made = c.begin-begun in
    sym (length-take-le _ _ (omega (arith, made.ensures.within, made.auto)))

pub returns-then-not-write_all : goal.returns-then-not-write_all
returns-then-not-write_all c = not_run _ _ _

pub returns-then-not-begun : goal.returns-then-not-begun
returns-then-not-begun c = not_run _ _ _

pub returns : goal.returns
returns c =
    rows_run _ _ _ _ _ _ _ _ _ _ c.places_of-places.ensures c.begin-begun.ensures (search rules) (not-false _ c.if-not-begun.false) c.print_rows.ensures
