-- `print` meets its contract: files that are not run leave the image, and of others the report is printed.
use mathlib.Core.Path.{refl}
use Rattle.console.proofs.Printing.{untouched, short_sizes, printed}
use Rattle.console.proofs.print.Goals as goal

pub lay_out-requires : goal.lay_out-requires
lay_out-requires c =
    let a = c.args in
    short_sizes a.readable a.commands.now a.memory.now a.sizes.now _ c.judge-files.ensures c.in-Ok.is

pub returns-in-Ok : goal.returns-in-Ok
returns-in-Ok c =
    let a = c.args in
    printed a.readable a.commands.now a.memory.now a.sizes.now _ c.judge-files.ensures _ _ _ c.in-Ok.is (rw c.lay_out.ensures refl) c.print_pieces.ensures

pub returns-in-Err : goal.returns-in-Err
returns-in-Err c =
    let a = c.args in
    untouched a.readable a.commands.now a.memory.now a.sizes.now _ c.judge-files.ensures _ _ c.in-Err.is
