-- `command_at` meets its contract: nothing is there, or some.
use borrow.Author.Tests.{leb-true, leb-false}
use Rattle.frame.proofs.Tests.{not_holds, not_fails}
use Rattle.sheet.proofs.Parts.{coded, command_none}
use Rattle.sheet.proofs.telling.command_at.Goals as goal

pub returns-then-not-fits : goal.returns-then-not-fits
returns-then-not-fits c =
    let short = leb-false _ _ (not_holds c.if-not-fits.true-raw c.fits.ensures) in
    coded _ _ _ _ c.code_at-code.ensures (command_none _ _ _ _ short c.parse_command.ensures)

pub command_there-requires : goal.command_there-requires
command_there-requires c = leb-true _ _ (not_fails c.if-not-fits.false-raw c.fits.ensures)

pub returns : goal.returns
returns c = coded _ _ _ _ c.code_at-code.ensures c.command_there.ensures
