-- `write_notice` meets its contract: the line of each case, and none of files that fit.
use mathlib.Core.Path.{refl}
use Rattle.std.proofs.Common.{rules}
use Rattle.report.proofs.NotRun.{told, fit_told}
use Rattle.report.proofs.limits.write_notice.Goals as goal

pub returns-in_default : goal.returns-in_default
returns-in_default c = fit_told _ _ c.in_default.not-Err

pub returns : goal.returns
returns c = rw (c.in-Err.is, ← c.line.ensures) (told _ _ _ refl (search rules) c.put_text.ensures)
