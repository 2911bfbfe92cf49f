-- `line` meets its contract: the line of each case.
use mathlib.Core.Path.{ap, sym}
use Rattle.report.specs.Lines.{too_long_line, unreadable_line}
use Rattle.report.specs.Report.{notice_of}
use Rattle.report.specs.declared.limits.Unfit.{Unfit}
use Rattle.std.proofs.Common.{Err}
use Rattle.report.proofs.limits.line.Goals as goal

pub returns-in-Unreadable : goal.returns-in-Unreadable
unfolding notice_of unreadable_line
returns-in-Unreadable c = ap (λ (unfit : Unfit). notice_of (Err unfit)) (sym c.in-Unreadable.is)

pub returns-in-TooLong : goal.returns-in-TooLong
unfolding notice_of too_long_line
returns-in-TooLong c = ap (λ (unfit : Unfit). notice_of (Err unfit)) (sym c.in-TooLong.is)
