-- `is_last` meets its contract: one answer for each outcome.
use Rattle.report.proofs.CallLines.{goes_on, is_over}
use Rattle.report.proofs.writing.is_last.Goals as goal
use Rattle.report.proofs.writing.is_last.Goals.{in-Answered, in_default}

pub returns : goal.returns
returns c =
    elim c.match-matches.branch [
      | in-Answered w ↦ rw w.matches-is (goes_on _ w.in-Answered.is)
      | in_default w ↦ rw w.matches-is (is_over _ w.in_default.not-Answered w.in_default.not-Dropped)
    ]
