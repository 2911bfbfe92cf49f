-- `command_job` meets its contract: Set Select, no tag, or the lowest one.
use Rattle.machine.proofs.Jobs.{selects, misses, aims}
use Rattle.machine.proofs.deciding.command_job.Goals as goal

pub returns-then-code-eq12 : goal.returns-then-code-eq12
returns-then-code-eq12 c = selects _ _ _ _ _ _ _ c.if-code-eq12.true

pub returns-in-None : goal.returns-in-None
returns-in-None c =
    misses _ _ _ _ _ _ _ c.if-code-eq12.false _ c.lowest.ensures c.in-None.is _ c.error_without.ensures

pub returns-in-Some : goal.returns-in-Some
returns-in-Some c =
    aims _ _ _ _ _ _ _ c.if-code-eq12.false _ c.lowest.ensures _ _ c.in-Some.is
