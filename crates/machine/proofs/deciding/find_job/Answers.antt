-- `find_job` meets its contract, case by case.
use Rattle.machine.proofs.Jobs.{found_is, frame_there, finds_end, finds_wait, finds_drop, finds_command}
use Rattle.machine.proofs.deciding.find_job.Goals as goal

pub command_job-requires : goal.command_job-requires
command_job-requires c =
    frame_there _ _ _ c.requires (found_is c.args.input.now c.args.cursor _ _ c.find.ensures c.in-Accept.is)

pub returns-in-End : goal.returns-in-End
returns-in-End c =
    finds_end _ _ _ _ _ _ (found_is c.args.input.now c.args.cursor _ _ c.find.ensures c.in-End.is)

pub returns-in-Wait : goal.returns-in-Wait
returns-in-Wait c =
    finds_wait _ _ _ _ _ _ (found_is c.args.input.now c.args.cursor _ _ c.find.ensures c.in-Wait.is)

pub returns-in-Drop : goal.returns-in-Drop
returns-in-Drop c =
    finds_drop _ _ _ _ _ _ _ (found_is c.args.input.now c.args.cursor _ _ c.find.ensures c.in-Drop.is)

pub returns-in-Accept : goal.returns-in-Accept
returns-in-Accept c =
    finds_command _ _ _ _ _ _ _ (found_is c.args.input.now c.args.cursor _ _ c.find.ensures c.in-Accept.is) _ c.command_job.ensures
