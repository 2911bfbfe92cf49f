-- `aim` meets its contract: the command is carried out at its place, and its answer counted.
use Rattle.calls.proofs.Doing.{aims_good, aims_error, never_refused}
use Rattle.calls.proofs.calling.aim.Goals as goal
use Rattle.calls.proofs.calling.aim.Goals.{in-Good, in-Error}

pub unreachable-requires : goal.unreachable-requires
unreachable-requires c =
    never_refused _ _ _ c.args.aimed c.args.state.reader c.args.state.next c.args.state.selected c.requires _ _ _ c.execute_at.ensures c.in-Refused.is

pub returns : goal.returns
returns c =
    elim c.match-execute_at.branch [
      | in-Good w ↦ rw w.length-is (aims_good _ _ _ _ _ _ _ c.requires _ _ _ c.execute_at.ensures _ _ w.in-Good.is w.with_good.ensures)
      | in-Error w ↦ rw w.length-is (aims_error _ _ _ _ _ c.args.state.next _ c.requires _ _ _ c.execute_at.ensures _ _ w.in-Error.is w.with_error.ensures)
    ]
