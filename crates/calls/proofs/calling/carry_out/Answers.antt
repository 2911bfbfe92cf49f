-- `carry_out` meets its contract: each job is done as the machine does it.
use Rattle.calls.proofs.Doing.{can_select, can_miss, can_aim, cut_parameters, cut_at, does_stay, does_drop, does_select, does_miss, does_aim, lends_stay, lends_drop, lends_select, lends_miss, lends_aim}
use Rattle.calls.proofs.calling.carry_out.Goals as goal

pub select-requires : goal.select-requires
select-requires c =
    (can_select _ _ _ c.args.state.reader _ c.requires _ c.in-Select.is).room

pub miss-requires : goal.miss-requires
miss-requires c =
    (can_miss _ _ _ c.args.state.reader _ c.requires _ _ c.in-Miss.is).room

pub aim-requires : goal.aim-requires
aim-requires c =
    (can_aim _ _ _ c.args.state.reader _ c.requires _ c.in-Aim.is).ready

pub returns-in-Stay : goal.returns-in-Stay
returns-in-Stay c = (λ places tags. does_stay _ _ _ _ _ _ _ places tags _ _ c.in-Stay.is, lends_stay _ _ _ _ _ c.in-Stay.is)

pub returns-in-DropByte : goal.returns-in-DropByte
returns-in-DropByte c = (
  λ places tags. does_drop _ _ _ _ _ _ _ places tags _ _ c.in-DropByte.is _ c.with_dropped.ensures,
  lends_drop _ _ _ _ _ c.in-DropByte.is,
)

pub returns-in-Select : goal.returns-in-Select
returns-in-Select c =
    let cut = cut_at c.args.input.now c.args.state.reader.cursor _ in (
      λ places tags. does_select _ _ _ _ _ _ _ places tags _ _ c.in-Select.is _ cut _ _ _ c.select.ensures,
      lends_select _ _ _ _ _ c.in-Select.is _ cut _ _ _ _ _ _ c.select.ensures,
    )

pub returns-in-Miss : goal.returns-in-Miss
returns-in-Miss c = (
  λ places tags. does_miss _ _ _ _ _ _ _ places tags _ _ _ c.in-Miss.is _ _ c.miss.ensures,
  lends_miss _ _ _ _ _ _ c.in-Miss.is _ _ _ _ _ c.miss.ensures,
)

pub returns-in-Aim : goal.returns-in-Aim
returns-in-Aim c =
    let cut = cut_parameters c.args.input.now _ _ in (
      λ places tags. does_aim _ _ _ _ _ _ _ places tags _ _ c.in-Aim.is _ cut _ c.next_after-next.ensures _ _ _ c.aim.ensures,
      lends_aim _ _ _ _ _ c.in-Aim.is _ _ _ _ _ _ _ _ _ c.aim.ensures,
    )
