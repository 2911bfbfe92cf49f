-- `write_line` meets its contract: the machine's step beside a list with room, and its line.
use Rattle.report.proofs.CallLines.{called_framed, called_line}
use Rattle.report.proofs.writing.write_line.Goals as goal

pub put_line-requires : goal.put_line-requires
put_line-requires c =
    let a = c.args in
    called_framed a.input.now _ a.selection.now _ _ c.with_room-list.ensures _ _ _ _ c.call_beside-listed.ensures

pub returns : goal.returns
returns c =
    let a = c.args in
    called_line a.input.now _ a.selection.now _ _ c.with_room-list.ensures _ _ _ _ c.call_beside-listed.ensures _ c.put_line.ensures c.is_last.ensures
