-- `put_line` meets its contract: the line that each answer of a call has.
use lib.Seq.{length-take-le}
use mathlib.Core.Path.{sym}
use native.Mathlib.Omega.{arith}
use Rattle.report.proofs.CallLines.{frame_put, drop_put, counts_put, refused_put}
use Rattle.text.proofs.Writing.{within_puts, more_room}
use Rattle.report.proofs.writing.put_line.Goals as goal

pub slice_bounds-put_frame-end : goal.slice_bounds-put_frame-end
slice_bounds-put_frame-end c =
    let framed = c.requires c.in-Answered.is in
    sym (length-take-le c.args.called.length c.args.output.now framed.there)

pub returns-in-Answered : goal.returns-in-Answered
returns-in-Answered c =
    let a = c.args in
    let framed = c.requires c.in-Answered.is in
    let all = length-take-le a.called.length a.output.now framed.there in
    frame_put a.input.now a.output.now a.cursor a.called c.in-Answered.is (more_room 408 (omega (arith, all, framed.at_most_136)) c.put_frame.ensures)

pub returns-in-Dropped : goal.returns-in-Dropped
returns-in-Dropped c =
    let a = c.args in
    drop_put a.input.now a.output.now a.cursor a.called _ _ c.in-Dropped.is c.byte_at.ensures (more_room {most = 8} 408 (omega arith) c.put_drop.ensures)

pub returns-in-AtEnd : goal.returns-in-AtEnd
returns-in-AtEnd c =
    let a = c.args in
    counts_put a.input.now a.output.now a.cursor a.called _ c.in-AtEnd.is c.missing.ensures
    (more_room {most = 192} 408 (omega arith) (within_puts c.put_counts.ensures))

pub returns-in-PastEnd : goal.returns-in-PastEnd
returns-in-PastEnd c =
    let a = c.args in
    refused_put a.input.now a.output.now a.cursor a.called _ c.in-PastEnd.is c.from.ensures
    (more_room {most = 29} 408 (omega arith) (within_puts c.put_refused.ensures))
