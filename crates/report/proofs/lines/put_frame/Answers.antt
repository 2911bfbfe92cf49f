-- `put_frame` meets its contract. The loop's invariant: the bytes put, with those that are still to come, are the whole line.
use Prim.Native.Nat.{◌+◌}
use native.Mathlib.Omega.{arith}
use Rattle.report.proofs.LinePuts.{separator_within, separator_last, one_more, whole_frame, put_same}
use Rattle.report.proofs.lines.put_frame.Goals as goal
use Rattle.report.proofs.lines.put_frame.Goals.{then-i-frame, else-i-frame}
use Rattle.text.proofs.Writing.{word_put}

pub loop-i-preserved : goal.loop-i-preserved
loop-i-preserved c =
    let frame = c.args.frame.now in
    let i = c.loop-i.i in
    elim c.if-i-frame.branch [
      | then-i-frame w ↦
          one_more frame i 32 c.loop-i-test.true (separator_within frame (i + 1) w.if-i-frame.true) c.loop-i.invariant c.put_hex.ensures
          (put_same w.writer-is (word_put w.put_text.ensures))
      | else-i-frame w ↦
          one_more frame i 10 c.loop-i-test.true (separator_last frame (i + 1) w.if-i-frame.false) c.loop-i.invariant c.put_hex.ensures
          (put_same w.writer-is (word_put w.put_text-else-i-frame.ensures))
    ]

pub returns : goal.returns
returns c = whole_frame c.args.frame.now (omega arith) c.loop-i.invariant
