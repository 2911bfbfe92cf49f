-- `read_into` meets its contract: each file is read behind the one before it, and has room there; one that can't be opened takes none.
use Rattle.std.proofs.Common.{rules, arith}
use Rattle.files.proofs.Reading.{none_read, one_more, came}
use Rattle.files.proofs.tags.read_into.Goals as goal
use Rattle.files.proofs.tags.read_into.Goals.{in-Ok, in-Err-NotOpened, in-Err-Unreadable}

pub loop-i-init : goal.loop-i-init
loop-i-init g c = none_read _ _ c.requires.memory_len c.requires.sizes_len

pub loop-i-preserved : goal.loop-i-preserved
loop-i-preserved g c =
    elim c.match-read_file.branch [
      | in-Ok w ↦
          rw (w.size-is, w.count-is)
          (one_more _ _ _ _ _ _ _ c.loop-i.invariant c.loop-i-test.true _ _ _ (search rules) (omega (arith, w.in-Ok.ensures.read.0, c.read_file.auto.buffer))
          (omega arith))
      | in-Err-Unreadable w ↦
          rw (w.size-is, w.count-is)
          (one_more _ _ _ _ _ _ _ c.loop-i.invariant c.loop-i-test.true _ _ _ (search rules)
          (omega (arith, came _ _ _ w.in-Err-Unreadable.field-0-is w.in-Err-Unreadable.ensures.failed.0, c.read_file.auto.buffer)) (omega arith))
      | in-Err-NotOpened w ↦
          rw (w.size-is, w.count-is)
          (one_more _ _ _ _ _ _ _ c.loop-i.invariant c.loop-i-test.true _ _ _ (search rules) (omega arith) (omega (arith, c.loop-i.invariant.counted)))
    ]

pub overflow_add-at-in-loop-i : goal.overflow_add-at-in-loop-i
overflow_add-at-in-loop-i g c =
    elim c.match-read_file.branch [
      | in-Ok w ↦ omega (arith, w.size-is, w.in-Ok.ensures.read.0, c.read_file.auto.buffer, c.loop-i.invariant.little, c.loop-i.invariant.within)
      | in-Err-Unreadable w ↦
          omega (
            arith,
            w.size-is,
            came _ _ _ w.in-Err-Unreadable.field-0-is w.in-Err-Unreadable.ensures.failed.0,
            c.read_file.auto.buffer,
            c.loop-i.invariant.little,
            c.loop-i.invariant.within,
          )
      | in-Err-NotOpened w ↦ omega (arith, w.size-is, c.loop-i.invariant.little, c.loop-i.invariant.within)
    ]
