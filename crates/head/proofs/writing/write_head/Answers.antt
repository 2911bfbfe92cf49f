-- `write_head` meets its contract: nothing without room; else the head.
use native.Mathlib.Omega.{arith}
use Rattle.head.proofs.Heads.{too_many, too_short, headed}
use Rattle.std.proofs.Common.{rules}
use Rattle.head.proofs.writing.write_head.Goals as goal

pub returns-then-sizes-gt16 : goal.returns-then-sizes-gt16
returns-then-sizes-gt16 c = too_many _ _ _ _ c.if-sizes-gt16.true

pub returns-then-buffer-lt2048 : goal.returns-then-buffer-lt2048
returns-then-buffer-lt2048 c = too_short _ _ _ _ c.if-buffer-lt2048.true

pub returns : goal.returns
returns c =
    let head = c.put_head.ensures in
    headed _ _ _ _ _ _ _ c.if-sizes-gt16.false c.if-buffer-lt2048.false (search rules) (head.put (omega arith)) head.short
