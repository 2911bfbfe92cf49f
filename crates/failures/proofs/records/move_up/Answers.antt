-- `move_up` meets its contract: a move puts an item where it goes, and what is read further on still stands there.
use Prim.Native.Nat.{◌<◌, ◌+◌}
use lib.ListN.{length, set}
use mathlib.Core.Path.{ap, ◌∙◌}
use Rattle.std.proofs.Common.{sym, arith, rules}
use Rattle.failures.proofs.Moves.{moved_none, moved_suc}
use Rattle.failures.proofs.records.move_up.Goals as goal

pub loop-k-init : goal.loop-k-init
loop-k-init g c = sym (moved_none c.args.items.now c.args.n)

pub offset_bounds-items-k : goal.offset_bounds-items-k
offset_bounds-items-k g c =
    let h : c.loop-k.k + c.args.n < length c.args.items.now = c.requires c.loop-k.k c.loop-k-test.true in search rules

pub offset_bounds-items-k-in-loop-k : goal.offset_bounds-items-k-in-loop-k
offset_bounds-items-k-in-loop-k g c =
    let h : c.loop-k.k + c.args.n < length c.args.items.now = c.requires c.loop-k.k c.loop-k-test.true in
    let l : c.loop-k.k < length c.args.items.now = omega arith in
    search rules

pub loop-k-preserved : goal.loop-k-preserved
loop-k-preserved g c =
    ap (λ r. set c.loop-k.items c.loop-k.k r) c.index-items-k.is
    ∙ (rw c.loop-k.invariant (moved_suc c.args.items.now c.args.n c.loop-k.k c.index-items-k.result (c.requires c.loop-k.k c.loop-k-test.true)))
