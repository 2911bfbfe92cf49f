-- `commands_in` meets its contract. The loop's invariant: so many are counted, and those in the rest are still to come.
use Prim.Native.Nat.{◌+◌}
use mathlib.Core.Path.{sym, ◌∙◌}
use native.Mathlib.Omega.{arith}
use Rattle.frame.proofs.Accepting.{accepted}
use Rattle.frame.specs.Formats.{commands}
use Rattle.head.proofs.Taken.{none_more, drop_there, after_drop, after_accept, length_left}
use Rattle.head.proofs.commands.commands_in.Goals as goal

pub returns-in-End : goal.returns-in-End
returns-in-End c = omega (arith, c.loop-rest.invariant.counted, none_more c.loop-rest.rest.now c.find.ensures c.in-End.is)

pub slice_bounds-rest-count : goal.slice_bounds-rest-count
slice_bounds-rest-count c = drop_there _ _ (sym c.find.ensures ∙ c.in-Drop.is)

pub slice_bounds-rest-start : goal.slice_bounds-rest-start
slice_bounds-rest-start c = drop_there _ _ (sym c.find.ensures ∙ c.in-Drop.is)

pub loop-rest-smaller-in-Drop : goal.loop-rest-smaller-in-Drop
loop-rest-smaller-in-Drop c =
    omega (arith, drop_there _ _ (sym c.find.ensures ∙ c.in-Drop.is), length_left c.loop-rest.rest.now 1)

pub loop-rest-preserved-in-Drop : goal.loop-rest-preserved-in-Drop
loop-rest-preserved-in-Drop c =
    let rest = c.loop-rest.rest.now in
    let there = drop_there _ _ (sym c.find.ensures ∙ c.in-Drop.is) in record {
      few = omega (arith, there, c.loop-rest.invariant.few, length_left rest 1);
      counted = omega (arith, c.loop-rest.invariant.counted, after_drop rest _ (sym c.find.ensures ∙ c.in-Drop.is));
    }

pub overflow_add-rest : goal.overflow_add-rest
overflow_add-rest c = omega (arith, (accepted commands _ _ (sym c.find.ensures ∙ c.in-Accept.is)).fits)

pub slice_bounds-rest-count-in-Accept : goal.slice_bounds-rest-count-in-Accept
slice_bounds-rest-count-in-Accept c = (accepted commands _ _ (sym c.find.ensures ∙ c.in-Accept.is)).fits

pub slice_bounds-rest-start-in-Accept : goal.slice_bounds-rest-start-in-Accept
slice_bounds-rest-start-in-Accept c = (accepted commands _ _ (sym c.find.ensures ∙ c.in-Accept.is)).fits

pub loop-rest-smaller : goal.loop-rest-smaller
loop-rest-smaller c =
    omega (arith, (accepted commands _ _ (sym c.find.ensures ∙ c.in-Accept.is)).fits, length_left c.loop-rest.rest.now (7 + c.in-Accept.pl))

pub loop-rest-preserved : goal.loop-rest-preserved
loop-rest-preserved c =
    let rest = c.loop-rest.rest.now in
    let there = (accepted commands _ _ (sym c.find.ensures ∙ c.in-Accept.is)).fits in record {
      few = omega (arith, there, c.loop-rest.invariant.few, length_left rest (7 + c.in-Accept.pl));
      counted = omega (arith, c.loop-rest.invariant.counted, after_accept rest _ (sym c.find.ensures ∙ c.in-Accept.is));
    }
