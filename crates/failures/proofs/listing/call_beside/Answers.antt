-- `call_beside` meets its contract: the call of the crate, and the record of its failure, for which there is room.
use native.Mathlib.Omega.{arith}
use Rattle.failures.proofs.Besides.{has_room, beside_one, beside_none}
use Rattle.failures.proofs.listing.call_beside.Goals as goal

pub overflow_add-held : goal.overflow_add-held
overflow_add-held c =
    let a = c.args in
    record { fits = omega (arith, has_room a.input.now _ a.selection.now a.state.selected a.room a.held _ _ _ _ _ _ c.call-called.ensures.0 c.call-called.ensures.1 c.code_at-code.ensures c.failure_of-failure.ensures _ c.in-Some.is, c.ranges.room) }

pub returns-in-Some : goal.returns-in-Some
returns-in-Some c =
    let a = c.args in
    beside_one a.input.now _ a.selection.now a.state.selected a.room a.held _ _ _ _ _ _ c.call-called.ensures.0 c.call-called.ensures.1 c.code_at-code.ensures c.failure_of-failure.ensures _ c.in-Some.is

pub returns-in-None : goal.returns-in-None
returns-in-None c =
    let a = c.args in
    beside_none a.input.now _ a.selection.now a.state.selected a.room a.held _ _ _ _ _ _ c.call-called.ensures.0 c.call-called.ensures.1 c.code_at-code.ensures c.failure_of-failure.ensures c.in-None.is
