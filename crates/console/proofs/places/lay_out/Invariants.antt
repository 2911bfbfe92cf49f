-- `lay_out` meets its contract: each turn gives one more tag its place, behind those before it.
use Rattle.console.proofs.Placing.{LaidOut}
use Rattle.console.proofs.places.lay_out.Given as goal

abbrev pub invariant-loop-i : goal.invariant-loop-i
invariant-loop-i l = LaidOut l.sizes l.placed l.places l.from l.i
