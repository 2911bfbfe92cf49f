-- `next_after` meets its contract, case by case.
use Rattle.frame.proofs.Picks.{pick_true, pick_false}
use borrow.Author.Tests.{eq-eqb, ne_eqb}
use mathlib.Core.Path.{sym}
use Rattle.calls.proofs.calling.next_after.Goals as goal

pub returns-then-code-eq34 : goal.returns-then-code-eq34
returns-then-code-eq34 c = sym (simp (eq-eqb _ 0x22 c.if-code-eq34.true, pick_true))

pub returns : goal.returns
returns c = sym (simp (ne_eqb _ 0x22 c.if-code-eq34.false, pick_false))
