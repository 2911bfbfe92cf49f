-- `add_numbers` meets its contract.
use lib.ListN.{length-set}
use mathlib.Core.Path.{sym}
use native.Mathlib.Omega.{arith}
use Rattle.failures.proofs.Threes.{with_inside, with_behind}
use Rattle.failures.proofs.triples.add_numbers.Goals as goal

pub bounds-numbers-at-then-at-numbers : goal.bounds-numbers-at-then-at-numbers
bounds-numbers-at-then-at-numbers c = simp length-set (omega arith)

pub bounds-numbers-at-then-at-numbers-2 : goal.bounds-numbers-at-then-at-numbers-2
bounds-numbers-at-then-at-numbers-2 c = simp length-set (omega arith)

pub returns-then-at-numbers : goal.returns-then-at-numbers
returns-then-at-numbers c = rw (c.from.ensures, c.from-then-at-numbers.ensures) (sym (with_inside _ _ _ c.if-at-numbers.true))

pub returns-else-at-numbers : goal.returns-else-at-numbers
returns-else-at-numbers c = sym (with_behind _ _ _ c.if-at-numbers.false)
