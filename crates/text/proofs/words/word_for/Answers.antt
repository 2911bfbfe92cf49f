-- `word_for` meets its contract.
use borrow.Author.Tests.{eq-eqb, ne_eqb}
use Rattle.frame.proofs.Picks.{pick_true, pick_false}
use Rattle.text.proofs.words.word_for.Goals as goal

pub returns-then-n-eq1 : goal.returns-then-n-eq1
returns-then-n-eq1 c = simp (eq-eqb _ _ c.if-n-eq1.true, pick_true)

pub returns-else-n-eq1 : goal.returns-else-n-eq1
returns-else-n-eq1 c = simp (ne_eqb _ _ c.if-n-eq1.false, pick_false)
