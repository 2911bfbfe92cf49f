-- `hex_digit` meets its contract: a digit below ten, or a letter.
use borrow.Author.Tests.{lt-ltb, le-ltb}
use Rattle.frame.proofs.Picks.{pick_true, pick_false}
use Rattle.text.specs.Digits.{hex_digit}
use Rattle.text.proofs.digits.hex_digit.Goals as goal

pub returns-then-n-lt10 : goal.returns-then-n-lt10
unfolding hex_digit
returns-then-n-lt10 c = simp (lt-ltb _ _ c.if-n-lt10.true, pick_true)

pub returns-else-n-lt10 : goal.returns-else-n-lt10
unfolding hex_digit
returns-else-n-lt10 c = simp (le-ltb _ _ c.if-n-lt10.false, pick_false)
