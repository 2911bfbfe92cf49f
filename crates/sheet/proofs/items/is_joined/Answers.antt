-- `is_joined` meets its contract, test by test.
use native.Mathlib.Omega.{arith}
use Rattle.std.proofs.lemmas.Bool.Decides.{nat_tests}
use Rattle.sheet.specs.Items.{joins}
use Rattle.sheet.proofs.items.is_joined.Goals as goal

pub returns-then-cursor-ne0 : goal.returns-then-cursor-ne0
unfolding joins
returns-then-cursor-ne0 c = grind (arith, nat_tests)

pub returns-else-cursor-ne0 : goal.returns-else-cursor-ne0
unfolding joins
returns-else-cursor-ne0 c = grind (arith, nat_tests)
