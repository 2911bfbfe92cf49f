-- `parse_lock` meets its contract, test by test.
use Rattle.std.proofs.Common.{arith}
use Rattle.std.proofs.lemmas.Bool.Decides.{nat_tests}
use Rattle.frame.specs.Bytes.{pick}
use Rattle.tag.specs.Commands.{password_in, parse_lock}
use Rattle.tag.proofs.parsing.parse_lock.Goals as goal

pub returns : goal.returns
unfolding password_in parse_lock pick
returns c = grind (arith, nat_tests)
