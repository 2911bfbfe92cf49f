-- `parse_read` meets its contract, test by test.
use Rattle.std.proofs.Common.{arith}
use Rattle.std.proofs.lemmas.Bool.Decides.{nat_tests}
use Rattle.frame.specs.Bytes.{pick}
use Rattle.tag.specs.Commands.{password_in, bank_in, pointer_in, count_in, parse_read}
use Rattle.tag.proofs.parsing.parse_read.Goals as goal

pub returns : goal.returns
unfolding password_in bank_in pointer_in count_in parse_read pick
returns c = grind (arith, nat_tests)
