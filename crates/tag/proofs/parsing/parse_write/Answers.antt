-- `parse_write` meets its contract, test by test.
use Rattle.std.proofs.Common.{arith}
use Rattle.std.proofs.lemmas.Bool.Decides.{nat_tests}
use Rattle.frame.specs.Bytes.{pick}
use Rattle.tag.specs.Commands.{password_in, bank_in, pointer_in, count_in, parse_write}
use Rattle.tag.proofs.parsing.parse_write.Goals as goal

pub returns : goal.returns
unfolding password_in bank_in pointer_in count_in parse_write pick
returns c = grind (arith, nat_tests)

pub returns-then-p-count : goal.returns-then-p-count
unfolding count_in parse_write pick
returns-then-p-count c = grind (arith, nat_tests)
