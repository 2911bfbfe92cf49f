-- `is_good_tag` meets its contract, test by test.
use Rattle.std.proofs.Common.{arith}
use Rattle.std.proofs.lemmas.Bool.Decides.{nat_tests}
use Rattle.frame.specs.Bytes.{all}
use Rattle.image.specs.Image.{epc_length, good_tag}
use Rattle.image.proofs.good.is_good_tag.Goals as goal

pub returns-then-v-le2 : goal.returns-then-v-le2
unfolding good_tag epc_length all
returns-then-v-le2 c = grind (arith, nat_tests)

pub returns-else-v-le2 : goal.returns-else-v-le2
unfolding good_tag epc_length all
returns-else-v-le2 c = grind (arith, nat_tests)
