-- `is_length_broken` meets its contract: the new PC is a number among the data.
use Rattle.std.proofs.Common.{arith}
use Rattle.std.proofs.lemmas.Bool.Decides.{nat_tests}
use Rattle.tag.proofs.Data.{number_in_data}
use Rattle.tag.specs.Commands.{length_broken}
use Rattle.image.specs.Image.{epc_length}
use Rattle.tag.proofs.word_acts.is_length_broken.Goals as goal

pub returns-then-pointer-count : goal.returns-then-pointer-count
unfolding length_broken epc_length
returns-then-pointer-count c = simp number_in_data (grind (arith, nat_tests))
