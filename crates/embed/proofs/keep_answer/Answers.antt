-- `keep_answer` meets its contract.
use Rattle.embed.specs.Kept.{kept_answer}
use Rattle.embed.proofs.keep_answer.Goals as goal

pub returns : goal.returns
unfolding kept_answer
returns c = rw (c.from.ensures, c.from-2.ensures)
