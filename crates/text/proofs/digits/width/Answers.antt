-- `width` meets its contract: the number lies between two powers of ten.
use Rattle.text.proofs.Decimals.{width_positive}
use Rattle.text.proofs.digits.width.Goals as goal

pub returns-clause-value : goal.returns-clause-value
returns-clause-value c = width_positive c.ilog10.result c.args.n c.max.result c.max.ensures c.ilog10.ensures.power_le c.ilog10.ensures.next_power_gt
