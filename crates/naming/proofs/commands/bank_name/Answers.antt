-- `bank_name` meets its contract: each bank has its name.
use mathlib.Core.Path.{ap, sym}
use native.Mathlib.Omega.{arith}
use Rattle.frame.specs.Bytes.{pick}
use Rattle.naming.proofs.Choices.{is_user}
use Rattle.naming.specs.Commands.{bank_name}
use Rattle.naming.proofs.commands.bank_name.Goals as goal

pub returns-in-0 : goal.returns-in-0
unfolding bank_name pick
returns-in-0 c = ap bank_name (sym c.in-0.is)

pub returns-in-1 : goal.returns-in-1
unfolding bank_name pick
returns-in-1 c = ap bank_name (sym c.in-1.is)

pub returns-in-2 : goal.returns-in-2
unfolding bank_name pick
returns-in-2 c = ap bank_name (sym c.in-2.is)

pub returns-in_default : goal.returns-in_default
returns-in_default c = is_user _ (omega arith) (omega arith) (omega arith)
