-- `code_at` meets its contract: behind the end stands 0.
use Rattle.machine.specs.Machine.{code_at}
use Rattle.machine.proofs.Jobs.{no_code}
use Rattle.machine.proofs.deciding.code_at.Goals as goal

pub returns-then-input-cursor : goal.returns-then-input-cursor
returns-then-input-cursor c = no_code _ _ c.if-input-cursor.true

pub returns : goal.returns
unfolding code_at
returns c = c.byte_at.ensures
