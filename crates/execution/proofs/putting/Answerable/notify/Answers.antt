-- `notify` meets its contract: RSSI, PC, EPC and the CRC word, and the frame round them.
use lib.ListN.{length-set}
use mathlib.Core.Path.{◌∙◌}
use native.Mathlib.Omega.{arith}
use Rattle.execution.proofs.Pieces.{notify_closed}
use Rattle.execution.proofs.Tails.{word_there}
use Rattle.image.specs.Image.{view, bank_at}
use Rattle.execution.proofs.putting.Answerable.notify.Goals as goal

pub put_pc_and_epc-next-requires : goal.put_pc_and_epc-next-requires
put_pc_and_epc-next-requires c = simp length-set (omega arith)

pub shape_of-output : goal.shape_of-output
shape_of-output c =
    omega (arith, length-set c.args.output.now 5 c.byte_at.result)

pub returns : goal.returns
unfolding view bank_at
returns c =
    notify_closed _ c.requires _ _ c.byte_at.ensures _ _ c.put_pc_and_epc-next.ensures.put c.put_pc_and_epc-next.ensures.upper_bound
    _ (c.from.ensures ∙ c.number_at.ensures) (omega (arith, word_there _ c.args.self.has_epc, c.from.ensures, c.number_at.ensures)) _ c.copy.ensures _ _
    c.close.ensures
