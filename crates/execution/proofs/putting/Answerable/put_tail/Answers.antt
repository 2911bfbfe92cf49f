-- `put_tail` meets its contract: the count, then the PC and the EPC behind it.
use lib.ListN.{length-set}
use mathlib.Core.Path.{◌∙◌}
use native.Mathlib.Omega.{arith}
use Rattle.frame.proofs.Stores.{length_put}
use Rattle.execution.proofs.Tails.{tail_put}
use Rattle.execution.proofs.putting.Answerable.put_tail.Goals as goal

pub put_pc_and_epc-requires : goal.put_pc_and_epc-requires
put_pc_and_epc-requires c = simp length-set (omega arith)

pub shape_of-output : goal.shape_of-output
shape_of-output c = length_put _ _ _ _ _ c.put_pc_and_epc.ensures.put ∙ simp length-set

pub returns : goal.returns
returns c =
    record {
      put = tail_put _ c.args.self.has_epc _ c.epc_span-place.ensures _ _ _ _ c.put_pc_and_epc.ensures.put;
      upper_bound = omega (arith, c.put_pc_and_epc.ensures.upper_bound);
    }
