-- `put_pc_and_epc` meets its contract: the image has L words behind the PC, so all are copied.
use native.Mathlib.Omega.{arith}
use Rattle.execution.proofs.Tails.{epc_most, epc_put}
use Rattle.execution.proofs.putting.Answerable.put_pc_and_epc.Goals as goal

pub returns : goal.returns
returns c =
    record {
      put = epc_put _ c.args.self.has_epc _ c.epc_span-place.ensures _ _ c.requires _ c.copy.ensures;
      upper_bound = omega (arith, epc_most _ c.args.self.has_epc _ c.epc_span-place.ensures);
    }
