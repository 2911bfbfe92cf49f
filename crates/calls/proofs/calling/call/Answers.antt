-- `call` meets its contract: what is decided and done is the machine's step.
use Rattle.calls.proofs.Doables.{decided_doable, called, lent_called}
use Rattle.calls.proofs.calling.call.Goals as goal

pub carry_out-requires : goal.carry_out-requires
carry_out-requires c = decided_doable _ _ _ _ c.decide-job.ensures

pub returns : goal.returns
returns c = (
  called _ _ _ _ _ (c.carry_out.ensures.0 c.args.population.now.places c.args.population.now.tags) c.decide-job.ensures,
  lent_called _ _ _ _ _ _ c.carry_out.ensures.1 c.decide-job.ensures,
)
