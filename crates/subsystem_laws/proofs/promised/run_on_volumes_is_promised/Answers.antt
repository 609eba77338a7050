use Rattle.subsystem_laws.proofs.PromisedRuns.{promised_on}
use Rattle.subsystem_laws.proofs.promised.run_on_volumes_is_promised.Goals as goal

pub returns : goal.returns
returns c = promised_on
