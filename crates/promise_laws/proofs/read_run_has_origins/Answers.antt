use Rattle.subsystem_laws.proofs.ReadDecks.{read_served}
use Rattle.promise_laws.proofs.OriginRuns.{run_has_origins}
use Rattle.promise_laws.proofs.read_run_has_origins.Goals as goal

pub returns : goal.returns
returns c = λ text deck read. run_has_origins deck (read_served text deck read)
