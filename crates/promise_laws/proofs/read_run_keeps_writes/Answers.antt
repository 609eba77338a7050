use Rattle.subsystem_laws.proofs.ReadDecks.{read_served}
use Rattle.promise_laws.proofs.KeptRuns.{run_keeps_writes}
use Rattle.promise_laws.proofs.read_run_keeps_writes.Goals as goal

pub returns : goal.returns
returns c = λ text deck read. run_keeps_writes deck (read_served text deck read)
