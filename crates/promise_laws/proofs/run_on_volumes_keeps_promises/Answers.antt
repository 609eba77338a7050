use Rattle.subsystem_laws.proofs.ReadDecks.{read_served}
use Rattle.promise_laws.proofs.KeptRuns.{run_keeps_writes_on}
use Rattle.promise_laws.proofs.OriginRuns.{run_has_origins_on}
use Rattle.promise_laws.proofs.run_on_volumes_keeps_promises.Goals as goal

pub returns : goal.returns
returns c = record {
  origins = λ firsts whole text deck read. run_has_origins_on firsts whole deck (read_served text deck read);
  writes = λ firsts whole text deck read. run_keeps_writes_on firsts whole deck (read_served text deck read);
}
