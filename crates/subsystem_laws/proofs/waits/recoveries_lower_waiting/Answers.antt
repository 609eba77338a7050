use Rattle.subsystem_defs.specs.Decks.{empty_firsts}
use Rattle.subsystem_laws.proofs.FailedCalls.{read_run_counts_failures}
use Rattle.subsystem_laws.proofs.ReadDecks.{read_served}
use Rattle.subsystem_laws.proofs.RecoveryRuns.{run_recovers}
use Rattle.subsystem_laws.proofs.waits.recoveries_lower_waiting.Goals as goal

pub returns : goal.returns
returns c = record {
  served = run_recovers empty_firsts;
  read = λ text deck read. run_recovers empty_firsts deck (read_served text deck read) (read_run_counts_failures empty_firsts text deck read);
}
