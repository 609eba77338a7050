use Rattle.subsystem_defs.specs.Decks.{empty_firsts}
use Rattle.subsystem_laws.proofs.ExplainedRuns as L
use Rattle.subsystem_laws.proofs.FailedCalls.{read_run_counts_failures}
use Rattle.subsystem_laws.proofs.ReadDecks.{read_served}
use Rattle.subsystem_laws.proofs.causes.run_is_explained.Goals as goal

pub returns : goal.returns
returns c = record {
  served = L.run_is_explained;
  read = λ text deck read. L.run_is_explained deck (read_served text deck read) (read_run_counts_failures empty_firsts text deck read);
}
