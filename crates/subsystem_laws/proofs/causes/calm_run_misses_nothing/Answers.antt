use Rattle.subsystem_defs.specs.Decks.{empty_firsts}
use Rattle.subsystem_laws.proofs.CalmRuns as L
use Rattle.subsystem_laws.proofs.ReadDecks.{read_served}
use Rattle.subsystem_laws.proofs.RunLength.{read_run_is_short}
use Rattle.subsystem_laws.proofs.causes.calm_run_misses_nothing.Goals as goal

pub returns : goal.returns
returns c = record {
  served = L.calm_run_misses_nothing empty_firsts;
  read = λ text deck read. L.calm_run_misses_nothing empty_firsts deck (read_served text deck read) (read_run_is_short empty_firsts text deck read);
}
