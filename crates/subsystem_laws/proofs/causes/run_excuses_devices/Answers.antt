use Rattle.subsystem_defs.specs.Decks.{empty_firsts}
use Rattle.subsystem_laws.proofs.ExcusedDevices as L
use Rattle.subsystem_laws.proofs.ExcusedRuns.{checks_are_excused}
use Rattle.subsystem_laws.proofs.FailedCalls.{read_run_counts_failures}
use Rattle.subsystem_laws.proofs.FramesRuns.{run_excuses_tracks}
use Rattle.subsystem_laws.proofs.LooseRuns.{run_counts_losses}
use Rattle.subsystem_laws.proofs.ReadDecks.{read_served}
use Rattle.subsystem_laws.proofs.RunLength.{read_run_is_short}
use Rattle.subsystem_laws.proofs.causes.run_excuses_devices.Goals as goal

pub returns : goal.returns
returns c = record {
  tracks = run_excuses_tracks empty_firsts;
  loose = run_counts_losses empty_firsts;
  checks = checks_are_excused;
  served = L.run_excuses_devices;
  read = λ text deck read.
      L.run_excuses_devices deck (read_served text deck read) (read_run_is_short empty_firsts text deck read) (read_run_counts_failures empty_firsts text deck read);
}
