use Rattle.subsystem_defs.specs.Decks.{empty_firsts}
use Rattle.subsystem_laws.proofs.Causing.{run_checks_for_cause}
use Rattle.subsystem_laws.proofs.ReadDecks.{read_served}
use Rattle.subsystem_laws.proofs.causes.checks_have_causes.Goals as goal

pub returns : goal.returns
returns c = record {
  served = run_checks_for_cause empty_firsts;
  read = λ text deck read. run_checks_for_cause empty_firsts deck (read_served text deck read);
}
