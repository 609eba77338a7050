use Rattle.subsystem_laws.proofs.ReadDecks.{read_served}
use Rattle.subsystem_laws.proofs.SoundHardware.{no_call_fails, losses_explain_checks}
use Rattle.subsystem_laws.proofs.causes.no_call_fails_without_faults.Goals as goal

pub returns : goal.returns
returns c = record {
  calls = no_call_fails;
  checks = losses_explain_checks;
  read = λ text deck read. losses_explain_checks deck (read_served text deck read);
}
