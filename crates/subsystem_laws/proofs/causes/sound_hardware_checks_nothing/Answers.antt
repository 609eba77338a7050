use Rattle.subsystem_laws.proofs.ReadDecks.{read_served}
use Rattle.subsystem_laws.proofs.SoundHardware as L
use Rattle.subsystem_laws.proofs.causes.sound_hardware_checks_nothing.Goals as goal

pub returns : goal.returns
returns c = record {
  checks = L.sound_hardware_checks_nothing;
  missed = L.sound_hardware_misses_nothing;
  read_checks = λ text deck read. L.sound_hardware_checks_nothing deck (read_served text deck read);
  read_missed = λ text deck read. L.sound_hardware_misses_nothing deck (read_served text deck read);
}
