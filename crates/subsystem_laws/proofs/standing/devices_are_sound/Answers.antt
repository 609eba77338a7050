use Rattle.subsystem_laws.proofs.AllSound.{all_sound}
use Rattle.subsystem_laws.proofs.PlainRuns.{plain_behind}
use Rattle.subsystem_laws.proofs.standing.devices_are_sound.Goals as goal

pub returns : goal.returns
returns c = λ deck p xs served all. all_sound all (plain_behind deck served)
