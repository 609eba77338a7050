use Rattle.subsystem_laws.proofs.turning.Sound.{stands_excused}
use Rattle.subsystem_laws.proofs.turns.standing_device_is_excused.Goals as goal

pub returns : goal.returns
returns c = λ first d u s failed cache. stands_excused d u s failed cache
