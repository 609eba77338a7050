use Rattle.subsystem_laws.proofs.SlotsApart.{slots_apart}
use Rattle.subsystem_laws.proofs.standing.slots_are_apart.Goals as goal

pub returns : goal.returns
returns c = λ p xs ms all. slots_apart all
