use Rattle.subsystem_laws.proofs.WholeOrders.{first_mounted, new_mounted}
use Rattle.subsystem_laws.proofs.WholeSlots.{one_mounted}
use Rattle.subsystem_laws.proofs.whole.whole_device_is_mounted.Goals as goal

pub returns : goal.returns
returns c = record { first = first_mounted; mounted = new_mounted; more = λ p xs ms x m all new. one_mounted all new }
