use Rattle.device_store.proofs.Moves.{heard_alone}
use Rattle.device_core.proofs.device.Device.second.Goals as goal

pub returns-clause-run : goal.returns-clause-run
returns-clause-run g c = λ k e is. heard_alone (c.second_with.ensures.run e is)
