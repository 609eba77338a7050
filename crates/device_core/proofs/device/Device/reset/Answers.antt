use Rattle.device_store.proofs.Moves.{heard_alone}
use Rattle.device_core.proofs.device.Device.reset.Goals as goal

pub returns-clause-run : goal.returns-clause-run
returns-clause-run g c = λ p k. heard_alone (c.reset_with.ensures.run p)
