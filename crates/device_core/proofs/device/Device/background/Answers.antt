use Rattle.device_store.proofs.Moves.{heard_alone}
use Rattle.device_core.proofs.device.Device.background.Goals as goal

pub returns-clause-run : goal.returns-clause-run
returns-clause-run g c = λ k. heard_alone c.background_with.ensures.run
