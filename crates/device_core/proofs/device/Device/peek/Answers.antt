use Rattle.device_store.proofs.Moves.{heard_alone}
use Rattle.device_core.proofs.device.Device.peek.Goals as goal

pub returns-clause-run : goal.returns-clause-run
returns-clause-run g c = λ k. heard_alone c.peek_with.ensures.run
