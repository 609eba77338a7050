use Rattle.std.proofs.Common.{◌∙◌, ap}
use Rattle.device_defs.specs.Contents.{contents}
use Rattle.device_defs.specs.Losses.{settled}
use Rattle.device_store.proofs.store.DeviceStore.second_absent.Goals as goal

pub returns-clause-state : goal.returns-clause-state
returns-clause-state g c = c.settle.ensures.state ∙ ap (λ z. settled contents z c.args.half.track) c.leave.ensures.state
