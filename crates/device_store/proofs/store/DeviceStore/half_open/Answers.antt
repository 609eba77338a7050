use Rattle.std.proofs.Common.{◌∙◌}
use Rattle.device_store.proofs.Halved.{half_seen}
use Rattle.device_store.proofs.store.DeviceStore.half_open.Goals as goal

pub returns : goal.returns
returns g c = c.is_some.ensures ∙ half_seen c.args.self.now.half
