use Rattle.std.proofs.Common.{◌∙◌}
use Rattle.event_notes.proofs.Counted.{least_same}
use Rattle.device_core.proofs.device.Device.first_loose.Goals as goal

pub returns : goal.returns
returns g c = c.first.ensures ∙ least_same 65535 _ _ (λ q. c.marks.ensures q)
