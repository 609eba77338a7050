use Rattle.std.proofs.Common.{◌∙◌}
use Rattle.event_notes.proofs.Counted.{count_same}
use Rattle.device_core.proofs.device.Device.patched_count.Goals as goal

pub returns : goal.returns
returns g c = c.count.ensures.value ∙ count_same 65535 _ _ (λ q. c.patched_tracks.ensures q)
