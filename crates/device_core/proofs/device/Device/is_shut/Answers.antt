use Rattle.std.proofs.Common.{◌∙◌}
use Rattle.device_defs.specs.Start.{has_none_or_is_out}
use Rattle.device_core.specs.State.{device_of}
use Rattle.device_core.proofs.Starts.{same_four}
use Rattle.device_core.proofs.device.Device.is_shut.Goals as goal

pub returns : goal.returns
returns g c =
    c.all_four.ensures ∙ same_four (has_none_or_is_out (device_of c.args.self.now)) _ _ _ _ _ _ _ _ c.path_at.ensures c.path_at-2.ensures
    c.path_at-3.ensures c.path_at-4.ensures c.has_none_or_is_out.ensures c.has_none_or_is_out-2.ensures c.has_none_or_is_out-3.ensures
    c.has_none_or_is_out-4.ensures
