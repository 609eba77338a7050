use Rattle.std.proofs.Common.{◌≤◌, drop}
use Rattle.std.specs.List.{flat_map}
use Rattle.path_top.specs.Devices.{all_told}
use Rattle.path_top.specs.Told.{device_lines}
use Rattle.path_top.proofs.Texts.{PutLines}
use Rattle.path_top.proofs.history.put_devices.Given as goal

abbrev pub invariant-loop-device : goal.invariant-loop-device
invariant-loop-device g l =
    PutLines (g.K.Sink.held l.fn.sink) l.fn.buffer (g.K.Sink.held l.sink) l.buffer (flat_map device_lines (all_told l.devices))
    (flat_map device_lines (all_told (drop l.device-index l.devices)))
    × (g.K.Sink.faults l.fn.sink ≤ g.K.Sink.faults l.sink)
