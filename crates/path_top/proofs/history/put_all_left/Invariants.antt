use Rattle.std.proofs.Common.{◌≤◌}
use Rattle.device_core.specs.State.{device_of}
use Rattle.device_defs.specs.Start.{left}
use Rattle.path_top.specs.Devices.{told_by}
use Rattle.path_top.specs.Told.{left_lines}
use Rattle.path_top.proofs.Ended.{left_from}
use Rattle.path_top.proofs.Texts.{PutLines}
use Rattle.path_top.proofs.history.put_all_left.Given as goal

abbrev pub invariant-loop-number : goal.invariant-loop-number
invariant-loop-number g l =
    PutLines (g.K.Sink.held l.fn.sink) l.fn.buffer (g.K.Sink.held l.sink) l.buffer (left_lines l.device.store.number 1 (told_by l.device).left)
    (left_from l.device.store.number (left (device_of l.device)) l.number)
    × (g.K.Sink.faults l.fn.sink ≤ g.K.Sink.faults l.sink)
    × (1 ≤ l.number)
