use Rattle.std.proofs.Common.{◌≡◌, ◌++◌, take}
use Rattle.std.specs.List.{flat_map}
use Rattle.deck_run.specs.Ending.{end_lines_of}
use Rattle.deck_run.proofs.close.record_devices.Given as goal

-- the lines so far
abbrev pub invariant-loop-device : goal.invariant-loop-device
invariant-loop-device g l = l.report ≡ l.initial.report ++ flat_map end_lines_of (take l.device-index l.devices)
