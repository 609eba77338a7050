use Rattle.std.proofs.Common.{◌≡◌, ◌++◌, map, take, drop}
use Rattle.report_audit.specs.Auditor.{dark_kept}
use Rattle.report_audit.proofs.devices.lose_power.Given as goal

abbrev pub invariant-loop-kept : goal.invariant-loop-kept
invariant-loop-kept l = l.devices ≡ map dark_kept (take l.kept-index l.initial.devices) ++ drop l.kept-index l.initial.devices
