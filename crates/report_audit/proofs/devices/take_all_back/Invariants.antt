use Rattle.std.proofs.Common.{◌≡◌, ◌++◌, map, take, drop}
use Rattle.report_audit.specs.Auditor.{taken_back}
use Rattle.report_audit.proofs.devices.take_all_back.Given as goal

abbrev pub invariant-loop-kept : goal.invariant-loop-kept
invariant-loop-kept l = l.devices ≡ map (taken_back l.a) (take l.kept-index l.initial.devices) ++ drop l.kept-index l.initial.devices
