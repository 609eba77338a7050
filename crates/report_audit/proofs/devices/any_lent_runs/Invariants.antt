use Rattle.std.proofs.Common.{◌≡◌, false, take}
use Rattle.std.specs.List.{list_any}
use Rattle.report_audit.specs.Auditor.{lent_runs}
use Rattle.report_audit.proofs.devices.any_lent_runs.Given as goal

-- none so far does
abbrev pub invariant-loop-kept : goal.invariant-loop-kept
invariant-loop-kept l = list_any (lent_runs l.a) (take l.kept-index l.devices) ≡ false
