use Rattle.std.proofs.Common.{◌≡◌, map, take}
use Rattle.report_audit.specs.Auditor.{kept_outline}
use Rattle.report_audit.proofs.devices.outline_all.Given as goal

-- those so far are in the room
abbrev pub invariant-loop-kept : goal.invariant-loop-kept
invariant-loop-kept l = l.outlines.items ≡ map kept_outline (take l.kept-index l.devices)
