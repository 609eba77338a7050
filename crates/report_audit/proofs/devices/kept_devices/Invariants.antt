use Rattle.std.proofs.Common.{◌≡◌, map, take}
use Rattle.report_audit.specs.Auditor.{new_kept}
use Rattle.report_audit.proofs.devices.kept_devices.Given as goal

-- those so far are kept
abbrev pub invariant-loop-i : goal.invariant-loop-i
invariant-loop-i l = l.devices.items ≡ map new_kept (take l.i l.deck.devices)
