use Rattle.std.proofs.Common.{◌≡◌, drop}
use Rattle.report_audit.specs.Auditor.{place_from}
use Rattle.report_audit.proofs.devices.place_of.Given as goal

-- the device isn't among those so far
abbrev pub invariant-loop-i : goal.invariant-loop-i
invariant-loop-i l = place_from l.i (drop l.i l.devices) l.d ≡ place_from 0 l.devices l.d
