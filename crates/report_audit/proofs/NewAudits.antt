-- An auditor is at first that of no line.
use Rattle.std.proofs.Common.{arith, ◌≡◌, List, [], ◌∷◌}
use Rattle.std.specs.Prelude.{map}
use Rattle.deck_text.specs.declared.line.DeviceLine.{DeviceLine}
use Rattle.deck_text.specs.declared.line.PlannedProgram.{PlannedProgram}
use Rattle.report_audit.specs.Auditor.{AllKept, IsAuditOf, kept_outline, new_kept}
use Rattle.report_audit.specs.declared.auditor.Auditor.{Auditor}
use Rattle.deck_audit.specs.declared.state.Due.TheVariants.{Next}
use Rattle.deck_audit.specs.Device.{new_device}
use Rattle.deck_audit.specs.State.{first_state}

all_new : (programs : List PlannedProgram) (devices : List DeviceLine)
    → AllKept programs (map new_kept devices) (map (new_device programs) devices)
all_new programs [] = tt
all_new programs (line ∷ devices) = grind (arith, all_new programs devices)

pub new_audit : (z : Auditor) → z.devices.items ≡ map new_kept z.deck.devices → z.passed ≡ 0 → z.due ≡ Next
    → z.outlines.items ≡ map kept_outline z.devices.items → IsAuditOf z (first_state z.deck)
new_audit z devices_are passed_is due_is outlines_so = grind (arith, all_new)
