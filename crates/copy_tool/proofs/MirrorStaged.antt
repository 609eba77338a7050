-- What an event or an order leaves of a mirror that is being made, and which lines may be done.
use Rattle.std.proofs.Common.{◌≡◌, ℕ, Bool, true, false, List, [], ◌∷◌, map, refl, sym, subst}
use Rattle.std.specs.Prelude.{◌||◌}
use Rattle.std.specs.List.{list_any}
use Rattle.deck_plan.specs.declared.event.EventLine.{EventLine}
use Rattle.deck_plan.specs.declared.event.EventLine.TheVariants as lines
use Rattle.subsystem_core.specs.Devices.{numbers_of}
use Rattle.subsystem_defs.specs.Lines.{asked_by}
use Rattle.line_drive.specs.Driven.{Occurred}
use Rattle.line_drive.specs.Staging.{GoesOn, LineMay, LinesMay}
use Rattle.copy_tool.specs.declared.mirroring.MirrorStage.{MirrorStage}
use Rattle.copy_tool.specs.Mirroring.{lends}
use Rattle.copy_tool.specs.MirrorStanding.{IsKept}

abbrev numbers_at : MirrorStage → List ℕ
numbers_at x = numbers_of x.mirror.sub.devices.items

abbrev may_at : MirrorStage → Occurred → Type 0
may_at x o = IsKept x.mirror.sender.device o

pub mirror_goes_on : (x y : MirrorStage) → numbers_at y ≡ numbers_at x → y.mirror.sender.device ≡ x.mirror.sender.device → GoesOn numbers_at may_at x y
mirror_goes_on x y numbers device = record { same = numbers; still = λ o may. subst (λ (n : ℕ). IsKept n o) (sym device) may }

-- Lines of which none lends the device

line_kept : (d : ℕ) (e : EventLine) → lends d e ≡ false → LineMay (IsKept d) (asked_by e)
line_kept d (lines.Start path n) off = refl
line_kept d (lines.Step n) off = refl
line_kept d (lines.Run n) off = refl
line_kept d (lines.Back n) off = refl
line_kept d (lines.Settle n) off = refl
line_kept d (lines.Reset path n) off = refl
line_kept d lines.FailCache off = refl
line_kept d lines.FailStore off = refl
line_kept d (lines.FailVolume n side) off = refl
line_kept d lines.RepairCache off = refl
line_kept d lines.RepairStore off = refl
line_kept d (lines.Replace n side) off = tt
line_kept d (lines.Pair a b) off = off
line_kept d (lines.Unpair a) off = tt
line_kept d (lines.Suspend a) off = refl
line_kept d (lines.Resume a) off = refl
line_kept d lines.Power off = refl

first_off : (a b : Bool) → (a || b) ≡ false → a ≡ false
first_off true b e = e
first_off false b e = refl

rest_off : (a b : Bool) → (a || b) ≡ false → b ≡ false
rest_off true b e = absurd (cc)
rest_off false b e = e

pub lines_kept : (d : ℕ) (es : List EventLine) → list_any (lends d) es ≡ false → LinesMay (IsKept d) (map asked_by es)
lines_kept d [] off = tt
lines_kept d (e ∷ es) off =
    (line_kept d e (first_off (lends d e) (list_any (lends d) es) off), lines_kept d es (rest_off (lends d e) (list_any (lends d) es) off))
