-- Where the audit of the report of a run stands between two events: it knows each device as the run has it.
use Rattle.std.specs.Prelude.{◌≡◌, ℕ, All, IsSome, List, [], ◌∷◌, map, Option, Some, None, Ok, true}
use Rattle.std.specs.List.{flat_map}
use Rattle.deck_plan.specs.declared.event.EventLine.{EventLine}
use Rattle.deck_plan.specs.declared.event.EventLine.TheVariants as events
use Rattle.device_outside.specs.Pool.{Frame}
use Rattle.plain_defs.specs.PlainState.{empty_state}
use Rattle.device_defs.specs.Marks.{MarksDevice}
use Rattle.device_defs.specs.Store.{Origin, OfCommand, OfCut, OfBackground}
use Rattle.device_defs.specs.Store as store
use Rattle.report_text.specs.declared.line.ReportLine.{ReportLine}
use Rattle.deck_audit.specs.declared.state.Due.TheVariants.{Next}
use Rattle.deck_audit.specs.declared.state.HalfWrite.{HalfWrite}
use Rattle.deck_audit.specs.declared.state.HalfWrite.TheVariants as half
use Rattle.deck_audit.specs.Device.{AuditedDevice}
use Rattle.deck_audit.specs.State.{AuditState, outlines}
use Rattle.deck_audit.specs.Place.{is_declared}
use Rattle.deck_audit.specs.Verdict.{judged}
use Rattle.run_report.specs.Events.{lines_of}
use Rattle.subsystem_defs.specs.Deeds.{device_in}
use Rattle.subsystem_defs.specs.Lines.{asked_by, last_behind, line_logged}
use Rattle.subsystem_defs.specs.Subsystem.{Subsystem, devices_of}

-- these lines, one after another, have no fault, and lead from one state to the other
abbrev pub LeadsBy : AuditState → List ReportLine → AuditState → Type 0
LeadsBy s [] t = t ≡ s
LeadsBy s (line ∷ lines) t = (u : AuditState) × (judged s line ≡ Ok u) × LeadsBy u lines t

-- a half write whose command was cut is the background's
abbrev pub half_of : Origin → HalfWrite
half_of (OfCommand bypass e) = half.OfCommand
half_of (OfCut bypass) = half.OfBackground
half_of OfBackground = half.OfBackground

abbrev pub half_by : Option (store.HalfWrite (Unit {0})) → HalfWrite
half_by (Some h) = half_of h.origin
half_by None = half.Closed

-- a device as the audit has it that was told all that came to its history
abbrev pub audited : MarksDevice → AuditedDevice
audited d = record {
  number = d.store.device;
  empty = empty_state d.store.geometry d.store.cylinders;
  plans = d.plans;
  history = d.history;
  half = half_by d.store.half;
  lent = d.store.lent;
}

-- before the first of these events
abbrev pub stand : Subsystem → List EventLine → AuditState
stand s events = record { devices = map audited (devices_of s); events = events; due = Next }

-- the lines of an event line of the deck lead the audit from where it stands before it to where it stands behind it
abbrev pub LineLeads : Subsystem → EventLine → Type 0
LineLeads s e =
    (later : List EventLine) →
    LeadsBy (stand s (e ∷ later)) (flat_map lines_of (line_logged s (asked_by e))) (stand (last_behind s (line_logged s (asked_by e))) later)

-- An event line at which no command runs, and nothing is written or lost

abbrev pub HasDevice : Subsystem → ℕ → Type 0
HasDevice s n = IsSome (device_in (devices_of s) n)

abbrev pub IsStill : Subsystem → EventLine → Type 0
IsStill s (events.Start path d) = HasDevice s d
IsStill s (events.Reset path d) = HasDevice s d
IsStill s events.RepairCache = Unit {0}
IsStill s events.RepairStore = Unit {0}
IsStill s (events.Replace d side) = HasDevice s d
IsStill s (events.Suspend d) = HasDevice s d
IsStill s (events.Resume d) = HasDevice s d
IsStill s _ = ⊥

-- each frame of the pool is of a device
abbrev pub FramesAreDeclared : Subsystem → Type 0
FramesAreDeclared s = All (λ (f : Frame). is_declared (outlines (stand s [])) f.0.0 ≡ true) s.pool.frames
