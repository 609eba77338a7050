-- What the lines of a report that were read so far make of a deck: its devices, the events that are left, and what may come.
use Rattle.std.specs.Prelude.{ℕ, Bool, true, false, List, drop, map, Option, Some, None, if◌then◌else◌}
use Rattle.deck_plan.specs.declared.event.EventLine.{EventLine}
use Rattle.deck_plan.specs.declared.event.EventLine.TheVariants as events
use Rattle.deck_text.specs.DeckLines.{DeckLines}
use Rattle.plain_defs.specs.History.{OpenEntry, ended, checked}
use Rattle.report_text.specs.declared.answers.HowOver.{HowOver}
use Rattle.report_text.specs.declared.answers.HowOver.TheVariants.{Full, Checked}
use Rattle.report_text.specs.declared.line.ReportLine.{ReportLine}
use Rattle.report_text.specs.declared.line.ReportLine.TheVariants as lines
use Rattle.deck_audit.specs.declared.state.Outline.{Outline}
use Rattle.deck_audit.specs.declared.state.Did.{Did}
use Rattle.deck_audit.specs.declared.state.Did.TheVariants.{Ended, CheckEnded, Worked}
use Rattle.deck_audit.specs.declared.state.Due.{Due}
use Rattle.deck_audit.specs.declared.state.Due.TheVariants.{Next, OverOf}
use Rattle.deck_audit.specs.Place.{first_event, worker_of}
use Rattle.deck_audit.specs.Device.{AuditedDevice, new_device, outline_of, is_idle, device_in, with_device}

-- the events begin with the one that has begun or is the next
pub record AuditState : Type 0 where
  pub devices : List AuditedDevice
  pub events : List EventLine
  pub due : Due

abbrev pub first_state : DeckLines → AuditState
first_state deck = record { devices = map (new_device deck.programs) deck.devices; events = deck.events; due = Next }

-- the outlines of its devices
abbrev pub outlines : AuditState → List Outline
outlines s = map outline_of s.devices

abbrev pub then_of : {S T : Type 0} → Option S → (S → Option T) → Option T
then_of None go = None
then_of (Some x) go = go x

-- the device at whose work the report is
abbrev pub worker_number : AuditState → Option ℕ
worker_number s = then_of (first_event s.events) worker_of

abbrev pub worker : AuditState → Option AuditedDevice
worker s = then_of (worker_number s) (device_in s.devices)

-- with the next event at hand
abbrev pub passed : AuditState → AuditState
passed s = record s { events = drop 1 s.events; due = Next }

-- RUN ends where nothing is left to run, SETTLE where the background says so, STEP and BACK with their only piece of work
abbrev pub is_event_over : Option EventLine → AuditedDevice → Did → Bool
is_event_over (Some (events.Run d)) a did = is_idle a
is_event_over (Some (events.Settle d)) a (Worked last) = last
is_event_over (Some (events.Settle d)) a did = false
is_event_over _ a did = true

abbrev pub over_line : AuditedDevice → OpenEntry → HowOver → ReportLine
over_line a o how = lines.Over o.path a.number o.ordinal how

-- the OVER line that a piece of work brings
abbrev pub over_by : AuditedDevice → Did → Option OpenEntry → Option ReportLine
over_by a (Ended e) (Some o) = if e.over then Some (over_line a o Full) else None
over_by a (CheckEnded e) (Some o) = Some (over_line a o Checked)
over_by a _ _ = None

-- what a piece of work makes of its device's past
abbrev pub worked : AuditedDevice → Did → AuditedDevice
worked a (Ended e) = record a { history = ended a.history e }
worked a (CheckEnded e) = record a { history = checked a.history e }
worked a _ = a

abbrev pub behind_work : AuditState → AuditedDevice → Did → AuditState
behind_work s a did = if is_event_over (first_event s.events) a did then passed s else record s { due = Next }

abbrev pub settled_by : AuditState → AuditedDevice → Did → Option ReportLine → AuditState
settled_by s a did (Some line) = record s { devices = with_device s.devices (worked a did); due = OverOf line }
settled_by s a did None = behind_work (record s { devices = with_device s.devices (worked a did) }) (worked a did) did

abbrev pub settled_in : AuditState → Did → Option AuditedDevice → AuditState
settled_in s did (Some a) = settled_by s a did (over_by a did a.history.running)
settled_in s did None = s

-- a piece of work is taken as done, with the acts that came
abbrev pub settled : AuditState → Did → AuditState
settled s did = settled_in s did (worker s)
