-- What passed at an event of one device, for its lines.
use Rattle.std.specs.Prelude.{◌≡◌, ℕ, List, Some}
use Rattle.device_outside.specs.declared.volume.Volume.{Ghosts}
use Rattle.device_core.specs.declared.device.Device.{Device}
use Rattle.device_core.specs.State.{device_of}
use Rattle.report_text.specs.declared.event.Happened.{Happened}
use Rattle.report_text.specs.declared.line.ReportLine.{ReportLine}
use Rattle.run_report.specs.Events.{running_in}
use Rattle.run_report.specs.OneDevice.{lines_by}
use Rattle.subsystem_core.specs.declared.subsystem.Subsystem.{Subsystem}
use Rattle.subsystem_core.specs.Devices.{device_at}
use Rattle.subsystem_defs.specs.declared.event.Event.{Event}
use Rattle.subsystem_defs.specs.Beside.{behind_first}
use Rattle.subsystem_defs.specs.Happening.{happens}
use Rattle.subsystem_defs.specs.Subsystem as runs
use Rattle.subsystem_defs.specs.Subsystem.{devices_of}
use Rattle.deck_run.specs.declared.pass.Passed.{Passed}
use Rattle.deck_run.specs.Recording.{lines_when}
use Rattle.deck_run.specs.Seen.{SeesEnd}
use Rattle.deck_run.specs.Standing.{StandsAs}

module _ {V : Type 0} {G : Ghosts V} where
  -- the lines of an event that did this, by what passed and the device behind it
  abbrev pub lines_passed : ℕ → Device V G → Passed → Happened → List ReportLine
  lines_passed d y p h = lines_by d h p.acts.items p.calls.reads p.calls.writes (behind_first p.items (device_of y).history.items)

  -- behind it the subsystem stands as the run has it; the event ended so, of the program that ran; and it tells what came to the device
  pub record HasPassed (s : Subsystem V G) (run : runs.Subsystem) (e : Event) (d : ℕ) (p : Passed) : Type 0 where
    pub stands : StandsAs s (happens run e).behind
    pub ended : SeesEnd s d p.end (happens run e).end
    pub running : running_in (devices_of run) d ≡ p.running
    pub lines : (y : Device V G) → device_at s.devices.items d ≡ Some y → (h : Happened) → lines_when run e h ≡ lines_passed d y p h
