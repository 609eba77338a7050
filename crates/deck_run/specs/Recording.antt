-- What an event of one device tells in a report, by the device in code before and behind it.
use Rattle.std.specs.Prelude.{◌≡◌, ℕ, List, Option, Some, option_map}
use Rattle.std.specs.List.{flat_map}
use Rattle.device_outside.specs.declared.volume.Volume.{Ghosts}
use Rattle.device_core.specs.declared.device.Device.{Device}
use Rattle.device_core.specs.State.{device_of}
use Rattle.report_text.specs.declared.event.Happened.{Happened}
use Rattle.report_text.specs.declared.event.Loosed.{Loosed}
use Rattle.report_text.specs.declared.line.ReportLine.{ReportLine}
use Rattle.run_report.specs.declared.told.RunningProgram.{RunningProgram}
use Rattle.run_report.specs.Events.{lines_of, running_in, running_program, work_lines}
use Rattle.run_report.specs.OneDevice.{lines_by}
use Rattle.subsystem_core.specs.declared.subsystem.Subsystem.{Subsystem}
use Rattle.subsystem_core.specs.Devices.{device_at}
use Rattle.subsystem_defs.specs.declared.event.Event.{Event}
use Rattle.subsystem_defs.specs.Beside.{has_power, loose_count, new_acts, new_items}
use Rattle.subsystem_defs.specs.Happening.{happens}
use Rattle.subsystem_defs.specs.Lines.{Logged}
use Rattle.subsystem_defs.specs.Subsystem as runs
use Rattle.subsystem_defs.specs.Subsystem.{devices_of}
use Rattle.deck_run.specs.Counting.{more_calls}
use Rattle.deck_run.specs.Loosening.{acts_by, all_loosed}

-- of some events of a run
abbrev pub all_lines : List Logged → List ReportLine
all_lines events = flat_map lines_of events

-- of an event of a run that did this
abbrev pub lines_when : runs.Subsystem → Event → Happened → List ReportLine
lines_when run e h = work_lines h (happens run e).reads (happens run e).writes (devices_of run) (devices_of (happens run e).behind)

-- of a path and an ordinal
abbrev pub program_from : ℕ × ℕ → RunningProgram
program_from p = record { path = p.0; ordinal = p.1 }

module _ {V : Type 0} {G : Ghosts V} where
  abbrev pub running_of : Device V G → Option RunningProgram
  running_of x = option_map running_program (device_of x).history.running

  -- what came of data of cache fast write, between x and y
  abbrev pub loosed_between : ℕ → Device V G → Device V G → List Loosed
  loosed_between n x y =
      all_loosed n (loose_count (device_of x).store) (device_of y).store.number (new_acts (device_of x).history (device_of y).history)
      (has_power (new_items (device_of x).history (device_of y).history))

  -- the run knows which program runs on x; the event tells what came of data of cache fast write and what came to its journal; the acts are
  -- those that are noted; and the counts of its calls went on by those of the event
  pub record IsToldBy (run : runs.Subsystem) (e : Event) (n : ℕ) (x y : Device V G) : Type 0 where
    pub running : running_in (devices_of run) n ≡ running_of x
    pub lines : (h : Happened) → lines_when run e h
        ≡ lines_by n h (loosed_between n x y) (happens run e).reads (happens run e).writes (new_items (device_of x).history (device_of y).history)
    pub acts : new_acts (device_of x).history (device_of y).history ≡ acts_by e (happens run e).end (device_of y)
    pub reads : (device_of y).store.counts.reads ≡ more_calls (happens run e).reads (device_of x).store.counts.reads
    pub writes : (device_of y).store.counts.writes ≡ more_calls (happens run e).writes (device_of x).store.counts.writes

  -- so it is of the device of this number before the event and behind it
  abbrev pub IsTold : Subsystem V G → Subsystem V G → Event → ℕ → runs.Subsystem → Type 0
  IsTold old new e n run =
      (x y : Device V G) → device_at old.devices.items n ≡ Some x → device_at new.devices.items n ≡ Some y → IsToldBy run e n x y
