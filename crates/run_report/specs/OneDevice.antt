-- An event of one device: it alone tells.
use Rattle.std.specs.Prelude.{◌≡◌, ℕ, List, [], ◌∷◌, ◌++◌, map, Option, Some, None}
use Rattle.plain_defs.specs.declared.journal.Item.{Item}
use Rattle.plain_defs.specs.History.{History}
use Rattle.device_defs.specs.Device.{Device}
use Rattle.device_defs.specs.Marks.{MarksDevice}
use Rattle.report_text.specs.declared.event.Happened.{Happened}
use Rattle.report_text.specs.declared.event.Loosed.{Loosed}
use Rattle.report_text.specs.declared.line.ReportLine.{ReportLine}
use Rattle.report_text.specs.Events.{in_order, loosed_line, program_over_lines}
use Rattle.run_report.specs.Beside.{loose_lines, over_lines, over_of}
use Rattle.run_report.specs.Events.{work_lines}
use Rattle.subsystem_defs.specs.Subsystem.{Mounted, Subsystem, devices_of, mounted_in, with_mounted}

-- by what it did, the acts that came with it, its volume calls, and the items that came to the journal
abbrev pub lines_by : ℕ → Happened → List Loosed → ℕ → ℕ → List Item → List ReportLine
lines_by d h acts reads writes items = in_order h (map loosed_line acts) reads writes (program_over_lines (over_of d items))

-- what a loss of power tells of it
abbrev pub power_lines_by : ℕ → List Loosed → List Item → List ReportLine
power_lines_by d acts items = program_over_lines (over_of d items) ++ map loosed_line acts

-- by the device before and behind it
module _ {F P H : Type 0} where
  abbrev pub device_lines : Happened → ℕ → ℕ → Device F P H → Device F P H → List ReportLine
  device_lines h reads writes before behind = in_order h (loose_lines before behind) reads writes (over_lines before behind)

  -- nothing beside what it did
  pub record TellsNothing (before behind : Device F P H) : Type 0 where
    pub loose : loose_lines before behind ≡ []
    pub over : over_lines before behind ≡ []

-- in a run: a device before, and another one in its place
abbrev pub lines_at : Happened → ℕ → ℕ → Option Mounted → MarksDevice → List ReportLine
lines_at h reads writes (Some m) behind = device_lines h reads writes m.device behind
lines_at h reads writes None behind = in_order h [] reads writes []

pub record TellsAlone (s : Subsystem) (n : ℕ) (x : Mounted) : Type 0 where
  pub tells : (h : Happened) (reads writes : ℕ) → work_lines h reads writes (devices_of s) (devices_of (with_mounted s n x))
      ≡ lines_at h reads writes (mounted_in s.mounted n) x.device

-- Devices of which the same is told, over whatever contents

module _ {F P H G Q I : Type 0} where
  pub record IsToldAs (d : Device F P H) (e : Device G Q I) : Type 0 where
    pub device : d.store.device ≡ e.store.device
    pub number : d.store.number ≡ e.store.number
    pub loose : d.store.loose ≡ e.store.loose
    pub history : d.history ≡ e.history

  pub data AreToldAs : List (Device F P H) → List (Device G Q I) → Type 0 where
    none : AreToldAs [] []
    and : {d : Device F P H} {e : Device G Q I} {ds : List (Device F P H)} {es : List (Device G Q I)}
        → IsToldAs d e → AreToldAs ds es → AreToldAs (d ∷ ds) (e ∷ es)
