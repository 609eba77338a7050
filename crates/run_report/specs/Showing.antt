-- That a report shows what its devices' histories have, told event by event.
use Rattle.std.specs.Prelude.{◌≡◌, ℕ, Bool, List, [], ◌∷◌, ◌++◌, Option, Some, None, ⊤, if◌then◌else◌}
use Rattle.plain_defs.specs.declared.journal.How.{How}
use Rattle.plain_defs.specs.declared.journal.How.TheVariants.{Full}
use Rattle.plain_defs.specs.History.{OpenEntry}
use Rattle.device_defs.specs.Marks.{MarksDevice}
use Rattle.report_text.specs.declared.line.ReportLine.{ReportLine}
use Rattle.report_text.specs.Events.{program_over_lines}
use Rattle.run_report.specs.Beside.{how_over}
use Rattle.run_report.specs.Events.{lines_of}
use Rattle.run_report.specs.Shown.{history_lines, shown_from}
use Rattle.subsystem_defs.specs.Deeds.{device_in}
use Rattle.subsystem_defs.specs.Lines.{Logged}
use Rattle.subsystem_defs.specs.Subsystem.{Subsystem, devices_of}

-- the lines of the programs of the device of this number, by its history
abbrev pub lines_by_history : ℕ → Option MarksDevice → List ReportLine
lines_by_history d (Some x) = history_lines d x.history
lines_by_history d None = []

abbrev pub lines_in : Subsystem → ℕ → List ReportLine
lines_in s d = lines_by_history d (device_in (devices_of s) d)

-- an event from s on shows what came to the history, whatever END line stands before it
abbrev pub ShowsEvent : ℕ → Subsystem → Logged → Type 0
ShowsEvent d s x = (own : Bool) → lines_in x.happened.behind d ≡ lines_in s d ++ shown_from d own (lines_of x)

-- so does each event of a run
abbrev pub AreShown : ℕ → Subsystem → List Logged → Type 0
AreShown d s [] = ⊤
AreShown d s (x ∷ xs) = ShowsEvent d s x × AreShown d x.happened.behind xs

-- the OVER line of a program, where it is over

abbrev pub over_lines_of : ℕ → OpenEntry → How → List ReportLine
over_lines_of d o how = program_over_lines (Some (record { path = o.path; device = d; ordinal = o.ordinal; how = how_over how }))

abbrev pub over_if : ℕ → OpenEntry → Bool → List ReportLine
over_if d o over = if over then over_lines_of d o Full else []
