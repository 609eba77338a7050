-- The lines of an event, in the order in which a report has them.
use Rattle.std.specs.Prelude.{ℕ, ◌==◌, ◌&&◌, List, [], ◌∷◌, ◌++◌, Option, Some, None, if◌then◌else◌, map}
use Rattle.ckd_types.specs.declared.channel.CommandEnd.{CommandEnd}
use Rattle.report_text.specs.declared.event.Happened.{Happened}
use Rattle.report_text.specs.declared.event.Happened.TheVariants as happened
use Rattle.report_text.specs.declared.event.Loosed.{Loosed}
use Rattle.report_text.specs.declared.event.ProgramOver.{ProgramOver}
use Rattle.report_text.specs.declared.line.ReportLine.{ReportLine}
use Rattle.report_text.specs.declared.line.ReportLine.TheVariants as lines
use Rattle.report_text.specs.Ends.{data_lines, end_line, sense_lines}

-- a command's end, but for what is over with it
abbrev pub ended_lines : ℕ → ℕ → ℕ → CommandEnd → List ReportLine
ended_lines path device ordinal e = (lines.End (end_line path device ordinal e) ∷ []) ++ (data_lines e.sent ++ sense_lines e.sense)

-- what is told first of what happened, and what last
abbrev pub first_lines : Happened → List ReportLine
first_lines (happened.First line) = line ∷ []
first_lines (happened.Ended path device ordinal end) = ended_lines path device ordinal end
first_lines (happened.Reset path device) = []
first_lines (happened.Ordered order answer) = []

abbrev pub last_line : Happened → Option ReportLine
last_line (happened.Reset path device) = Some (lines.Reset path device)
last_line (happened.Ordered order answer) = Some (lines.Order order answer)
last_line _ = None

abbrev pub line_if : Option ReportLine → List ReportLine
line_if None = []
line_if (Some line) = line ∷ []

abbrev pub loosed_line : Loosed → ReportLine
loosed_line l = lines.Loose l.device l.answer

-- where there was a call
abbrev pub io_lines : ℕ → ℕ → List ReportLine
io_lines reads writes = if (reads == 0) && (writes == 0) then [] else lines.Io reads writes ∷ []

abbrev pub program_over_lines : Option ProgramOver → List ReportLine
program_over_lines None = []
program_over_lines (Some o) = lines.Over o.path o.device o.ordinal o.how ∷ []

-- The order of them all: what is told first, what became of loose tracks, the volume calls, the program that is over, and what is told last
abbrev pub in_order : Happened → List ReportLine → ℕ → ℕ → List ReportLine → List ReportLine
in_order h loosed reads writes over = first_lines h ++ (loosed ++ (io_lines reads writes ++ (over ++ line_if (last_line h))))
