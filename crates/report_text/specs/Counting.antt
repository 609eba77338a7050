-- What the lines of a run come to.
use Rattle.std.specs.Prelude.{Bool, true, false, List, count_by}
use Rattle.ckd_types.specs.Status.{has_unit_check}
use Rattle.report_text.specs.declared.answers.StartAnswer.{StartAnswer}
use Rattle.report_text.specs.declared.answers.StartAnswer.TheVariants as start
use Rattle.report_text.specs.declared.line.ReportLine.{ReportLine}
use Rattle.report_text.specs.declared.line.ReportLine.TheVariants as lines
use Rattle.report_text.specs.declared.summary.LineCounts.{LineCounts}

abbrev pub is_accepted : StartAnswer → Bool
is_accepted (start.Accepted n) = true
is_accepted _ = false

abbrev pub is_start : ReportLine → Bool
is_start (lines.Start path device answer) = is_accepted answer
is_start _ = false

abbrev pub is_end : ReportLine → Bool
is_end (lines.End e) = true
is_end _ = false

abbrev pub is_check : ReportLine → Bool
is_check (lines.End e) = has_unit_check e.status
is_check _ = false

abbrev pub counts_of : List ReportLine → LineCounts
counts_of ls = record { programs = count_by is_start ls; commands = count_by is_end ls; checks = count_by is_check ls }
