-- What the lines of a command's end come to, over a device that is replayed: what is due behind each, or nothing where no
-- plain device answers so.
use Rattle.std.specs.Prelude.{◌==◌, Option, Some, None, Bool, true, false, if◌then◌else◌}
use Rattle.ckd_types.specs.declared.channel.CommandEnd.{CommandEnd}
use Rattle.ckd_types.specs.declared.sense.Sense.{Sense}
use Rattle.ckd_types.specs.Sense.{equipment_sense, data_check_sense}
use Rattle.plain_defs.specs.Journal.{Plans, program_of}
use Rattle.report_text.specs.declared.line.ReportLine.{ReportLine}
use Rattle.report_text.specs.declared.line.ReportLine.TheVariants as lines
use Rattle.report_text.specs.Ends.{end_line}
use Rattle.deck_audit.specs.declared.replayed.Running.{Running}
use Rattle.deck_audit.specs.declared.state.Did.TheVariants.{Ended, CheckEnded}
use Rattle.deck_audit.specs.declared.state.Due.{Due}
use Rattle.deck_audit.specs.declared.state.Due.TheVariants.{Behind, SenseOf}
use Rattle.deck_audit.specs.Device.{check_end}
use Rattle.deck_audit.specs.History.{behind_end, has_sense}
use Rattle.deck_audit.specs.Same.{says}
use Rattle.deck_audit.specs.Replayed.{ReplayedState}
use Rattle.deck_audit.specs.State.{AuditState}

-- how its next command ends with equipment check or data check
abbrev pub check_of : Plans → Running → CommandEnd → Sense → CommandEnd
check_of plans o e sense = check_end (program_of plans o.path o.ordinal) e.index sense

abbrev pub shows_end : ReplayedState → Running → ReportLine → CommandEnd → Bool
shows_end r o line e = says (lines.End (end_line o.path r.number o.ordinal e)) line

abbrev pub has_check : ReportLine → Bool
has_check (lines.End end) = end.status.0 == 14
has_check line = false

-- END: one with unit check, of which the sense says more; or the plain end
abbrev pub end_due_by : Plans → ReplayedState → ReportLine → CommandEnd → Option Running → Option Due
end_due_by plans r line e (Some o) =
    if shows_end r o line (check_of plans o e equipment_sense) then Some (SenseOf e)
    else if shows_end r o line e then Some (behind_end e e.sent)
    else None
end_due_by plans r line e None = None

abbrev pub end_due : Plans → ReplayedState → ReportLine → CommandEnd → Option Due
end_due plans r line e = end_due_by plans r line e r.running

-- DATA: the bytes that the command sent
abbrev pub data_due : ReportLine → CommandEnd → Option Due
data_due line e = if says (lines.Data e.sent) line then Some (Behind true (Ended e)) else None

-- SENSE: that of the plain end, or of a check
abbrev pub sense_due_by : Plans → ReportLine → CommandEnd → Option Running → Option Due
sense_due_by plans line e (Some o) =
    if has_sense line e.sense then Some (Behind true (Ended e))
    else if says (lines.Sense equipment_sense) line then Some (Behind true (CheckEnded (check_of plans o e equipment_sense)))
    else if says (lines.Sense data_check_sense) line then Some (Behind true (CheckEnded (check_of plans o e data_check_sense)))
    else None
sense_due_by plans line e None = None

abbrev pub sense_due : Plans → ReplayedState → ReportLine → CommandEnd → Option Due
sense_due plans r line e = sense_due_by plans line e r.running

-- what is due behind a line that was judged well
abbrev pub due_in : Option AuditState → Option Due
due_in (Some s) = Some s.due
due_in None = None
