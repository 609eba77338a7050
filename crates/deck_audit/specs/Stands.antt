-- Whether a line may stand where the lines before it made a state.
use Rattle.std.specs.Prelude.{Bool, ◌||◌}
use Rattle.report_text.specs.declared.line.ReportLine.{ReportLine}
use Rattle.deck_audit.specs.declared.state.Due.{Due}
use Rattle.deck_audit.specs.declared.state.Due.TheVariants.{Behind}
use Rattle.deck_audit.specs.Place.{in_due, is_of_work}
use Rattle.deck_audit.specs.State.{AuditState, outlines, settled, worker_number}

abbrev pub in_state : AuditState → ReportLine → Bool
in_state s line = in_due (outlines s) s.events line s.due

abbrev pub stands_in : AuditState → ReportLine → Due → Bool
stands_in s line (Behind more did) = is_of_work more (worker_number s) line || in_state (settled s did) line
stands_in s line due = in_due (outlines s) s.events line due

-- whether a line may stand there
abbrev pub stands : AuditState → ReportLine → Bool
stands s line = stands_in s line s.due
