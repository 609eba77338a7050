-- How an audit goes along a run, from each event line of the deck to the next.
use Rattle.std.specs.Prelude.{◌≡◌, ℕ, Bool, true, false, List, [], ◌∷◌, map}
use Rattle.std.specs.List.{flat_map}
use Rattle.deck_plan.specs.declared.event.EventLine.{EventLine}
use Rattle.deck_plan.specs.declared.event.EventLine.TheVariants as events
use Rattle.report_text.specs.declared.line.ReportLine.{ReportLine}
use Rattle.deck_audit.specs.declared.state.Due.TheVariants.{Nothing}
use Rattle.deck_audit.specs.State.{AuditState}
use Rattle.run_report.specs.Events.{lines_of}
use Rattle.subsystem_defs.specs.Lines.{Logged, asked_by, is_busy, is_settled, last_behind, line_logged, run_lines}
use Rattle.subsystem_defs.specs.Subsystem.{Subsystem, mounted_in}
use Rattle.audit_laws.specs.Standing.{LeadsBy, LineLeads, stand}
use Rattle.audit_laws.specs.Steps.{LeadsTowards}

-- the subsystem behind an event line
abbrev pub line_behind : Subsystem → EventLine → Subsystem
line_behind s e = last_behind s (line_logged s (asked_by e))

-- the lines of an event line lead the audit from where it stands before it to where it stands behind it, or to where it still waits for
-- the next line
abbrev pub LineGoes : Subsystem → EventLine → Type 0
LineGoes s e =
    (later : List EventLine) → LeadsTowards (stand s (e ∷ later)) (flat_map lines_of (line_logged s (asked_by e))) (stand (line_behind s e) later)

-- the program and the half write of a device of which all is run
abbrev pub RunIsOver : Subsystem → ℕ → Type 0
RunIsOver s d = is_busy (mounted_in (line_behind s (events.Run d)).mounted d) ≡ false

-- the last of these says that nothing is left to do in the background, or that it is stopped
abbrev pub ends_settled : List Logged → Bool
ends_settled [] = false
ends_settled (t ∷ []) = is_settled t.happened.end
ends_settled (t ∷ u ∷ ts) = ends_settled (u ∷ ts)

abbrev pub SettleIsOver : Subsystem → ℕ → Type 0
SettleIsOver s d = ends_settled (line_logged s (asked_by (events.Settle d))) ≡ true

-- behind a piece of work of a device the audit may wait so; behind any other line it stands where the run does
abbrev pub LineDoes : Subsystem → EventLine → Type 0
LineDoes s (events.Step d) = LineGoes s (events.Step d)
LineDoes s (events.Run d) = LineGoes s (events.Run d)
LineDoes s (events.Back d) = LineGoes s (events.Back d)
LineDoes s (events.Settle d) = LineGoes s (events.Settle d)
LineDoes s e = LineLeads s e

abbrev pub behind_lines : Subsystem → List EventLine → Subsystem
behind_lines s events = last_behind s (run_lines (map asked_by events) s)

-- the audit is led to its end
abbrev pub WholeLeads : AuditState → List ReportLine → Type 0
WholeLeads s lines = (t : AuditState) × LeadsBy s lines t × (t.due ≡ Nothing)
