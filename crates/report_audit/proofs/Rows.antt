-- Reports that were judged by the definitions alone: those that a plain device could have made, and forged ones.
use Rattle.std.proofs.Common.{◌≡◌, ℕ, ◌+◌, List, [], ◌∷◌, ◌++◌, false, refl}
use Rattle.std.specs.Prelude.{replicate, map, take}
use Rattle.ckd_types.specs.declared.channel.Ccw.{Ccw}
use Rattle.ckd_types.specs.declared.channel.Note.TheVariants.{Plain}
use Rattle.ckd_types.specs.declared.geometry.Geometry.TheVariants.{D3390}
use Rattle.ckd_types.specs.Commands.{command_of}
use Rattle.ckd_types.specs.Sense.{equipment_sense, no_record_sense, reject_sense}
use Rattle.deck_plan.specs.declared.event.EventLine.{EventLine}
use Rattle.deck_plan.specs.declared.event.EventLine.TheVariants as events
use Rattle.deck_text.specs.DeckLines.{DeckLines}
use Rattle.ckd_rules.specs.Walk.{walk}
use Rattle.plain_defs.specs.Program.{part_of}
use Rattle.report_text.specs.declared.answers.DeviceTotals.TheVariants as totals
use Rattle.report_text.specs.declared.answers.HowOver.TheVariants as how
use Rattle.report_text.specs.declared.answers.StartAnswer.TheVariants as start
use Rattle.report_text.specs.declared.line.ReportLine.{ReportLine}
use Rattle.report_text.specs.declared.line.ReportLine.TheVariants as lines
use Rattle.deck_audit.specs.declared.status.AuditStatus.{AuditStatus}
use Rattle.deck_audit.specs.declared.status.AuditStatus.TheVariants.{Yes, No}
use Rattle.deck_audit.specs.declared.status.AuditWhy.TheVariants.{Place, History}
use Rattle.deck_audit.specs.State.{AuditState, first_state}
use Rattle.deck_audit.specs.Verdict.{judged, at_end, or_no}

-- what some lines come to, counted from 1
abbrev pub judged_from : ℕ → AuditState → List ReportLine → AuditStatus
judged_from n s [] = at_end n s.due
judged_from n s (line ∷ later) = or_no n (judged s line) (λ t. judged_from (n + 1) t later)

abbrev pub audit : DeckLines → List ReportLine → AuditStatus
audit deck report = judged_from 1 (first_state deck) report

abbrev pub audit_all : DeckLines → List (List ReportLine) → List AuditStatus
audit_all deck reports = map (audit deck) reports

-- one device of one cylinder, with programs of path 1
abbrev pub deck_of : List (List Ccw) → List EventLine → DeckLines
deck_of programs events = record {
  frames = 1;
  slots = 0;
  devices = record { number = 0; geometry = D3390; cylinders = 1 } ∷ [];
  faults = [];
  programs = map (λ (p : List Ccw). record { path = 1; device = 0; program = p }) programs;
  events = events;
}

abbrev pub word : ℕ → ℕ → ℕ → List ℕ → Ccw
word command flags count given = record { command = command; flags = flags; count = count; given = given }

-- a no-operation
abbrev idle : List Ccw
idle = word 3 0 1 [] ∷ []

-- the data of record 0 of track 0
abbrev pub read_zero : List Ccw
read_zero =
    word 0x63 0x40 16 (0x40 ∷ 0xc0 ∷ 0x10 ∷ 0 ∷ replicate 11 0 ++ 0x0e ∷ [])
    ∷ word 0x47 0x40 16 (6 ∷ 0 ∷ 0 ∷ 1 ∷ replicate 12 0)
    ∷ word 6 0 8 [] ∷ []

abbrev pub ended : ℕ → ℕ → ℕ → ℕ → ReportLine
ended ordinal index status residual = lines.End (record {
  path = 1;
  device = 0;
  ordinal = ordinal;
  index = index;
  status = record { 0 = status };
  residual = residual;
  note = Plain;
})

abbrev pub accepted : ℕ → ReportLine
accepted n = lines.Start 1 0 (start.Accepted n)

abbrev pub over : ℕ → ReportLine
over n = lines.Over 1 0 n how.Full

abbrev pub checked : ℕ → ReportLine
checked n = lines.Over 1 0 n how.Checked

abbrev pub cut : ℕ → ℕ → ReportLine
cut n commands = lines.Over 1 0 n (how.Cut commands)

abbrev pub io : ℕ → ℕ → ReportLine
io reads writes = lines.Io reads writes

abbrev pub tail : List ReportLine
tail = lines.Device 0 (totals.Calls 1 0 0) ∷ lines.Frame 0 0 false ∷ lines.Finish ∷ []

abbrev pub run_once : List EventLine
run_once = events.Start 1 0 ∷ events.Run 0 ∷ []

-- The first run: a read of record 0. Its deck has twelve lines, and the line REPORT is the thirteenth

abbrev first_run : List ReportLine → AuditStatus
first_run report = judged_from 14 (first_state (deck_of (read_zero ∷ []) run_once)) report

abbrev read_lines : ℕ → ℕ → List ReportLine
read_lines n last =
    accepted n ∷ ended n 0 0x0c 0 ∷ ended n 1 0x0c 0 ∷ io 1 0 ∷ ended n 2 0x0c 0
    ∷ lines.Data (replicate 7 0 ++ last ∷ []) ∷ over n ∷ []

the_first_run : map first_run ((read_lines 1 0 ++ tail) ∷ (read_lines 1 1 ++ tail) ∷ (read_lines 1 0 ++ take 2 tail) ∷ [])
    ≡ Yes ∷ No 19 History ∷ No 23 Place ∷ []
unfolding part_of command_of walk
the_first_run = refl

-- A program that isn't planned; a second start while it runs; and the same answered as it must be

runs_no_more : audit_all (deck_of (idle ∷ []) (run_once ++ events.Start 1 0 ∷ []))
    ((accepted 1 ∷ ended 1 0 0x0c 1 ∷ over 1 ∷ accepted 2 ∷ tail)
    ∷ (accepted 1 ∷ ended 1 0 0x0c 1 ∷ over 1 ∷ lines.Start 1 0 start.Done ∷ tail) ∷ [])
    ≡ No 4 History ∷ Yes ∷ []
unfolding part_of command_of
runs_no_more = refl

abbrev two_starts : List EventLine
two_starts = events.Start 1 0 ∷ events.Start 1 0 ∷ []

starts_once : audit_all (deck_of (idle ∷ idle ∷ []) two_starts)
    ((accepted 1 ∷ accepted 2 ∷ tail) ∷ (accepted 1 ∷ lines.Start 1 0 start.Running ∷ tail)
    ∷ (accepted 1 ∷ lines.Start 2 0 start.Running ∷ tail) ∷ (accepted 2 ∷ tail) ∷ [])
    ≡ No 2 History ∷ Yes ∷ No 2 Place ∷ No 1 History ∷ []
unfolding part_of command_of
starts_once = refl

-- Ends: another residual, another word, another program; an end behind the last one; none

ends_as_it_must : audit_all (deck_of (idle ∷ []) run_once)
    ((accepted 1 ∷ ended 1 0 0x0c 1 ∷ over 1 ∷ tail) ∷ (accepted 1 ∷ ended 1 0 0x0c 0 ∷ over 1 ∷ tail)
    ∷ (accepted 1 ∷ ended 1 1 0x0c 1 ∷ over 1 ∷ tail) ∷ (accepted 1 ∷ ended 2 0 0x0c 1 ∷ over 1 ∷ tail)
    ∷ (accepted 1 ∷ ended 1 0 0x0c 1 ∷ ended 1 1 0x0e 1 ∷ lines.Sense equipment_sense ∷ checked 1 ∷ tail)
    ∷ (accepted 1 ∷ over 1 ∷ tail) ∷ (accepted 1 ∷ ended 1 0 0x0c 1 ∷ tail) ∷ (accepted 1 ∷ ended 1 0 0x0c 1 ∷ checked 1 ∷ tail) ∷ [])
    ≡ Yes ∷ No 2 History ∷ No 2 History ∷ No 2 Place ∷ No 3 Place ∷ No 2 Place ∷ No 3 Place ∷ No 3 History ∷ []
unfolding part_of command_of
ends_as_it_must = refl

-- A command that is none: its sense, that of another cause, and an equipment check in its place

abbrev no_command : List Ccw
no_command = word 2 0 1 [] ∷ []

senses_as_it_must : audit_all (deck_of (no_command ∷ []) run_once)
    ((accepted 1 ∷ ended 1 0 0x0e 1 ∷ lines.Sense (reject_sense 1) ∷ over 1 ∷ tail)
    ∷ (accepted 1 ∷ ended 1 0 0x0e 1 ∷ lines.Sense (reject_sense 3) ∷ over 1 ∷ tail)
    ∷ (accepted 1 ∷ ended 1 0 0x0e 1 ∷ lines.Sense no_record_sense ∷ over 1 ∷ tail)
    ∷ (accepted 1 ∷ ended 1 0 0x0e 1 ∷ over 1 ∷ tail)
    ∷ (accepted 1 ∷ ended 1 0 0x0e 1 ∷ lines.Sense equipment_sense ∷ checked 1 ∷ tail)
    ∷ (accepted 1 ∷ ended 1 0 0x0e 1 ∷ lines.Sense equipment_sense ∷ over 1 ∷ tail) ∷ [])
    ≡ Yes ∷ No 3 History ∷ No 3 History ∷ No 3 Place ∷ Yes ∷ No 4 History ∷ []
unfolding part_of command_of
senses_as_it_must = refl

-- A program of two words that is cut behind the first: with its reset, without, behind more commands than it may have
-- done, and by no reset

abbrev two_words : List Ccw
two_words = word 3 0x40 1 [] ∷ word 3 0 1 [] ∷ []

abbrev reset_line : ReportLine
reset_line = lines.Reset 1 0

cut_by_reset : audit_all (deck_of (two_words ∷ []) (events.Start 1 0 ∷ events.Step 0 ∷ events.Reset 1 0 ∷ events.Step 0 ∷ []))
    ((accepted 1 ∷ ended 1 0 0x0c 1 ∷ cut 1 1 ∷ reset_line ∷ lines.StepIdle 0 ∷ tail)
    ∷ (accepted 1 ∷ ended 1 0 0x0c 1 ∷ cut 1 2 ∷ reset_line ∷ lines.StepIdle 0 ∷ tail)
    ∷ (accepted 1 ∷ ended 1 0 0x0c 1 ∷ cut 1 3 ∷ reset_line ∷ lines.StepIdle 0 ∷ tail)
    ∷ (accepted 1 ∷ ended 1 0 0x0c 1 ∷ cut 1 0 ∷ reset_line ∷ lines.StepIdle 0 ∷ tail)
    ∷ (accepted 1 ∷ ended 1 0 0x0c 1 ∷ cut 1 1 ∷ lines.StepIdle 0 ∷ tail)
    ∷ (accepted 1 ∷ ended 1 0 0x0c 1 ∷ reset_line ∷ lines.StepIdle 0 ∷ tail)
    ∷ (accepted 1 ∷ cut 1 0 ∷ reset_line ∷ lines.StepIdle 0 ∷ tail)
    ∷ (accepted 1 ∷ ended 1 0 0x0c 1 ∷ cut 1 1 ∷ reset_line ∷ ended 1 1 0x0c 1 ∷ tail) ∷ [])
    ≡ Yes ∷ Yes ∷ No 3 History ∷ No 3 History ∷ No 4 Place ∷ No 3 Place ∷ No 2 Place ∷ No 5 Place ∷ []
unfolding part_of command_of
cut_by_reset = refl
