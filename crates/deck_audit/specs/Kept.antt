-- What each kind of line makes of a device that an audit keeps, and what follows the line; nothing where the line shows
-- what no plain device answers.
use Rattle.std.specs.Prelude.{ℕ, ◌+◌, ◌/◌, ◌%◌, ◌==◌, ◌&&◌, nat_lt, Bool, true, false, List, []}
use Rattle.std.specs.Prelude.{◌∷◌, length, Option, Some, None, Result, Ok, Err, if◌then◌else◌}
use Rattle.ckd_types.specs.declared.channel.CommandEnd.{CommandEnd}
use Rattle.ckd_types.specs.declared.sense.Sense.{Sense}
use Rattle.deck_plan.specs.Plans.{PlansByPath}
use Rattle.plain_defs.specs.declared.journal.Act.{Act}
use Rattle.plain_defs.specs.declared.journal.Act.TheVariants.{Loosen, Harden}
use Rattle.plain_defs.specs.Loose.{is_loose_there, next_number}
use Rattle.report_text.specs.declared.answers.BackAnswer.{BackAnswer}
use Rattle.report_text.specs.declared.answers.BackAnswer.TheVariants as back
use Rattle.report_text.specs.declared.answers.HowOver.{HowOver}
use Rattle.report_text.specs.declared.answers.HowOver.TheVariants as how
use Rattle.report_text.specs.declared.answers.LooseAnswer.TheVariants as loose
use Rattle.report_text.specs.declared.answers.StartAnswer.{StartAnswer}
use Rattle.report_text.specs.declared.answers.StartAnswer.TheVariants as start
use Rattle.report_text.specs.declared.line.ReportLine.{ReportLine}
use Rattle.report_text.specs.declared.line.ReportLine.TheVariants as lines
use Rattle.deck_audit.specs.declared.kept.Kept.{Kept}
use Rattle.deck_audit.specs.declared.kept.Then.{Then}
use Rattle.deck_audit.specs.declared.kept.Then.TheVariants.{Passed, Wait}
use Rattle.deck_audit.specs.declared.replayed.Running.{Running}
use Rattle.deck_audit.specs.declared.state.Did.{Did}
use Rattle.deck_audit.specs.declared.state.Did.TheVariants.{Ended, CheckEnded, Halved, Worked}
use Rattle.deck_audit.specs.declared.state.Due.{Due}
use Rattle.deck_audit.specs.declared.state.Due.TheVariants.{Behind, Losses}
use Rattle.deck_audit.specs.declared.state.HalfWrite.{HalfWrite}
use Rattle.deck_audit.specs.declared.state.HalfWrite.TheVariants.{Closed, OfCommand, OfBackground}
use Rattle.deck_audit.specs.History.{cut_half, is_last}
use Rattle.deck_audit.specs.Judging.{end_due}
use Rattle.deck_audit.specs.Replay.{acted, checked, closed, cut, ended_next, has_left, is_legal, lost}
use Rattle.deck_audit.specs.Replay.{may_loosen, next_end, reset, settled, start_answer, started_next}
use Rattle.deck_audit.specs.Replayed.{ReplayedState}
use Rattle.deck_audit.specs.Same.{says}

-- what is said of the device where a line is judged well
abbrev pub OnGood : {E : Type 0} → Result (Option Then) E → Type 0 → Type 0
OnGood (Ok (Some next)) holds = holds
OnGood (Ok None) holds = Unit {0}
OnGood (Err e) holds = Unit {0}

abbrev pub then_if : Bool → Then → Option Then
then_if true next = Some next
then_if false next = None

-- START

abbrev pub start_says : PlansByPath → Kept → ℕ → ReportLine → Bool
start_says plans k path line = says (lines.Start path k.device.number (start_answer plans k.device path)) line

abbrev pub start_then : PlansByPath → Kept → ℕ → ReportLine → Option Then
start_then plans k path line = then_if (start_says plans k path line) Passed

abbrev pub is_accepted : StartAnswer → Bool
is_accepted (start.Accepted n) = true
is_accepted _ = false

abbrev pub begun : PlansByPath → Kept → ℕ → Bool → Kept
begun plans k path accepted =
    if accepted then (if has_left plans k.device path then record { device = started_next plans k.device path; ended = 0 } else k) else k

abbrev pub start_kept : PlansByPath → Kept → ℕ → Kept
start_kept plans k path = begun plans k path (is_accepted (start_answer plans k.device path))

-- The work of a device

abbrev pub with_half : ReplayedState → HalfWrite → ReplayedState
with_half r half = record r { half = half }

-- its next command has ended
abbrev pub end_kept : Kept → Kept
end_kept k = record k { device = with_half (ended_next k.device) Closed }

abbrev pub wait_if : Option Due → Option Then
wait_if (Some due) = Some (Wait due)
wait_if None = None

abbrev pub end_then_by : PlansByPath → Kept → ReportLine → Option CommandEnd → Option Then
end_then_by plans k line (Some e) = wait_if (end_due plans (with_half (ended_next k.device) Closed) line e)
end_then_by plans k line None = None

abbrev pub end_then : PlansByPath → Kept → ReportLine → Option Then
end_then plans k line = end_then_by plans k line (next_end k.device)

abbrev pub back_half : HalfWrite → BackAnswer → HalfWrite
back_half half (back.Half track) = OfBackground
back_half half (back.Finished track) = Closed
back_half half (back.Unwritten track) = Closed
back_half half _ = half

abbrev pub work_then : PlansByPath → Kept → ReportLine → Option Then
work_then plans k (lines.End e) = end_then plans k (lines.End e)
work_then plans k (lines.Half path d t) = Some (Wait (Behind true Halved))
work_then plans k (lines.Back d answer) = Some (Wait (Behind true (Worked (is_last answer))))
work_then plans k line = Some Passed

abbrev pub work_kept : Kept → ReportLine → Kept
work_kept k (lines.End e) = end_kept k
work_kept k (lines.Half path d t) = record k { device = with_half k.device OfCommand }
work_kept k (lines.Back d answer) = record k { device = with_half k.device (back_half k.device.half answer) }
work_kept k line = k

-- Acts of cache fast write

abbrev pub act_kept : Kept → Act → Kept
act_kept k act = record k { device = acted k.device act }

abbrev pub harden_then : Kept → ℕ → Due → Option Then
harden_then k t due = then_if (is_loose_there k.device.device t) (Wait due)

abbrev pub loosen_then : Kept → ℕ → Did → Option Then
loosen_then k t (Ended e) = then_if (may_loosen k.device t) (Wait (Behind false (Ended e)))
loosen_then k t did = None

abbrev pub act_then : Kept → ReportLine → Did → Option Then
act_then k (lines.Loose d (loose.Harden t)) did = harden_then k t (Behind true did)
act_then k (lines.Loose d (loose.Loosen t)) did = loosen_then k t did
act_then k line did = None

abbrev pub act_made : Kept → ReportLine → Kept
act_made k (lines.Loose d (loose.Harden t)) = act_kept k (Harden t)
act_made k (lines.Loose d (loose.Loosen t)) = act_kept k (Loosen t)
act_made k line = k

-- the cache failed: all loose tracks go back, and there are some
abbrev pub new_id : ReplayedState → List ℕ
new_id r = next_number r.device.number / 256 ∷ next_number r.device.number % 256 ∷ []

abbrev pub tells_loss : ReplayedState → ReportLine → Bool
tells_loss r line =
    nat_lt 0 (length r.device.loose) && says (lines.Loose r.number (loose.Lost (length r.device.loose) (new_id r))) line

abbrev pub loss_then : Kept → ReportLine → Option Then
loss_then k line = then_if (tells_loss k.device line) (Wait (Losses k.device.number))

abbrev pub loss_kept : Kept → Kept
loss_kept k = record k { device = lost k.device }

abbrev pub is_idle_by : Option Running → HalfWrite → Bool
is_idle_by None Closed = true
is_idle_by running half = false

-- neither a program runs nor is a half write open
abbrev pub is_idle : ReplayedState → Bool
is_idle r = is_idle_by r.running r.half

-- A piece of work is taken as done

abbrev pub over_by : ReplayedState → HowOver → Option Running → Option ReportLine
over_by r how (Some o) = Some (lines.Over o.path r.number o.ordinal how)
over_by r how None = None

abbrev pub over_line : ReplayedState → HowOver → Option ReportLine
over_line r how = over_by r how r.running

-- so many commands ended; no line tells of more than 65,536
abbrev pub one_more : ℕ → ℕ
one_more n = if nat_lt n 4294967295 then n + 1 else n

abbrev pub ended_kept : Kept → Bool → Kept
ended_kept k over =
    if over then record k { device = closed (settled k.device) }
    else record { device = settled k.device; ended = one_more k.ended }

abbrev pub ended_over : Kept → Bool → Option ReportLine
ended_over k over = if over then over_line k.device how.Full else None

abbrev pub checked_kept : Kept → Option Sense → Kept
checked_kept k (Some sense) = record k { device = checked k.device sense }
checked_kept k None = k

abbrev pub settled_kept : Kept → Did → Kept
settled_kept k (Ended e) = ended_kept k e.over
settled_kept k (CheckEnded e) = checked_kept k e.sense
settled_kept k did = k

abbrev pub settled_over : Kept → Did → Option ReportLine
settled_over k (Ended e) = ended_over k e.over
settled_over k (CheckEnded e) = over_line k.device how.Checked
settled_over k did = None

-- Cuts

abbrev pub path_of : Option Running → Option ℕ
path_of (Some o) = Some o.path
path_of None = None

-- of the program that is cut as many commands took effect as ended, or one more, which may edit its track
abbrev pub takes : Kept → ℕ → Bool
takes k n = if n == k.ended then true else (n == k.ended + 1) && is_legal (ended_next k.device)

abbrev pub taken : Kept → ℕ → ReplayedState
taken k n = if n == k.ended then k.device else settled (ended_next k.device)

abbrev pub cut_then_by : Kept → ℕ → Due → Option Running → Option Then
cut_then_by k n due (Some o) = then_if (takes k n) (Wait due)
cut_then_by k n due None = None

abbrev pub with_cut_half : ReplayedState → ReplayedState
with_cut_half r = record r { half = cut_half r.half }

abbrev pub cut_kept_by : Kept → ℕ → Option Running → Kept
cut_kept_by k n (Some o) = record k { device = with_cut_half (reset (taken k n) o.path) }
cut_kept_by k n None = k

-- the power is lost
abbrev pub power_then : Kept → ℕ → Due → Option Then
power_then k n due = cut_then_by k n due k.device.running

abbrev pub power_kept : Kept → ℕ → Kept
power_kept k n = record k { device = cut (taken k n) }
