-- An auditor is that of the lines of a report so far: it keeps each device of the deck as they make it, the events that are left, and
-- what is due.
use Rattle.std.specs.Prelude.{◌≡◌, ◌≤◌, ℕ, ◌+◌, ◌==◌, ◌&&◌, ◌||◌, not, nat_lt, Bool, true, false, zero, suc, List, [], ◌∷◌}
use Rattle.std.specs.Prelude.{drop, length, map, slice_get, slice_set, Option, Some, None, Result, Ok, Err, if◌then◌else◌, ⊤}
use Rattle.deck_text.specs.declared.line.DeviceLine.{DeviceLine}
use Rattle.deck_text.specs.declared.line.PlannedProgram.{PlannedProgram}
use Rattle.deck_text.specs.Plans.{plans_of}
use Rattle.report_text.specs.declared.answers.HowOver.TheVariants as how
use Rattle.report_text.specs.declared.answers.LooseAnswer.TheVariants as loose
use Rattle.report_text.specs.declared.answers.OrderAnswer.TheVariants as order_answers
use Rattle.report_audit.specs.declared.told.OrderTold.{OrderTold}
use Rattle.report_audit.specs.declared.told.OrderTold.TheVariants as told
use Rattle.report_reading.specs.Reading.{line_of}
use Rattle.report_text.specs.declared.line.ReportLine.{ReportLine}
use Rattle.report_text.specs.declared.line.ReportLine.TheVariants as lines
use Rattle.deck_audit.specs.declared.replayed.Running.{Running}
use Rattle.deck_audit.specs.declared.state.Did.{Did}
use Rattle.deck_audit.specs.declared.state.Did.TheVariants.{Ended}
use Rattle.report_audit.specs.declared.auditor.Auditor.{Auditor}
use Rattle.deck_audit.specs.declared.kept.Kept.{Kept}
use Rattle.deck_audit.specs.declared.kept.Then.{Then}
use Rattle.deck_audit.specs.declared.kept.Then.TheVariants.{Passed, Wait}
use Rattle.deck_audit.specs.declared.state.Due.{Due}
use Rattle.deck_audit.specs.declared.state.Due.TheVariants.{Next, DataOf, SenseOf, Behind, Powers, Totals, Frames, Nothing}
use Rattle.deck_audit.specs.declared.status.AuditWhy.{AuditWhy}
use Rattle.deck_audit.specs.declared.status.AuditWhy.TheVariants.{History, Place}
use Rattle.deck_audit.specs.declared.task.Task.{Task}
use Rattle.deck_audit.specs.declared.task.Task.TheVariants as tasks
use Rattle.deck_audit.specs.Device.{AuditedDevice, device_in, own_runs}
use Rattle.deck_audit.specs.History.{due_made, is_lent_to, place_of}
use Rattle.deck_audit.specs.Keeping.{IsDue, IsKept}
use Rattle.deck_audit.specs.Place.{IsDueOf, first_event, is_io}
use Rattle.deck_audit.specs.Stands.{in_state}
use Rattle.deck_audit.specs.Replay.{given_back, is_legal, new_replayed, outline_of, without_power}
use Rattle.deck_audit.specs.declared.state.Outline.{Outline}
use Rattle.deck_audit.specs.State.{AuditState, worker_number}
use Rattle.deck_audit.specs.Task.{IsInRange, task_kept, task_then}
use Rattle.deck_audit.specs.Verdict.{or_history}

-- 1 to 64 cylinders
abbrev pub IsSized : DeviceLine → Type 0
IsSized d = (1 ≤ d.cylinders) × (d.cylinders ≤ 64)

-- a device before its first line
abbrev pub new_kept : DeviceLine → Kept
new_kept line = record { device = new_replayed line; ended = 0 }

-- the place of the first device of a number, from place n on
abbrev pub place_from : ℕ → List Kept → ℕ → Option ℕ
place_from n [] d = None
place_from n (k ∷ devices) d = if k.device.number == d then Some n else place_from (n + 1) devices d

-- a device of the deck, at whose work this is due
pub record IsAt (programs : List PlannedProgram) (due : Due) (k : Kept) (a : AuditedDevice) : Type 0 where
  pub kept : IsKept k a
  pub plans_are : a.plans ≡ plans_of programs a.number
  pub due_so : IsDue due k a

-- nothing is due of any device
abbrev pub AllKept : List PlannedProgram → List Kept → List AuditedDevice → Type 0
AllKept programs [] [] = ⊤
AllKept programs (k ∷ kept) (a ∷ devices) = IsAt programs Next k a × AllKept programs kept devices
AllKept programs kept devices = ⊥

abbrev pub due_if : Bool → Due → Due
due_if true due = due
due_if false due = Next

abbrev pub either : Bool → Type 0 → Type 0 → Type 0
either true here later = here
either false here later = later

-- or something is of the first one of that number
abbrev pub OneKept : List PlannedProgram → Due → ℕ → List Kept → List AuditedDevice → Type 0
OneKept programs due d [] [] = ⊤
OneKept programs due d (k ∷ kept) (a ∷ devices) =
    IsAt programs (due_if (a.number == d) due) k a
    × either (a.number == d) (AllKept programs kept devices) (OneKept programs due d kept devices)
OneKept programs due d kept devices = ⊥

-- what is due of no device
abbrev pub is_quiet : Due → Bool
is_quiet (DataOf e) = false
is_quiet (SenseOf e) = false
is_quiet (Behind more did) = false
is_quiet due = true

abbrev pub AreKept : List PlannedProgram → Due → Option ℕ → List Kept → List AuditedDevice → Bool → Type 0
AreKept programs due worker kept devices true = AllKept programs kept devices
AreKept programs due worker kept devices false = (d : ℕ) × (worker ≡ Some d) × OneKept programs due d kept devices

-- of the first so many devices none runs a program
abbrev pub NoneRuns : ℕ → List AuditedDevice → Type 0
NoneRuns zero devices = ⊤
NoneRuns (suc n) [] = ⊤
NoneRuns (suc n) (a ∷ devices) = (a.history.running ≡ None) × NoneRuns n devices

-- a loss of power is told of so many
abbrev pub ArePowered : Due → List AuditedDevice → Type 0
ArePowered (Powers n) devices = NoneRuns n devices
ArePowered due devices = ⊤

abbrev pub kept_outline : Kept → Outline
kept_outline k = outline_of k.device

-- but for what is due
pub record IsFor (z : Auditor) (s : AuditState) : Type 0 where
  pub events_are : s.events ≡ drop z.passed z.deck.events
  pub devices_are : AreKept z.deck.programs s.due (worker_number s) z.devices.items s.devices (is_quiet s.due)
  pub told : IsDueOf (length s.devices) s.due
  pub powered : ArePowered s.due s.devices
  pub outlines_so : z.outlines.items ≡ map kept_outline z.devices.items

pub record IsAuditOf (z : Auditor) (s : AuditState) : Type 0 where
  pub for : IsFor z s
  pub due_is : z.due ≡ s.due

-- None: the line is judged well, and the auditor is that of what it makes. Else its fault
abbrev pub IsJudged : Option AuditWhy → Auditor → Result AuditState AuditWhy → Type 0
IsJudged None z w = (t : AuditState) × (w ≡ Ok t) × IsAuditOf z t
IsJudged (Some why) z w = w ≡ Err why

-- true: the auditor is that of what the line makes
abbrev pub Makes : Bool → Auditor → Option AuditState → Type 0
Makes true z made = (t : AuditState) × (made ≡ Some t) × IsAuditOf z t
Makes false z made = made ≡ None

abbrev pub is_nothing : Due → Bool
is_nothing Nothing = true
is_nothing _ = false

-- what follows a line that is judged well
abbrev pub next_place : ℕ → ℕ → ℕ
next_place n events = if nat_lt n events then n + 1 else n

abbrev pub gone_on : Auditor → Then → Auditor
gone_on z Passed = record z { passed = next_place z.passed (length z.deck.events); due = Next }
gone_on z (Wait due) = record z { due = due }

-- a line judged by its device
pub record IsJudgedAt (programs : List PlannedProgram) (old new : List Kept) (at d : ℕ) (line : ReportLine) (task : Task) (next : Option Then) : Type 0 where
  pub before : Kept
  pub before_is : slice_get old at ≡ Some before
  pub after : Kept
  pub new_is : new ≡ slice_set old at after
  pub next_is : next ≡ task_then (plans_of programs d) before at line task
  pub after_is : (x : Then) → next ≡ Some x → after ≡ task_kept (plans_of programs d) before line task
  pub range : IsInRange task

-- What must be due where a line is such a task of the device of that number

abbrev pub Fits : AuditState → ℕ → Task → Type 0
Fits s d tasks.Work = (is_quiet s.due ≡ true) × (worker_number s ≡ Some d)
Fits s d (tasks.Sense e) = (s.due ≡ SenseOf e) × (worker_number s ≡ Some d)
Fits s d (tasks.Act did) = (more : Bool) × (s.due ≡ Behind more did) × (worker_number s ≡ Some d)
Fits s d (tasks.Settle event did) =
    (more : Bool) × (s.due ≡ Behind more did) × (worker_number s ≡ Some d) × (event ≡ first_event s.events)
Fits s d (tasks.Over event wanted) = (is_quiet s.due ≡ true) × (worker_number s ≡ Some d) × (event ≡ first_event s.events)
Fits s d (tasks.Reset path) =
    (is_quiet s.due ≡ true) × ((a : AuditedDevice) → device_in s.devices d ≡ Some a → own_runs a.history.running path ≡ false)
Fits s d (tasks.PowerCut n) = (is_quiet s.due ≡ true) × NoneRuns (place_of s.devices d) s.devices
Fits s d tasks.PowerLoss = (is_quiet s.due ≡ true) × NoneRuns (place_of s.devices d + 1) s.devices
Fits s d task = is_quiet s.due ≡ true

-- where no piece of work is at its end
abbrev pub placed : AuditState → ReportLine → Result AuditState AuditWhy
placed s line = if in_state s line then or_history (due_made s line s.due) else Err Place

-- how many devices something was told of
abbrev pub told_of : Due → ℕ
told_of (Powers n) = n
told_of (Totals n) = n
told_of due = 0

-- What kind of line it is

-- a program that was cut: its device, and so many commands
abbrev pub cut_at : ReportLine → Option (ℕ × ℕ)
cut_at (lines.Over path d ordinal (how.Cut n)) = Some (d, n)
cut_at line = None

-- loose tracks of a device
abbrev pub loose_at : ReportLine → Option ℕ
loose_at (lines.Loose d answer) = Some d
loose_at line = None

-- what a line of an order tells
abbrev pub order_told : ReportLine → OrderTold
order_told (lines.Order order order_answers.Done) = told.Done
order_told (lines.Loose d (loose.Harden t)) = told.Firm d t
order_told (lines.Loose d (loose.Lost count id)) = told.Lost d
order_told line = told.Other

-- The totals: what is due behind a line, of so many devices

abbrev pub totals_due : ℕ → ReportLine → ℕ → Due
totals_due devices (lines.Device d totals) k = Totals (next_place k devices)
totals_due devices (lines.Lost d t) k = Totals k
totals_due devices lines.Finish k = Nothing
totals_due devices line k = Frames

-- a line of the totals, where k devices have had theirs
abbrev pub FitsTotals : AuditState → ReportLine → ℕ → Type 0
FitsTotals s (lines.Device d totals) k = k + 1 ≤ length s.devices
FitsTotals s (lines.Lost d t) k = s.due ≡ Totals k
FitsTotals s line k = ⊤

-- All devices

abbrev pub has_program : Option Running → Bool
has_program (Some o) = true
has_program None = false

-- its volume is another device's
abbrev pub is_lent : ℕ → Kept → Bool
is_lent a k = is_lent_to a k.device.lent

abbrev pub lent_runs : ℕ → Kept → Bool
lent_runs a k = is_lent a k && has_program k.device.running

abbrev pub taken_back : ℕ → Kept → Kept
taken_back a k = if is_lent a k then record k { device = given_back k.device } else k

abbrev pub dark_kept : Kept → Kept
dark_kept k = record k { device = without_power k.device }

-- Behind a piece of work

abbrev pub behind_of : Due → Result (Bool × Did) Due
behind_of (Behind more did) = Ok (more, did)
behind_of due = Err due

-- a text is read as the bytes that are due
abbrev pub IsDueData : Due → List ℕ → Type 0
IsDueData (DataOf e) text = line_of text ≡ Ok (lines.Data e.sent)
IsDueData due text = ⊥

-- they are told
abbrev pub behind_data : Due → Due
behind_data (DataOf e) = Behind true (Ended e)
behind_data due = due

-- no device does it
abbrev pub idle_fault : ReportLine → AuditWhy
idle_fault line = if is_io line then History else Place

-- a command may edit its track
abbrev pub kept_legal : Did → Kept → Bool
kept_legal (Ended e) k = is_legal k.device
kept_legal did k = true

-- the work is taken as done, which makes state t
abbrev pub judged_settled : AuditState → ReportLine → Bool → Result AuditState AuditWhy
judged_settled t line legal =
    if is_io line || in_state t line
    then or_history (if not legal then None else if is_io line then Some t else due_made t line t.due)
    else Err Place
