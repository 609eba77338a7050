-- What the lines of a report show of a deck's devices, whether or not plain devices do so; and whether plain devices can have done so. Of which
-- event, device and piece of work a line is, is known from where it stands (deck_audit/specs/Place).
use Rattle.std.specs.Prelude.{◌≡◌, ◌⊎◌, ◌&&◌, ◌++◌, ℕ, not, Bool, true, false, List, [], ◌∷◌, Some, None, Result, Ok, Err, ⊤}
use Rattle.ckd_types.specs.declared.channel.CommandEnd.{CommandEnd}
use Rattle.ckd_types.specs.Sense.{equipment_sense}
use Rattle.deck_plan.specs.declared.event.EventLine.{EventLine}
use Rattle.deck_plan.specs.declared.event.EventLine.TheVariants as events
use Rattle.plain_defs.specs.declared.journal.Act.{Act}
use Rattle.plain_defs.specs.declared.journal.Act.TheVariants.{Loosen, Harden, CfwLost}
use Rattle.plain_defs.specs.declared.journal.How.TheVariants.{Cut}
use Rattle.plain_defs.specs.declared.journal.Item.TheVariants as items
use Rattle.plain_defs.specs.History.{History, OpenEntry, IsPlain, acted, entry_of, resets_of, started}
use Rattle.report_text.specs.declared.answers.HowOver.TheVariants as how
use Rattle.report_text.specs.declared.answers.LooseAnswer.TheVariants as loose
use Rattle.report_text.specs.declared.answers.StartAnswer.{StartAnswer}
use Rattle.report_text.specs.declared.answers.StartAnswer.TheVariants as start
use Rattle.report_text.specs.declared.line.ReportLine.{ReportLine}
use Rattle.report_text.specs.declared.line.ReportLine.TheVariants as lines
use Rattle.report_reading.specs.declared.fault.LineFault.{LineFault}
use Rattle.report_reading.specs.Reading.{line_of}
use Rattle.deck_audit.specs.declared.state.Did.{Did}
use Rattle.deck_audit.specs.declared.state.Did.TheVariants.{Ended, CheckEnded}
use Rattle.deck_audit.specs.declared.state.Due.{Due}
use Rattle.deck_audit.specs.declared.state.Due.TheVariants.{Next, DataOf, SenseOf, Behind, Losses, ResetOf, Powers}
use Rattle.deck_audit.specs.declared.state.HalfWrite.TheVariants.{Closed}
use Rattle.deck_audit.specs.Place.{first_event, holds, is_io, is_of_work}
use Rattle.deck_audit.specs.Same.{says}
use Rattle.deck_audit.specs.Device.{AuditedDevice, check_end, device_in, plain_end, start_answer, words_of_open}
use Rattle.deck_audit.specs.History.{act_made, behind_end, changed, cut_half, due_made, has_sense, loss_line, order_made, place_of, power_made}
use Rattle.deck_audit.specs.History.{reset_made, shows_end, totals_made, without_power, work_made}
use Rattle.deck_audit.specs.State.{AuditState, passed, settled, worked, worker, worker_number}

-- What is so of a device

abbrev pub OfDevice : AuditState → ℕ → (AuditedDevice → Type 0) → Type 0
OfDevice s d F = (a : AuditedDevice) × (device_in s.devices d ≡ Some a) × F a

abbrev pub OfWorker : AuditState → (AuditedDevice → Type 0) → Type 0
OfWorker s F = (a : AuditedDevice) × (worker s ≡ Some a) × F a

-- Pasts that plain devices could have

abbrev pub PlainPast : AuditedDevice → Type 0
PlainPast a = IsPlain a.plans a.empty a.history

abbrev pub all_acted : History → List Act → History
all_acted h [] = h
all_acted h (act ∷ acts) = all_acted (acted h act) acts

-- tracks become loose and firm
abbrev pub NoLoss : List Act → Type 0
NoLoss [] = ⊤
NoLoss (CfwLost ∷ acts) = ⊥
NoLoss (act ∷ acts) = NoLoss acts

-- a plain device can have done the work: its past is one with some acts that may still be told, and then the work
abbrev pub CanDo : Did → AuditedDevice → Type 0
CanDo did a = (acts : List Act) × NoLoss acts × PlainPast (worked (record a { history = all_acted a.history acts }) did)

-- while work is told it is asked of the device at work alone
abbrev pub AtWork : AuditState → AuditedDevice → (AuditedDevice → Type 0) → Type 0
AtWork s a F = worker s ≡ Some a → F a

abbrev pub CanBeAt : AuditState → AuditedDevice → Due → Type 0
CanBeAt s a (DataOf e) = AtWork s a (CanDo (Ended e))
CanBeAt s a (SenseOf e) = AtWork s a (λ b. CanDo (Ended e) b ⊎ CanDo (CheckEnded e) b)
CanBeAt s a (Behind true did) = AtWork s a (CanDo did)
CanBeAt s a (Behind false did) = AtWork s a (λ b. PlainPast (worked b did))
CanBeAt s a (Powers k) = PlainPast (without_power a)
CanBeAt s a due = PlainPast a

-- the device of a number can be plain: its past is a plain device's; with the end that is being told, where there is one; with the loss of
-- power, while that is told
abbrev pub CanBePlain : AuditState → ℕ → Type 0
CanBePlain s d = (a : AuditedDevice) → device_in s.devices d ≡ Some a → CanBeAt s a s.due

abbrev pub CanAllBePlain : AuditState → Type 0
CanAllBePlain s = (d : ℕ) → CanBePlain s d

-- START: an accepted one starts this program, on a device that isn't lent and runs none; any other answer is that of a device with this past
abbrev pub AnswerShows : AuditState → AuditedDevice → ℕ → StartAnswer → AuditState → Type 0
AnswerShows s a path (start.Accepted n) t =
    (a.lent ≡ None) × (a.history.running ≡ None) × (t ≡ passed (changed s (record a { history = started a.history path n })))
AnswerShows s a path answer t = (start_answer a path ≡ answer) × (t ≡ passed (changed s a))

abbrev pub StartShows : AuditState → ReportLine → ℕ → AuditedDevice → AuditState → Type 0
StartShows s line path a t =
    (answer : StartAnswer) × (says (lines.Start path a.number answer) line ≡ true) × AnswerShows s a path answer t

-- END: the next command of the program ended so. Where the line has the form of an equipment check or a data check, with unit check and
-- nothing moved, its sense comes next and says which; else it has these words, whatever it sent

abbrev pub looks_checked : AuditedDevice → OpenEntry → ReportLine → CommandEnd → Bool
looks_checked a o line e = shows_end a o line (check_end (words_of_open a o) e.index equipment_sense)

abbrev pub EndIs : AuditState → ReportLine → AuditedDevice → OpenEntry → CommandEnd → Bool → AuditState → Type 0
EndIs s line a o e true t = t ≡ record s { due = SenseOf e }
EndIs s line a o e false t = (shows_end a o line e ≡ true) × (t ≡ record s { due = behind_end e e.sent })

abbrev pub EndShows : AuditState → ReportLine → AuditedDevice → OpenEntry → AuditState → Type 0
EndShows s line a o t =
    (e : CommandEnd) × EndIs (changed s (record a { half = Closed })) line a o e (looks_checked a o line e) t

abbrev pub WorkShows : AuditState → ReportLine → AuditedDevice → AuditState → Type 0
WorkShows s (lines.End e) a t = (o : OpenEntry) × (a.history.running ≡ Some o) × EndShows s (lines.End e) a o t
WorkShows s line a t = work_made s line a ≡ Some t

-- SENSE: that of the command's end, or of a check in its place, where the plain device's own end has another
abbrev pub own_sense : AuditedDevice → OpenEntry → ReportLine → Bool
own_sense a o line = holds (plain_end a o) (λ e. has_sense line e.sense)

abbrev pub SenseShows : AuditState → ReportLine → CommandEnd → AuditedDevice → AuditState → Type 0
SenseShows s line e a t =
    (o : OpenEntry) × (a.history.running ≡ Some o) × (has_sense line e.sense ≡ true)
    × ((t ≡ record s { due = Behind true (Ended e) }) ⊎ ((own_sense a o line ≡ false) × (t ≡ record s { due = Behind true (CheckEnded e) })))

-- CFW behind a piece of work: a track became firm or loose before its end, loose the last of all
abbrev pub ActShows : AuditState → ReportLine → Did → AuditedDevice → AuditState → Type 0
ActShows s (lines.Loose d (loose.Harden track)) did a t = t ≡ act_made s a (Harden track) (Behind true did)
ActShows s (lines.Loose d (loose.Loosen track)) did a t = t ≡ act_made s a (Loosen track) (Behind false did)
ActShows s line did a t = ⊥

-- OVER with CUT: the program was cut when so many commands had taken effect, by a reset

abbrev pub cut_as : History → OpenEntry → ℕ → History
cut_as h o k = record { items = h.items ++ entry_of o (Cut k) ∷ items.Reset o.path ∷ resets_of h.waiting; running = None; waiting = [] }

abbrev pub ResetShows : AuditState → ReportLine → ℕ → AuditedDevice → AuditState → Type 0
ResetShows s (lines.Over p d n (how.Cut k)) path a t =
    (o : OpenEntry) × (a.history.running ≡ Some o)
    × (t ≡ record (changed s (record a { history = cut_as a.history o k; half = cut_half a.half })) { due = ResetOf })
ResetShows s line path a t = reset_made s line path a ≡ Some t

-- or by a loss of power

abbrev pub dark_as : History → OpenEntry → ℕ → History
dark_as h o k = record { items = h.items ++ entry_of o (Cut k) ∷ []; running = None; waiting = [] }

abbrev pub PowerShows : AuditState → ReportLine → AuditState → Type 0
PowerShows s (lines.Over p d n (how.Cut k)) t =
    OfDevice s d (λ a. (o : OpenEntry) × (a.history.running ≡ Some o)
    × (t ≡ record (changed s (record a { history = dark_as a.history o k })) { due = Powers (place_of s.devices a.number) }))
PowerShows s line t = power_made s line ≡ Some t

-- CFW of an order: a track became firm; or so many loose ones went back, and the data have this number
abbrev pub OrderShows : AuditState → ReportLine → EventLine → AuditState → Type 0
OrderShows s (lines.Loose d (loose.Harden track)) event t = OfDevice s d (λ a. t ≡ act_made s a (Harden track) Next)
OrderShows s (lines.Loose d (loose.Lost count id)) event t =
    OfDevice s d (λ a. (says (loss_line a) (lines.Loose d (loose.Lost count id)) ≡ true) × (t ≡ act_made s a CfwLost (Losses a.number)))
OrderShows s line event t = order_made s line event ≡ Some t

-- Every line

abbrev pub EventShows : AuditState → ReportLine → EventLine → AuditState → Type 0
EventShows s line (events.Start path d) t = OfDevice s d (λ a. StartShows s line path a t)
EventShows s line (events.Step d) t = OfDevice s d (λ a. WorkShows s line a t)
EventShows s line (events.Run d) t = OfDevice s d (λ a. WorkShows s line a t)
EventShows s line (events.Back d) t = OfDevice s d (λ a. WorkShows s line a t)
EventShows s line (events.Settle d) t = OfDevice s d (λ a. WorkShows s line a t)
EventShows s line (events.Reset path d) t = OfDevice s d (λ a. ResetShows s line path a t)
EventShows s line events.Power t = PowerShows s line t
EventShows s line event t = OrderShows s line event t

abbrev pub NextShows : AuditState → ReportLine → List EventLine → AuditState → Type 0
NextShows s line (event ∷ later) t = EventShows s line event t
NextShows s line [] t = t ≡ totals_made s line 0

-- where nothing of a plain device is asked the line shows what it makes
abbrev pub DueShows : AuditState → ReportLine → Due → AuditState → Type 0
DueShows s line Next t = NextShows s line s.events t
DueShows s line (SenseOf e) t = OfWorker s (λ a. SenseShows s line e a t)
DueShows s line (Losses d) t = (event : EventLine) × (first_event s.events ≡ Some event) × OrderShows s line event t
DueShows s line (Powers k) t = PowerShows s line t
DueShows s line due t = due_made s line due ≡ Some t

-- behind a piece of work a line is of one of its acts, or the work is done before it; then all devices can be plain there, as behind a line
abbrev pub BehindShows : AuditState → ReportLine → Did → Bool → Bool → AuditState → Type 0
BehindShows s line did true io t = OfWorker s (λ a. ActShows s line did a t)
BehindShows s line did false true t = OfWorker s (λ a. t ≡ settled s did)
BehindShows s line did false false t =
    OfWorker s (λ a. CanAllBePlain (settled s did) × DueShows (settled s did) line (settled s did).due t)

abbrev pub ShowsIn : AuditState → ReportLine → Due → AuditState → Type 0
ShowsIn s line (Behind more did) t =
    BehindShows s line did (is_of_work more (worker_number s) line && not (is_io line)) (is_io line) t
ShowsIn s line due t = DueShows s line due t

abbrev pub Shows : AuditState → ReportLine → AuditState → Type 0
Shows s line t = ShowsIn s line s.due t

abbrev pub TextShows : AuditState → Result ReportLine LineFault → AuditState → Type 0
TextShows s (Ok line) t = Shows s line t
TextShows s (Err fault) t = ⊥

-- lines tell of plain devices: each line shows what makes their pasts from those before it, and behind each they can all be plain
abbrev pub TellsOfPlain : AuditState → List (List ℕ) → AuditState → Type 0
TellsOfPlain s [] t = t ≡ s
TellsOfPlain s (text ∷ texts) t = (u : AuditState) × TextShows s (line_of text) u × CanAllBePlain u × TellsOfPlain u texts t
