-- What a line, where it may stand, makes of the audited state; nothing where it shows what no plain device answers.
use Rattle.std.specs.Prelude.{ℕ, ◌+◌, ◌/◌, ◌%◌, ◌==◌, ◌&&◌, not, Bool, true, false, List, [], ◌∷◌, ◌++◌, length, map, Option, Some, None, if◌then◌else◌}
use Rattle.std.specs.List.{list_any}
use Rattle.ckd_types.specs.declared.channel.CommandEnd.{CommandEnd}
use Rattle.ckd_types.specs.declared.sense.Sense.{Sense}
use Rattle.ckd_types.specs.Sense.{equipment_sense, data_check_sense}
use Rattle.deck_plan.specs.declared.event.EventLine.{EventLine}
use Rattle.deck_plan.specs.declared.event.EventLine.TheVariants as events
use Rattle.plain_defs.specs.declared.journal.Act.{Act}
use Rattle.plain_defs.specs.declared.journal.How.TheVariants.{Cut}
use Rattle.plain_defs.specs.declared.journal.Act.TheVariants.{Loosen, Harden, CfwLost}
use Rattle.plain_defs.specs.History.{History, OpenEntry, started, reset_in_history, acted, emptied, lost_power, entry_of}
use Rattle.plain_defs.specs.Loose.{is_loose_there, next_number}
use Rattle.report_text.specs.declared.answers.BackAnswer.{BackAnswer}
use Rattle.report_text.specs.declared.answers.BackAnswer.TheVariants as back
use Rattle.report_text.specs.declared.answers.HowOver.TheVariants as how
use Rattle.report_text.specs.declared.answers.LooseAnswer.TheVariants as loose
use Rattle.report_text.specs.declared.answers.OrderAnswer.TheVariants as order_answers
use Rattle.report_text.specs.declared.answers.StartAnswer.{StartAnswer}
use Rattle.report_text.specs.declared.answers.StartAnswer.TheVariants as start
use Rattle.report_text.specs.declared.line.ReportLine.{ReportLine}
use Rattle.report_text.specs.declared.line.ReportLine.TheVariants as lines
use Rattle.report_text.specs.Ends.{end_line}
use Rattle.deck_audit.specs.Device.{AuditedDevice, state_of, words_of_open, start_answer, plain_end, has_loose}
use Rattle.deck_audit.specs.Device.{check_end, is_next_legal, may_loosen, runs, device_in, with_device}
use Rattle.deck_audit.specs.declared.state.HalfWrite.{HalfWrite}
use Rattle.deck_audit.specs.declared.state.HalfWrite.TheVariants.{Closed, OfCommand, OfBackground}
use Rattle.deck_audit.specs.Place.{first_event, holds, is_io, is_of_work}
use Rattle.deck_audit.specs.Same.{says}
use Rattle.deck_audit.specs.State.{AuditState, passed, settled, then_of, worker, worker_number, behind_work}
use Rattle.deck_audit.specs.declared.state.Did.{Did}
use Rattle.deck_audit.specs.declared.state.Did.TheVariants.{Ended, CheckEnded, Halved, Worked}
use Rattle.deck_audit.specs.declared.state.Due.{Due}
use Rattle.deck_audit.specs.declared.state.Due.TheVariants.{Next, DataOf, SenseOf, Behind, OverOf, Losses, ResetOf, Powers, Totals, Frames, Nothing}

-- with one device as it is now
abbrev pub changed : AuditState → AuditedDevice → AuditState
changed s a = record s { devices = with_device s.devices a }

-- the line must show this
abbrev pub shown : ReportLine → ReportLine → AuditState → Option AuditState
shown wanted line s = if says wanted line then Some s else None

-- START

abbrev pub after_start : AuditedDevice → ℕ → StartAnswer → AuditedDevice
after_start a path (start.Accepted n) = record a { history = started a.history path n }
after_start a path _ = a

abbrev pub start_made : AuditState → ReportLine → ℕ → AuditedDevice → Option AuditState
start_made s line path a =
    shown (lines.Start path a.number (start_answer a path)) line (passed (changed s (after_start a path (start_answer a path))))

-- END, DATA and SENSE

-- where bytes were sent they come first
abbrev pub behind_end : CommandEnd → List ℕ → Due
behind_end e [] = Behind true (Ended e)
behind_end e (b ∷ bytes) = DataOf e

abbrev pub shows_end : AuditedDevice → OpenEntry → ReportLine → CommandEnd → Bool
shows_end a o line e = says (lines.End (end_line o.path a.number o.ordinal e)) line

-- one with unit check, of which the sense says more, since each moves nothing; or the plain end
abbrev pub end_made_by : AuditState → ReportLine → AuditedDevice → OpenEntry → Option CommandEnd → Option AuditState
end_made_by s line a o (Some e) =
    let t = changed s (record a { half = Closed }) in
    if shows_end a o line (check_end (words_of_open a o) e.index equipment_sense) then Some (record t { due = SenseOf e })
    else if shows_end a o line e then Some (record t { due = behind_end e e.sent })
    else None
end_made_by s line a o None = None

abbrev pub end_made : AuditState → ReportLine → AuditedDevice → Option OpenEntry → Option AuditState
end_made s line a (Some o) = end_made_by s line a o (plain_end a o)
end_made s line a None = None

abbrev pub has_sense : ReportLine → Option Sense → Bool
has_sense line (Some sense) = says (lines.Sense sense) line
has_sense line None = false

abbrev pub check_made : AuditState → ReportLine → AuditedDevice → CommandEnd → OpenEntry → Option AuditState
check_made s line a e o =
    let checked = λ (sense : Sense). record s { due = Behind true (CheckEnded (check_end (words_of_open a o) e.index sense)) } in
    if says (lines.Sense equipment_sense) line then Some (checked equipment_sense)
    else if says (lines.Sense data_check_sense) line then Some (checked data_check_sense)
    else None

-- the sense of the plain end, or of a check
abbrev pub sense_made : AuditState → ReportLine → CommandEnd → AuditedDevice → Option AuditState
sense_made s line e a =
    if has_sense line e.sense then Some (record s { due = Behind true (Ended e) })
    else then_of a.history.running (check_made s line a e)

-- Acts

abbrev pub act_made : AuditState → AuditedDevice → Act → Due → AuditState
act_made s a act due = record (changed s (record a { history = acted a.history act })) { due = due }

abbrev pub harden_made : AuditState → AuditedDevice → ℕ → Due → Option AuditState
harden_made s a t due = if is_loose_there (state_of a) t then Some (act_made s a (Harden t) due) else None

-- a track becomes loose directly before the command that ended as on the plain device, and no act stands behind that
abbrev pub loosen_made : AuditState → AuditedDevice → ℕ → Did → Option AuditState
loosen_made s a t (Ended e) =
    if may_loosen a a.history.running t then Some (act_made s a (Loosen t) (Behind false (Ended e))) else None
loosen_made s a t did = None

abbrev pub act_of_work : AuditState → ReportLine → Did → AuditedDevice → Option AuditState
act_of_work s (lines.Loose d (loose.Harden t)) did a = harden_made s a t (Behind true did)
act_of_work s (lines.Loose d (loose.Loosen t)) did a = loosen_made s a t did
act_of_work s line did a = None

-- all loose tracks go back, and there are some
abbrev pub loss_line : AuditedDevice → ReportLine
loss_line a =
    let id = next_number (state_of a).number in
    lines.Loose a.number (loose.Lost (length (state_of a).loose) (id / 256 ∷ id % 256 ∷ []))

abbrev pub loss_made : AuditState → ReportLine → AuditedDevice → Option AuditState
loss_made s line a =
    if has_loose a && says (loss_line a) line
    then Some (act_made s a CfwLost (Losses a.number)) else None

-- a command of the program may edit its track: it isn't loose, or the edit is of such data
abbrev pub is_legal : Did → AuditedDevice → Bool
is_legal (Ended e) a = is_next_legal a a.history.running
is_legal did a = true

-- HALF and BACK

abbrev pub back_half : AuditedDevice → BackAnswer → HalfWrite
back_half a (back.Half track) = OfBackground
back_half a (back.Finished track) = Closed
back_half a (back.Unwritten track) = Closed
back_half a _ = a.half

-- where SETTLE is at its end
abbrev pub is_last : BackAnswer → Bool
is_last back.Nothing = true
is_last (back.Fault side) = true
is_last (back.BadBytes side) = true
is_last _ = false

abbrev pub work_made : AuditState → ReportLine → AuditedDevice → Option AuditState
work_made s (lines.End e) a = end_made s (lines.End e) a a.history.running
work_made s (lines.Half path d t) a = Some (record (changed s (record a { half = OfCommand })) { due = Behind true Halved })
work_made s (lines.Back d answer) a =
    Some (record (changed s (record a { half = back_half a answer })) { due = Behind true (Worked (is_last answer)) })
work_made s line a = Some (passed s)

-- RESET

abbrev pub cut_half : HalfWrite → HalfWrite
cut_half OfCommand = OfBackground
cut_half half = half

-- of the program that is cut as many commands took effect as ended, or one more, which may edit its track
abbrev pub cut_by : AuditState → AuditedDevice → OpenEntry → ℕ → Option AuditState
cut_by s a o k =
    let t = λ (more : ℕ). record (changed s (record a { history = reset_in_history a.history o.path more; half = cut_half a.half })) { due = ResetOf } in
    if k == length o.ends then Some (t 0)
    else if (k == length o.ends + 1) && is_next_legal a a.history.running then Some (t 1)
    else None

abbrev pub reset_made : AuditState → ReportLine → ℕ → AuditedDevice → Option AuditState
reset_made s (lines.Over p d n (how.Cut k)) path a = then_of a.history.running (λ o. cut_by s a o k)
reset_made s line path a = Some (passed (changed s (record a { history = reset_in_history a.history path 0 })))

-- Orders

abbrev pub lent_to : AuditState → ℕ → AuditedDevice → Option AuditState
lent_to s of b = Some (passed (changed s (record b { lent = Some of })))

abbrev pub is_lent_to : ℕ → Option ℕ → Bool
is_lent_to a (Some of) = of == a
is_lent_to a None = false

-- a device that was lent comes back empty
abbrev pub given_back : ℕ → AuditedDevice → AuditedDevice
given_back a b = if is_lent_to a b.lent then record b { history = emptied b.history; lent = None } else b

-- a device's volume isn't made empty while a program runs
abbrev pub runs_lent : ℕ → AuditedDevice → Bool
runs_lent a b = is_lent_to a b.lent && runs b.history.running

abbrev pub done_order : AuditState → EventLine → Option AuditState
done_order s (events.Pair a b) = if a == b then Some (passed s) else then_of (device_in s.devices b) (lent_to s a)
done_order s (events.Unpair a) =
    if list_any (runs_lent a) s.devices then None
    else Some (passed (record s { devices = map (given_back a) s.devices }))
done_order s event = Some (passed s)

abbrev pub order_made : AuditState → ReportLine → EventLine → Option AuditState
order_made s (lines.Order order order_answers.Done) event = done_order s event
order_made s (lines.Loose d (loose.Harden t)) event = then_of (device_in s.devices d) (λ a. harden_made s a t Next)
order_made s (lines.Loose d (loose.Lost count id)) event =
    then_of (device_in s.devices d) (loss_made s (lines.Loose d (loose.Lost count id)))
order_made s line event = Some (passed s)

-- POWER

-- the program is over as one that was cut
abbrev pub cut_open : History → OpenEntry → ℕ → History
cut_open h o more = record { items = h.items ++ entry_of o (Cut (length o.ends + more)) ∷ []; running = None; waiting = [] }

-- how many devices stand before the one of a number
abbrev pub place_of : List AuditedDevice → ℕ → ℕ
place_of [] d = 0
place_of (a ∷ devices) d = if a.number == d then 0 else place_of devices d + 1

-- its running program is over; the item of the loss of power follows with the event's own line
abbrev pub cut_by_power : AuditedDevice → OpenEntry → ℕ → AuditedDevice
cut_by_power a o more = record a { history = cut_open a.history o more }

abbrev pub power_cut : AuditState → AuditedDevice → ℕ → OpenEntry → Option AuditState
power_cut s a k o =
    let t = λ (more : ℕ). record (changed s (cut_by_power a o more)) { due = Powers (place_of s.devices a.number) } in
    if k == length o.ends then Some (t 0)
    else if (k == length o.ends + 1) && is_next_legal a a.history.running then Some (t 1)
    else None

abbrev pub power_loss : AuditState → ReportLine → AuditedDevice → Option AuditState
power_loss s line a =
    if has_loose a && says (loss_line a) line then Some (record s { due = Powers (place_of s.devices a.number + 1) }) else None

-- its loose tracks go back, its paths are as at first, and no half write is open
abbrev pub without_power : AuditedDevice → AuditedDevice
without_power a = record a { history = lost_power a.history 0; half = Closed }

abbrev pub power_made : AuditState → ReportLine → Option AuditState
power_made s (lines.Over p d n (how.Cut k)) = then_of (device_in s.devices d) (λ a. then_of a.history.running (power_cut s a k))
power_made s (lines.Loose d answer) = then_of (device_in s.devices d) (power_loss s (lines.Loose d answer))
power_made s line = Some (passed (record s { devices = map without_power s.devices }))

-- Every line

abbrev pub event_made : AuditState → ReportLine → EventLine → Option AuditState
event_made s line (events.Start path d) = then_of (device_in s.devices d) (start_made s line path)
event_made s line (events.Step d) = then_of (device_in s.devices d) (work_made s line)
event_made s line (events.Run d) = then_of (device_in s.devices d) (work_made s line)
event_made s line (events.Back d) = then_of (device_in s.devices d) (work_made s line)
event_made s line (events.Settle d) = then_of (device_in s.devices d) (work_made s line)
event_made s line (events.Reset path d) = then_of (device_in s.devices d) (reset_made s line path)
event_made s line events.Power = power_made s line
event_made s line event = order_made s line event

-- the counts, lost tracks and frames are read and not judged; k devices have had their totals
abbrev pub totals_made : AuditState → ReportLine → ℕ → AuditState
totals_made s (lines.Device d totals) k = record s { due = Totals (k + 1) }
totals_made s (lines.Lost d t) k = s
totals_made s lines.Finish k = record s { due = Nothing }
totals_made s line k = record s { due = Frames }

abbrev pub next_made : AuditState → ReportLine → List EventLine → Option AuditState
next_made s line (event ∷ later) = event_made s line event
next_made s line [] = Some (totals_made s line 0)

abbrev pub due_made : AuditState → ReportLine → Due → Option AuditState
due_made s line Next = next_made s line s.events
due_made s line (DataOf e) = shown (lines.Data e.sent) line (record s { due = Behind true (Ended e) })
due_made s line (SenseOf e) = then_of (worker s) (sense_made s line e)
due_made s line (Behind more did) = None
due_made s line (OverOf wanted) = then_of (worker s) (λ a. shown wanted line (behind_work s a Halved))
due_made s line (Losses d) = then_of (first_event s.events) (order_made s line)
due_made s line ResetOf = Some (passed s)
due_made s line (Powers k) = power_made s line
due_made s line (Totals k) = Some (totals_made s line k)
due_made s line Frames = Some (totals_made s line 0)
due_made s line Nothing = None

-- behind a piece of work: its command must have been legal, once no act of it can come any more
abbrev pub behind_made : AuditState → ReportLine → Bool → Did → Option AuditState
behind_made s line more did =
    let legal = holds (worker s) (is_legal did) in
    if is_of_work more (worker_number s) line && not (is_io line) then then_of (worker s) (act_of_work s line did)
    else if not legal then None
    else if is_io line then Some (settled s did)
    else due_made (settled s did) line (settled s did).due

abbrev pub made_in : AuditState → ReportLine → Due → Option AuditState
made_in s line (Behind more did) = behind_made s line more did
made_in s line due = due_made s line due

-- what a line makes of the state
abbrev pub made : AuditState → ReportLine → Option AuditState
made s line = made_in s line s.due
