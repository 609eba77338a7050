-- Which line may stand where: one that the deck's next event, or the event begun, may have there.
use Rattle.std.specs.Prelude.{ℕ, ◌-◌, ◌≤◌, ◌==◌, ◌&&◌, ◌||◌, not, nat_lt, Bool, true, false, List, [], ◌∷◌}
use Rattle.std.specs.Prelude.{drop, slice_get, Option, Some, None, if◌then◌else◌, ⊤}
use Rattle.deck_plan.specs.declared.event.EventLine.{EventLine}
use Rattle.deck_plan.specs.declared.event.EventLine.TheVariants as events
use Rattle.report_text.specs.declared.answers.BackAnswer.{BackAnswer}
use Rattle.report_text.specs.declared.answers.BackAnswer.TheVariants as back
use Rattle.report_text.specs.declared.answers.DeviceTotals.TheVariants as totals
use Rattle.report_text.specs.declared.answers.HowOver.TheVariants as how
use Rattle.report_text.specs.declared.answers.LooseAnswer.TheVariants as loose
use Rattle.report_text.specs.declared.answers.OrderAnswer.TheVariants as order_answers
use Rattle.report_text.specs.declared.line.ReportLine.{ReportLine}
use Rattle.report_text.specs.declared.line.ReportLine.TheVariants as lines
use Rattle.report_text.specs.declared.order.Order.{Order}
use Rattle.report_text.specs.declared.order.Order.TheVariants as orders
use Rattle.deck_audit.specs.declared.state.HalfWrite.{HalfWrite}
use Rattle.deck_audit.specs.declared.state.OpenProgram.{OpenProgram}
use Rattle.deck_audit.specs.declared.state.Outline.{Outline}
use Rattle.deck_audit.specs.declared.state.HalfWrite.TheVariants.{Closed, OfCommand, OfBackground}
use Rattle.deck_audit.specs.Same.{is_same_order, says}
use Rattle.deck_audit.specs.declared.state.Due.{Due}
use Rattle.deck_audit.specs.declared.state.Due.TheVariants.{Next, DataOf, SenseOf, Behind, OverOf, Losses, ResetOf, Powers, Totals, Frames, Nothing}

-- the device of an event that is work
abbrev pub worker_of : EventLine → Option ℕ
worker_of (events.Step d) = Some d
worker_of (events.Run d) = Some d
worker_of (events.Back d) = Some d
worker_of (events.Settle d) = Some d
worker_of _ = None

abbrev pub first_event : List EventLine → Option EventLine
first_event [] = None
first_event (event ∷ events) = Some event

abbrev pub holds : {T : Type 0} → Option T → (T → Bool) → Bool
holds None is = false
holds (Some x) is = is x

abbrev pub outline_in : List Outline → ℕ → Option Outline
outline_in [] d = None
outline_in (a ∷ devices) d = if a.number == d then Some a else outline_in devices d

abbrev pub is_declared : List Outline → ℕ → Bool
is_declared s d = holds (outline_in s d) (λ a. true)

-- Work of a device

abbrev pub is_end : ℕ → OpenProgram → ReportLine → Bool
is_end d o (lines.End e) = (e.path == o.path) && (e.device == d) && (e.ordinal == o.ordinal)
is_end d o _ = false

abbrev pub is_half : ℕ → OpenProgram → ReportLine → Bool
is_half d o (lines.Half path device track) = (path == o.path) && (device == d)
is_half d o _ = false

-- the second part of the background's half write; and other work of the background
abbrev pub is_second : BackAnswer → Bool
is_second (back.Finished track) = true
is_second (back.Unwritten track) = true
is_second _ = false

abbrev pub is_second_line : ℕ → ReportLine → Bool
is_second_line d (lines.Back device answer) = (device == d) && is_second answer
is_second_line d _ = false

abbrev pub is_back_line : ℕ → ReportLine → Bool
is_back_line d (lines.Back device answer) = (device == d) && not (is_second answer)
is_back_line d _ = false

-- STEP and RUN: a command of the running program, or nothing to do
abbrev pub in_steps : Outline → ReportLine → ReportLine → Option OpenProgram → Bool
in_steps a idle line (Some o) = is_end a.number o line || is_half a.number o line
in_steps a idle line None = says idle line

abbrev pub second_of : Outline → ReportLine → Option OpenProgram → Bool
second_of a line running = holds running (λ o. is_end a.number o line)

abbrev pub may_step : Outline → ReportLine → ReportLine → HalfWrite → Bool
may_step a idle line Closed = in_steps a idle line a.running
may_step a idle line OfCommand = second_of a line a.running
may_step a idle line OfBackground = is_second_line a.number line

abbrev pub may_back : Outline → ReportLine → HalfWrite → Bool
may_back a line Closed = is_back_line a.number line
may_back a line OfCommand = second_of a line a.running
may_back a line OfBackground = is_second_line a.number line

-- Orders

abbrev pub is_order : Order → ReportLine → Bool
is_order order (lines.Order other answer) = is_same_order order other
is_order order _ = false

-- a track of the device becomes firm: its volume failed
abbrev pub is_harden : ℕ → ReportLine → Bool
is_harden d (lines.Loose device (loose.Harden track)) = device == d
is_harden d _ = false

-- the cache failed: a declared device's data are lost
abbrev pub is_loss : List Outline → ReportLine → Bool
is_loss s (lines.Loose device (loose.Lost count id)) = is_declared s device
is_loss s _ = false

-- behind the losses of devices below
abbrev pub is_loss_above : ℕ → List Outline → ReportLine → Bool
is_loss_above d s (lines.Loose device answer) = nat_lt d device && is_loss s (lines.Loose device answer)
is_loss_above d s _ = false

abbrev pub is_cut : ℕ → OpenProgram → ReportLine → Bool
is_cut d o (lines.Over path device ordinal (how.Cut commands)) =
    (path == o.path) && (device == d) && (ordinal == o.ordinal)
is_cut d o _ = false

abbrev pub is_reset : ℕ → ℕ → ReportLine → Bool
is_reset path d (lines.Reset p device) = (p == path) && (device == d)
is_reset path d _ = false

-- the reset of the running program's path has its OVER line first
abbrev pub may_reset : ℕ → ℕ → Outline → ReportLine → Option OpenProgram → Bool
may_reset path d a line (Some o) =
    if o.path == path then is_cut d o line else is_reset path d line
may_reset path d a line None = is_reset path d line

abbrev pub is_start : ℕ → ℕ → ReportLine → Bool
is_start path d (lines.Start p device answer) = (p == path) && (device == d)
is_start path d _ = false

-- A loss of power, told device by device: the OVER line of a program that was cut, then the loss of its loose tracks

abbrev pub is_loss_of : ℕ → ReportLine → Bool
is_loss_of d (lines.Loose device (loose.Lost count id)) = device == d
is_loss_of d _ = false

abbrev pub is_power_done : ReportLine → Bool
is_power_done (lines.Order order order_answers.Done) = is_same_order orders.Power order
is_power_done _ = false

-- a device without either is passed over
abbrev pub in_power_of : Outline → ReportLine → Bool → Option OpenProgram → Bool
in_power_of a line below (Some o) = is_cut a.number o line
in_power_of a line below None = is_loss_of a.number line || (not a.loose && below)

abbrev pub in_power : ReportLine → List Outline → Bool
in_power line [] = is_power_done line
in_power line (a ∷ left) = in_power_of a line (in_power line left) a.running

-- an event's first line, or the next one of RUN and SETTLE
abbrev pub in_event : List Outline → ReportLine → EventLine → Bool
in_event s line (events.Start path d) = is_start path d line
in_event s line (events.Step d) = holds (outline_in s d) (λ a. may_step a (lines.StepIdle d) line a.half)
in_event s line (events.Run d) = holds (outline_in s d) (λ a. may_step a (lines.RunIdle d) line a.half)
in_event s line (events.Back d) = holds (outline_in s d) (λ a. may_back a line a.half)
in_event s line (events.Settle d) = holds (outline_in s d) (λ a. may_back a line a.half)
in_event s line (events.Reset path d) = holds (outline_in s d) (λ a. may_reset path d a line a.running)
in_event s line events.FailCache = is_loss s line || is_order orders.FailCache line
in_event s line events.FailStore = is_order orders.FailStore line
in_event s line (events.FailVolume d side) = is_harden d line || is_order (orders.FailVolume d side) line
in_event s line events.RepairCache = is_order orders.RepairCache line
in_event s line events.RepairStore = is_order orders.RepairStore line
in_event s line (events.Replace d side) = is_order (orders.Replace d side) line
in_event s line (events.Pair a b) = is_order (orders.Pair a b) line
in_event s line (events.Unpair a) = is_order (orders.Unpair a) line
in_event s line (events.Suspend a) = is_order (orders.Suspend a) line
in_event s line (events.Resume a) = is_order (orders.Resume a) line
in_event s line events.Power = in_power line s

-- What stands behind a first line, and at the end of a report

abbrev pub is_data : ReportLine → Bool
is_data (lines.Data bytes) = true
is_data _ = false

abbrev pub is_sense : ReportLine → Bool
is_sense (lines.Sense sense) = true
is_sense _ = false

abbrev pub is_io : ReportLine → Bool
is_io (lines.Io reads writes) = true
is_io _ = false

-- the OVER line of a program that wasn't cut
abbrev pub is_over : ReportLine → ReportLine → Bool
is_over (lines.Over path device ordinal ended) (lines.Over p d n (how.Cut commands)) = false
is_over (lines.Over path device ordinal ended) (lines.Over p d n other) = (p == path) && (d == device) && (n == ordinal)
is_over wanted _ = false

abbrev pub is_frame : List Outline → ReportLine → Bool
is_frame s (lines.Frame device track modified) = is_declared s device
is_frame s _ = false

abbrev pub is_finish : ReportLine → Bool
is_finish lines.Finish = true
is_finish _ = false

-- a lent device says so, and only it
abbrev pub is_totals_of : ReportLine → Outline → Option ℕ → Bool
is_totals_of (lines.Device device (totals.Calls reads writes lost)) a None = device == a.number
is_totals_of (lines.Device device (totals.Lent of)) a (Some other) = (device == a.number) && (of == other)
is_totals_of _ a lent = false

abbrev pub is_lost_of : ReportLine → Outline → Option ℕ → Bool
is_lost_of (lines.Lost device track) a None = device == a.number
is_lost_of _ a lent = false

-- the totals of the first of the devices that are left; behind the last one's the frames
abbrev pub in_totals_of : List Outline → ReportLine → List Outline → Bool
in_totals_of s line [] = is_frame s line || is_finish line
in_totals_of s line (a ∷ left) = is_totals_of line a a.lent

-- behind the totals of k devices, the LOST lines of the last one too
abbrev pub in_totals : List Outline → ReportLine → ℕ → Bool
in_totals s line k =
    (nat_lt 0 k && holds (slice_get s (k - 1)) (λ a. is_lost_of line a a.lent)) || in_totals_of s line (drop k s)

abbrev pub in_reset : ReportLine → Option EventLine → Bool
in_reset line (Some (events.Reset path d)) = is_reset path d line
in_reset line _ = false

abbrev pub in_next : List Outline → ReportLine → List EventLine → Bool
in_next s line [] = in_totals s line 0
in_next s line (event ∷ later) = in_event s line event

-- at each place but behind a piece of work
abbrev pub in_due : List Outline → List EventLine → ReportLine → Due → Bool
in_due s left line Next = in_next s line left
in_due s left line (DataOf e) = is_data line
in_due s left line (SenseOf e) = is_sense line
in_due s left line (Behind more did) = false
in_due s left line (OverOf wanted) = is_over wanted line
in_due s left line (Losses d) = is_loss_above d s line || is_order orders.FailCache line
in_due s left line ResetOf = in_reset line (first_event left)
in_due s left line (Powers k) = in_power line (drop k s)
in_due s left line (Totals k) = in_totals s line k
in_due s left line Frames = is_frame s line || is_finish line
in_due s left line Nothing = false

-- no more devices have had their totals, or what a loss of power did to them, than there are
abbrev pub IsDueOf : ℕ → Due → Type 0
IsDueOf devices (Powers k) = k ≤ devices
IsDueOf devices (Totals k) = k ≤ devices
IsDueOf devices due = ⊤

-- a track of the device becomes loose or firm, unless the work's acts are at their end
abbrev pub is_act_of : Bool → ℕ → ReportLine → Bool
is_act_of true d (lines.Loose device (loose.Harden track)) = device == d
is_act_of true d (lines.Loose device (loose.Loosen track)) = device == d
is_act_of more d _ = false

-- a line that is still of the piece of work
abbrev pub is_of_work : Bool → Option ℕ → ReportLine → Bool
is_of_work more worker line = is_io line || holds worker (λ d. is_act_of more d line)
