-- What a line is to a device: what the device that an audit keeps answers and becomes, and what the history makes of it.
use Rattle.std.specs.Prelude.{◌≡◌, ◌≤◌, ◌<◌, ℕ, ◌+◌, Bool, true, false, Option, Some, None, if◌then◌else◌}
use Rattle.deck_plan.specs.declared.event.EventLine.{EventLine}
use Rattle.deck_plan.specs.declared.event.EventLine.TheVariants as events
use Rattle.deck_plan.specs.Plans.{PlansByPath}
use Rattle.plain_defs.specs.declared.journal.Act.TheVariants.{Harden}
use Rattle.plain_defs.specs.History.{reset_in_history}
use Rattle.report_text.specs.declared.line.ReportLine.{ReportLine}
use Rattle.deck_audit.specs.declared.kept.Kept.{Kept}
use Rattle.deck_audit.specs.declared.kept.Then.{Then}
use Rattle.deck_audit.specs.declared.kept.Then.TheVariants.{Passed, Wait}
use Rattle.deck_audit.specs.declared.state.Did.{Did}
use Rattle.deck_audit.specs.declared.state.Did.TheVariants.{Halved, Worked}
use Rattle.deck_audit.specs.declared.state.Due.TheVariants.{Next, OverOf, Powers, ResetOf}
use Rattle.deck_audit.specs.declared.task.Task.{Task}
use Rattle.deck_audit.specs.declared.task.Task.TheVariants as tasks
use Rattle.deck_audit.specs.Device.{AuditedDevice, own_runs}
use Rattle.deck_audit.specs.History as history
use Rattle.deck_audit.specs.History.{changed, shown}
use Rattle.deck_audit.specs.Judging.{sense_due}
use Rattle.deck_audit.specs.Keeping.{DidSo, EndsSo, IsQuiet}
use Rattle.deck_audit.specs.Kept.{act_kept, act_made, act_then, cut_kept_by, cut_then_by, harden_then, is_idle, loss_kept, loss_then, power_kept}
use Rattle.deck_audit.specs.Kept.{power_then, settled_kept, settled_over, start_kept, start_then, tells_loss, then_if, wait_if, work_kept, work_then}
use Rattle.deck_audit.specs.Replay as replay
use Rattle.deck_audit.specs.Same.{says}
use Rattle.deck_audit.specs.State as state
use Rattle.deck_audit.specs.State.{AuditState, behind_work, passed, then_of}
use Rattle.deck_audit.specs.Place.{first_event}

-- an event is over with a piece of work
abbrev pub is_over_with : Option EventLine → Bool → Did → Bool
is_over_with (Some (events.Run d)) idle did = idle
is_over_with (Some (events.Settle d)) idle (Worked last) = last
is_over_with (Some (events.Settle d)) idle did = false
is_over_with _ idle did = true

abbrev pub next_then : Option EventLine → Kept → Did → Then
next_then event k did = if is_over_with event (is_idle k.device) did then Passed else Wait Next

abbrev pub settle_then_by : Option EventLine → Kept → Did → Option ReportLine → Then
settle_then_by event k did (Some line) = Wait (OverOf line)
settle_then_by event k did None = next_then event (settled_kept k did) did

abbrev pub settle_then : Option EventLine → Kept → Did → Then
settle_then event k did = settle_then_by event k did (settled_over k did)

-- the device is the one of place i
abbrev pub task_then : PlansByPath → Kept → ℕ → ReportLine → Task → Option Then
task_then plans k i line (tasks.Start path) = start_then plans k path line
task_then plans k i line tasks.Work = work_then plans k line
task_then plans k i line (tasks.Sense e) = wait_if (sense_due plans k.device line e)
task_then plans k i line (tasks.Act did) = act_then k line did
task_then plans k i line (tasks.Settle event did) = Some (settle_then event k did)
task_then plans k i line (tasks.Over event wanted) = then_if (says wanted line) (next_then event k Halved)
task_then plans k i line (tasks.Cut n) = cut_then_by k n ResetOf k.device.running
task_then plans k i line (tasks.Reset path) = Some Passed
task_then plans k i line (tasks.Harden t) = harden_then k t Next
task_then plans k i line tasks.Loss = loss_then k line
task_then plans k i line (tasks.Lend of) = Some Passed
task_then plans k i line (tasks.PowerCut n) = power_then k n (Powers i)
task_then plans k i line tasks.PowerLoss = then_if (tells_loss k.device line) (Wait (Powers (i + 1)))

-- where the line is judged well
abbrev pub task_kept : PlansByPath → Kept → ReportLine → Task → Kept
task_kept plans k line (tasks.Start path) = start_kept plans k path
task_kept plans k line tasks.Work = work_kept k line
task_kept plans k line (tasks.Sense e) = k
task_kept plans k line (tasks.Act did) = act_made k line
task_kept plans k line (tasks.Settle event did) = settled_kept k did
task_kept plans k line (tasks.Over event wanted) = k
task_kept plans k line (tasks.Cut n) = cut_kept_by k n k.device.running
task_kept plans k line (tasks.Reset path) = record k { device = replay.reset k.device path }
task_kept plans k line (tasks.Harden t) = act_kept k (Harden t)
task_kept plans k line tasks.Loss = loss_kept k
task_kept plans k line (tasks.Lend of) = record k { device = replay.lent_to k.device of }
task_kept plans k line (tasks.PowerCut n) = power_kept k n
task_kept plans k line tasks.PowerLoss = k

-- What the history makes of it

abbrev pub task_made : AuditState → ReportLine → Task → AuditedDevice → Option AuditState
task_made s line (tasks.Start path) a = history.start_made s line path a
task_made s line tasks.Work a = history.work_made s line a
task_made s line (tasks.Sense e) a = history.sense_made s line e a
task_made s line (tasks.Act did) a = history.act_of_work s line did a
task_made s line (tasks.Settle event did) a = Some (state.settled_by s a did (state.over_by a did a.history.running))
task_made s line (tasks.Over event wanted) a = shown wanted line (behind_work s a Halved)
task_made s line (tasks.Cut n) a = then_of a.history.running (λ o. history.cut_by s a o n)
task_made s line (tasks.Reset path) a = Some (passed (changed s (record a { history = reset_in_history a.history path 0 })))
task_made s line (tasks.Harden t) a = history.harden_made s a t Next
task_made s line tasks.Loss a = history.loss_made s line a
task_made s line (tasks.Lend of) a = history.lent_to s of a
task_made s line (tasks.PowerCut n) a = then_of a.history.running (history.power_cut s a n)
task_made s line tasks.PowerLoss a = history.power_loss s line a

-- What the device must be like for it

abbrev pub IsPath : ℕ → Type 0
IsPath path = (1 ≤ path) × (path ≤ 4)

-- the ranges of what the line tells
abbrev pub IsInRange : Task → Type 0
IsInRange (tasks.Start path) = IsPath path
IsInRange (tasks.Reset path) = IsPath path
IsInRange (tasks.Cut n) = n < 65536
IsInRange (tasks.PowerCut n) = n < 65536
IsInRange task = Unit {0}

abbrev pub IsReady : AuditState → Kept → AuditedDevice → Task → Type 0
IsReady s k a (tasks.Sense e) = EndsSo e k a
IsReady s k a (tasks.Act did) = DidSo did k a
IsReady s k a (tasks.Settle event did) = DidSo did k a × (event ≡ first_event s.events)
IsReady s k a (tasks.Over event wanted) = IsQuiet k × (event ≡ first_event s.events)
IsReady s k a (tasks.Reset path) = IsQuiet k × (own_runs a.history.running path ≡ false)
IsReady s k a task = IsQuiet k
