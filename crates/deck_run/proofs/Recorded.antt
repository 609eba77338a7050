-- The lines of an event of a run, by what it did; and what was recorded of it.
use Rattle.std.proofs.Common.{◌≡◌, ◌∙◌, ◌++◌, ℕ, List, [], ◌∷◌, Option, Some, None, refl, sym, ap}
use Rattle.std.proofs.lemmas.List.{append-nil}
use Rattle.plain_defs.specs.declared.journal.Item.{Item}
use Rattle.device_outside.specs.declared.volume.Volume.{Ghosts}
use Rattle.device_core.specs.declared.device.Device.{Device}
use Rattle.device_core.specs.State.{last_end}
use Rattle.report_text.specs.declared.event.Loosed.{Loosed}
use Rattle.report_text.specs.declared.answers.OrderAnswer.{OrderAnswer}
use Rattle.report_text.specs.declared.answers.StartAnswer.{StartAnswer}
use Rattle.report_text.specs.declared.event.Happened as report
use Rattle.report_text.specs.declared.event.Happened.TheVariants as did
use Rattle.report_text.specs.declared.line.ReportLine.TheVariants as lines
use Rattle.report_text.specs.declared.line.ReportLine.{ReportLine}
use Rattle.report_text.specs.declared.order.Order.{Order}
use Rattle.run_report.specs.declared.told.RunningProgram.{RunningProgram}
use Rattle.run_report.specs.Answers.{order_answer, start_answer}
use Rattle.run_report.specs.Events.{lines_of, running_in, work_lines, work_told}
use Rattle.run_report.specs.Events.{told as told_as}
use Rattle.run_report.specs.OneDevice.{lines_by}
use Rattle.subsystem_core.specs.declared.subsystem.Subsystem.{Subsystem}
use Rattle.subsystem_core.specs.Devices.{device_at}
use Rattle.subsystem_core.specs.Ends.{end_seen}
use Rattle.subsystem_defs.specs.declared.end.EventEnd.{EventEnd}
use Rattle.subsystem_defs.specs.declared.event.Event.{Event}
use Rattle.subsystem_defs.specs.declared.event.Event.TheVariants as events
use Rattle.subsystem_defs.specs.Beside.{behind_first}
use Rattle.subsystem_defs.specs.Deeds.{Ends, Becomes, Asks, Each, Repairs, Lends}
use Rattle.subsystem_defs.specs.Happening as H
use Rattle.subsystem_defs.specs.Happening.{MarksDeed, Talk, asks, happens, happens_by}
use Rattle.subsystem_defs.specs.Lines as L
use Rattle.subsystem_defs.specs.Lines.{Asked, Logged, Once, line_logged, logged}
use Rattle.subsystem_defs.specs.Subsystem as runs
use Rattle.subsystem_defs.specs.Subsystem.{Mounted, devices_of, mounted_in}
use Rattle.deck_run.specs.declared.pass.Passed.{Passed}
use Rattle.deck_run.specs.Going.{GoesOn, IsRecorded}
use Rattle.deck_run.specs.Passing.{HasPassed, lines_passed}
use Rattle.deck_run.specs.Recording.{all_lines, lines_when}
use Rattle.deck_run.specs.Seen.{start_end}
use Rattle.deck_run.specs.Sweeping.{order_end}
use Rattle.deck_run.proofs.Seen.{order_is, sees_at, start_is}

asks_before : (s : runs.Subsystem) (n : ℕ) (o : Option Mounted) (talk : Talk (Option EventEnd)) → (asks s n o talk).before ≡ s
asks_before s n (Some m) talk = refl
asks_before s n None talk = refl

before_by : (s : runs.Subsystem) (d : MarksDeed) → (happens_by s d).before ≡ s
before_by s (Ends end) = refl
before_by s (Becomes d end) = refl
before_by s (Asks d talk) = asks_before s d.store.device (mounted_in s.mounted d.store.device) talk
before_by s (Each pool f) = refl
before_by s (Repairs pool) = refl
before_by s (Lends a b) = refl

pub before_is : (s : runs.Subsystem) (e : Event) → (happens s e).before ≡ s
unfolding H.happens
before_is s e = before_by s _

-- with the subsystem before it as the run has it
work_lines_by : (s : runs.Subsystem) (e : Event) (h : runs.Subsystem → report.Happened) →
    work_lines (h (happens s e).before) (happens s e).reads (happens s e).writes (devices_of (happens s e).before) (devices_of (happens s e).behind)
    ≡ lines_when s e (h s)
work_lines_by s e h =
    ap (λ (z : runs.Subsystem). work_lines (h z) (happens s e).reads (happens s e).writes (devices_of z) (devices_of (happens s e).behind)) (before_is s e)

-- a loss of power alone is told device by device
abbrev pub IsNoPower : Asked → Type 0
IsNoPower (Once events.Power) = ⊥
IsNoPower asked = Unit {0}

pub asked_lines : (s : runs.Subsystem) (e : Event) (asked : Asked) → IsNoPower asked →
    lines_of (logged asked (happens s e)) ≡ lines_when s e (told_as (devices_of s) (happens s e).end asked)
asked_lines s e (Once events.Power) calm = absurd calm
asked_lines s e asked calm = work_lines_by s e (λ (z : runs.Subsystem). told_as (devices_of z) (happens s e).end asked)

-- one event alone
event_tells : (s : runs.Subsystem) (e : Event) → IsNoPower (Once e) → (told more : List ReportLine) →
    more ≡ told ++ lines_when s e (told_as (devices_of s) (happens s e).end (Once e)) → more ≡ told ++ all_lines (logged (Once e) (happens s e) ∷ [])
event_tells s e calm told more is = is ∙ ap (λ (l : List ReportLine). told ++ l) (sym (append-nil _ ∙ asked_lines s e (Once e) calm))

pub event_goes : {V : Type 0} {G : Ghosts V} (s z : Subsystem V G) (told more : List ReportLine) (e : Event) → IsNoPower (Once e) →
    IsRecorded s z told more e (λ (run : runs.Subsystem). told_as (devices_of run) (happens run e).end (Once e)) →
    GoesOn s z told more (λ (run : runs.Subsystem). line_logged run (Once e))
unfolding L.line_logged
event_goes s z told more e calm done = record {
  stands = done.stands;
  lines = λ run all. event_tells run e calm told more (done.lines run all);
}

-- by its lines
pub one_tells : (x : Logged) (told more : List ReportLine) → more ≡ told ++ lines_of x → more ≡ told ++ all_lines (x ∷ [])
one_tells x told more is = is ∙ ap (λ (l : List ReportLine). told ++ l) (sym (append-nil (lines_of x)))

-- What was recorded

module _ {V : Type 0} {G : Ghosts V} (s : Subsystem V G) (run : runs.Subsystem) (e : Event) (d : ℕ) (p : Passed) (has : HasPassed s run e d p)
    (y : Device V G) (at : device_at s.devices.items d ≡ Some y) (items : List Item) (came : items ≡ behind_first p.items y.past.items.items)
    (acts : List Loosed) (noted : acts ≡ p.acts.items) (told more : List ReportLine) where
  recorded : (h : report.Happened) → more ≡ told ++ lines_by d h acts p.calls.reads p.calls.writes items → more ≡ told ++ lines_when run e h
  recorded h is =
      is ∙ ap (λ (l : List Item). told ++ lines_by d h acts p.calls.reads p.calls.writes l) came
      ∙ ap (λ (l : List Loosed). told ++ lines_by d h l p.calls.reads p.calls.writes (behind_first p.items y.past.items.items)) noted
      ∙ ap (λ (l : List ReportLine). told ++ l) (sym (has.lines y at h))

  -- room was made before it
  roomy : (h : report.Happened) (room : List ReportLine) → room ≡ told → more ≡ room ++ lines_by d h acts p.calls.reads p.calls.writes items →
      more ≡ told ++ lines_by d h acts p.calls.reads p.calls.writes items
  roomy h room same is = is ∙ ap (λ (l : List ReportLine). l ++ lines_by d h acts p.calls.reads p.calls.writes items) same

  seen : end_seen (last_end y) p.end ≡ Some (happens run e).end
  seen = sees_at s d p.end (happens run e).end y at has.ended

  pub start_recorded : (path : ℕ) (a : StartAnswer) (room : List ReportLine) → room ≡ told → a ≡ start_answer (start_end p.end) →
      more ≡ room ++ lines_by d (did.First (lines.Start path d a)) acts p.calls.reads p.calls.writes items →
      more ≡ told ++ lines_when run e (did.First (lines.Start path d (start_answer (happens run e).end)))
  start_recorded path a room same answered is =
      recorded (did.First (lines.Start path d a)) (roomy (did.First (lines.Start path d a)) room same is)
      ∙ ap (λ (x : StartAnswer). told ++ lines_when run e (did.First (lines.Start path d x))) (answered ∙ start_is (last_end y) (happens run e).end p.end seen)

  pub order_recorded : (order : Order) (a : OrderAnswer) (room : List ReportLine) → room ≡ told → a ≡ order_answer (order_end p.end) →
      more ≡ room ++ lines_by d (did.Ordered order a) acts p.calls.reads p.calls.writes items →
      more ≡ told ++ lines_when run e (did.Ordered order (order_answer (happens run e).end))
  order_recorded order a room same answered is =
      recorded (did.Ordered order a) (roomy (did.Ordered order a) room same is)
      ∙ ap (λ (x : OrderAnswer). told ++ lines_when run e (did.Ordered order x)) (answered ∙ order_is (last_end y) (happens run e).end p.end seen)

  pub reset_recorded : (path : ℕ) (room : List ReportLine) → room ≡ told →
      more ≡ room ++ lines_by d (did.Reset path d) acts p.calls.reads p.calls.writes items → more ≡ told ++ lines_when run e (did.Reset path d)
  reset_recorded path room same is = recorded (did.Reset path d) (roomy (did.Reset path d) room same is)

-- A piece of work: its lines are those that passed
module _ {V : Type 0} {G : Ghosts V} (s : Subsystem V G) (run : runs.Subsystem) (e : Event) (d : ℕ) (p : Passed) (has : HasPassed s run e d p)
    (y : Device V G) (at : device_at s.devices.items d ≡ Some y) (told more room : List ReportLine) (same : room ≡ told) where
  pub work_recorded : (idle : report.Happened) →
      ((end : EventEnd) → end_seen (last_end y) p.end ≡ Some end → more ≡ room ++ lines_passed d y p (work_told d p.running idle end)) →
      more ≡ told ++ lines_when run e (work_told d (running_in (devices_of run) d) idle (happens run e).end)
  work_recorded idle tells =
      let end = (happens run e).end in
      tells end (sees_at s d p.end end y at has.ended)
      ∙ ap (λ (l : List ReportLine). l ++ lines_passed d y p (work_told d p.running idle end)) same
      ∙ ap (λ (l : List ReportLine). told ++ l) (sym (has.lines y at (work_told d p.running idle end)))
      ∙ ap (λ (x : Option RunningProgram). told ++ lines_when run e (work_told d x idle end)) (sym has.running)
