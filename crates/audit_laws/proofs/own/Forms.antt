-- Each line of a run's report has its form: an IO line tells of a call, and an order POWER is done.
use Rattle.std.proofs.Common.{get_or, arith, ◌≡◌, ◌++◌, ℕ, true, List, [], ◌∷◌, map, Option, refl}
use Rattle.std.specs.Prelude.{All}
use Rattle.std.specs.List.{flat_map}
use Rattle.std.proofs.lemmas.List.Elements.{All-append, All-map}
use Rattle.ckd_types.specs.declared.channel.CommandEnd.{CommandEnd}
use Rattle.deck_text.specs.DeckLines.{DeckLines}
use Rattle.device_defs.specs.Marks.{MarksDevice}
use Rattle.report_text.specs.declared.event.Happened as report
use Rattle.report_text.specs.declared.event.ProgramOver.{ProgramOver}
use Rattle.report_text.specs.declared.line.ReportLine.{ReportLine}
use Rattle.report_text.specs.declared.line.ReportLine.TheVariants as lines
use Rattle.report_text.specs.declared.order.Order.TheVariants as orders
use Rattle.report_text.specs.Events.{ended_lines, io_lines, loosed_line, program_over_lines}
use Rattle.report_reading.specs.Ranges.{has_answer, has_form}
use Rattle.run_report.specs.Answers.{order_answer}
use Rattle.run_report.specs.Beside.{loose_lines, loosed, over_lines, over_of}
use Rattle.run_report.specs.Closing.{device_lines, ending_lines, frame_line}
use Rattle.run_report.specs.declared.told.RunningProgram.{RunningProgram}
use Rattle.run_report.specs.Events.{lines_of, told, work_told}
use Rattle.run_report.specs.Report.{report_lines}
use Rattle.subsystem_defs.specs.declared.end.EventEnd.{EventEnd}
use Rattle.subsystem_defs.specs.declared.event.Event.{Event}
use Rattle.subsystem_defs.specs.declared.event.Event.TheVariants as events
use Rattle.subsystem_defs.specs.Beside.{loose_told, new_items}
use Rattle.subsystem_defs.specs.Closing.{DeviceEnd, RunEnding, ending}
use Rattle.subsystem_defs.specs.Decks as D
use Rattle.subsystem_defs.specs.Decks.{opened, run_of}
use Rattle.subsystem_defs.specs.Deeds as E
use Rattle.subsystem_defs.specs.Happening as H
use Rattle.subsystem_defs.specs.Happening.{EventHappened, happens, quietly, replaced, unpaired}
use Rattle.subsystem_defs.specs.Lines.{Asked, Logged, Once, asked_by, run_lines}
use Rattle.subsystem_defs.specs.Subsystem.{Subsystem, devices_of}
use Rattle.subsystem_laws.proofs.RunLines.{AnyEvent, Goes, run_shows}
use Rattle.audit_laws.proofs.own.EachLine.{Tells, all_flat, event_all, one}

abbrev pub Formed : ReportLine → Type 0
Formed line = has_form line ≡ true

-- What an event did

ended_formed : (path d n : ℕ) (e : CommandEnd) → All Formed (ended_lines path d n e)
ended_formed path d n e = grind (arith, one Formed)

work_well : (d : ℕ) (r : Option RunningProgram) (idle : report.Happened) → Tells Formed idle → (end : EventEnd) → Tells Formed (work_told d r idle end)
work_well d r idle well end = grind (arith, ended_formed)

-- a loss of power is done
abbrev PowerDone : Asked → EventEnd → Type 0
PowerDone (Once events.Power) end = has_answer orders.Power (order_answer end) ≡ true
PowerDone asked end = Unit {0}

told_well : (xs : List MarksDevice) (end : EventEnd) (asked : Asked) → PowerDone asked end → Tells Formed (told xs end asked)
told_well xs end asked done = grind (arith, work_well)

-- Beside it

loose_formed : (x y : MarksDevice) → All Formed (loose_lines x y)
loose_formed x y = All-map Formed loosed_line (map (loosed x.store.device) (loose_told x y)) (λ k d lt. refl)

program_formed : (o : Option ProgramOver) → All Formed (program_over_lines o)
program_formed o = grind (arith, one Formed)

over_formed : (x y : MarksDevice) → All Formed (over_lines x y)
over_formed x y = program_formed (over_of x.store.device (new_items x.history y.history))

io_formed : (reads writes : ℕ) → All Formed (io_lines reads writes)
io_formed reads writes = grind (arith, one Formed)

-- All events

abbrev EndsWell : Logged → Type 0
EndsWell t = PowerDone t.asked t.happened.end

event_formed : (t : Logged) → EndsWell t → All Formed (lines_of t)
event_formed t done =
    let h = t.happened in
    let xs = devices_of h.before in
    event_all Formed (λ d. Unit {0}) (λ x y _ _. loose_formed x y) (λ x y _ _. over_formed x y) xs (devices_of h.behind) (λ k d lt. tt) (λ k d lt. tt)
    h.reads h.writes (io_formed h.reads h.writes) h.end t.asked (told_well xs h.end t.asked done)

abbrev So : Subsystem → Type 0
So s = Unit {0}

once_well : (s : Subsystem) (e : Event) → PowerDone (Once e) (happens s e).end
unfolding H.happens E.deed
once_well s events.Power = refl
once_well s e = tt

forms_go : Goes So (λ s. EndsWell) AnyEvent
forms_go = search (arith, once_well)

-- The end

lost_formed : (d : ℕ) (lost : List ℕ) → All Formed (map (lines.Lost d) lost)
lost_formed d lost = All-map Formed (lines.Lost d) lost (λ k x lt. refl)

device_formed : (e : DeviceEnd) → All Formed (device_lines e)
device_formed e = grind (arith, lost_formed, one Formed)

ending_formed : (e : RunEnding) → All Formed (ending_lines e)
ending_formed e =
    All-append Formed (flat_map device_lines e.devices) (map frame_line e.frames ++ lines.Finish ∷ [])
    (all_flat Formed device_lines e.devices (λ k d lt. device_formed (get_or e.devices k d)))
    (All-append Formed (map frame_line e.frames) (lines.Finish ∷ []) (All-map Formed frame_line e.frames (λ k d lt. refl)) (one Formed lines.Finish refl))

pub report_has_form : (deck : DeckLines) → All (λ (line : ReportLine). has_form line ≡ true) (report_lines (run_of deck))
unfolding D.run_asked_on
report_has_form deck =
    let ts = run_lines (map asked_by deck.events) (opened deck) in
    let r = run_of deck in
    let well = run_shows So EndsWell forms_go (map asked_by deck.events) (opened deck) tt in
    All-append Formed (flat_map lines_of ts) (ending_lines (ending r.behind)) (all_flat Formed lines_of ts (λ k d lt. event_formed (get_or ts k d) (well k d lt)))
    (ending_formed (ending r.behind))
