-- Where the lines of each event line lead an audit on, those of the whole run do.
use Rattle.std.proofs.Common.{◌≡◌, ◌++◌, ℕ, List, [], ◌∷◌, Option, None, map, length, arith, refl, sym, ap, subst, append_assoc}
use Rattle.std.specs.List.{flat_map}
use Rattle.std.specs.Prelude.{Ok}
use Rattle.ckd_types.specs.declared.paths.Side.{Side}
use Rattle.deck_plan.specs.declared.event.EventLine.{EventLine}
use Rattle.deck_plan.specs.declared.event.EventLine.TheVariants as events
use Rattle.deck_text.specs.declared.line.DeviceLine.{DeviceLine}
use Rattle.deck_text.specs.DeckLines.{DeckLines}
use Rattle.deck_text.specs.Parse.{parsed}
use Rattle.report_text.specs.declared.line.ReportLine.{ReportLine}
use Rattle.deck_audit.specs.declared.state.Due.TheVariants.{Nothing}
use Rattle.deck_audit.specs.Device.{AuditedDevice, new_device}
use Rattle.deck_audit.specs.State.{AuditState, first_state}
use Rattle.run_report.specs.Closing.{ending_lines}
use Rattle.run_report.specs.Events.{lines_of}
use Rattle.run_report.specs.Report.{report_lines}
use Rattle.subsystem_defs.specs.Closing.{ending}
use Rattle.subsystem_defs.specs.Decks as D
use Rattle.subsystem_defs.specs.Decks.{opened, opened_device, run_of}
use Rattle.subsystem_defs.specs.Lines as L
use Rattle.subsystem_defs.specs.Lines.{Logged, asked_by, last_behind, line_logged, run_lines}
use Rattle.subsystem_defs.specs.Subsystem.{Mounted, Subsystem}
use Rattle.deck_audit.specs.Place.{worker_of}
use Rattle.subsystem_laws.proofs.PlainRuns.{ArePlain}
use Rattle.audit_laws.specs.Runs.{LineDoes, LineGoes, WholeLeads, behind_lines, line_behind}
use Rattle.audit_laws.specs.Standing.{FramesAreDeclared, HasDevice, LeadsBy, LineLeads, audited, stand}
use Rattle.audit_laws.specs.Steps.{Reaches, is_there}
use Rattle.audit_laws.proofs.own.BackEnds.{settle_over}
use Rattle.audit_laws.proofs.own.Endings.{ending_leads}
use Rattle.audit_laws.proofs.own.AlikeDevices.{alike_self}
use Rattle.audit_laws.proofs.own.AlikeLines.{AlikeStates, AreAlike, leads_alike, second_self, states_then}
use Rattle.audit_laws.proofs.own.FailedVolumes.{failure_leads}
use Rattle.audit_laws.proofs.own.NextLines.{IsCalm, exactly_from, to_the_end, towards_other}
use Rattle.audit_laws.proofs.own.Leading.{leads_on}
use Rattle.audit_laws.proofs.own.Behind.{AllSo, IsBehind, deck_all_so}
use Rattle.audit_laws.proofs.own.DeckEvents.{OfNamed}
use Rattle.audit_laws.proofs.own.FramesOwned.{frames_are_declared}
use Rattle.audit_laws.proofs.own.OrderedLines.{ordered_leads}
use Rattle.audit_laws.proofs.own.RunEnds.{run_is_over}
use Rattle.audit_laws.proofs.own.StillLines.{still_leads}
use Rattle.audit_laws.proofs.own.WorkLines.{back_goes_on, run_goes_on, settle_goes_on, step_goes_on}

-- Lines and the subsystem behind events, one after another

lines_both : (ts us : List Logged) → flat_map lines_of (ts ++ us) ≡ flat_map lines_of ts ++ flat_map lines_of us
lines_both [] us = refl
lines_both (t ∷ ts) us = grind (arith, lines_both ts us, append_assoc)

behind_both : (s : Subsystem) (ts us : List Logged) → last_behind s (ts ++ us) ≡ last_behind (last_behind s ts) us
behind_both s [] us = refl
behind_both s (t ∷ ts) us = behind_both t.happened.behind ts us

-- The lines of one event line

not_longer : (e : EventLine) (later : List EventLine) → e ∷ later ≡ later → ⊥
not_longer e later is = let more : length (e ∷ later) ≡ length later = ap length is in omega (arith, more)

-- the audit stands beside the run before these events: its devices are alike those of a state that is where the run stands, or waits for the next
-- line behind a piece of work of this device
record IsBeside (n : Option ℕ) (s : Subsystem) (later : List EventLine) (u : AuditState) : Type 0 where
  other : AuditState
  alike : AlikeStates u other
  reaches : Reaches n other (stand s later)

record Onward (n : Option ℕ) (z : Subsystem) (later : List EventLine) (u : AuditState) (ls : List ReportLine) : Type 0 where
  to : AuditState
  leads : LeadsBy u ls to
  beside : IsBeside n z later to

-- lines of an event line of which the run's devices are plain
abbrev DoesPlainly : Subsystem → EventLine → Type 0
DoesPlainly s e = LineDoes s e × ArePlain s.mounted

module _ (before : Option ℕ) (s : Subsystem) (later : List EventLine) (u : AuditState) where
  abbrev lines_at : EventLine → List ReportLine
  lines_at e = flat_map lines_of (line_logged s (asked_by e))

  -- to where the run stands
  exactly : (e : EventLine) → IsCalm e → IsBeside before s (e ∷ later) u → LineLeads s e → (n : Option ℕ) →
      Onward n (line_behind s e) later u (lines_at e)
  exactly e calm b leads n =
      let z = line_behind s e in
      let t = stand z later in
      let to = leads_alike (lines_at e) u b.other t b.alike
      (exactly_from s (e ∷ later) before calm b.other b.reaches z later (not_longer e later) (lines_at e) (leads later)) in
      record { to = to.0; leads = to.1; beside = record { other = t; alike = to.2; reaches = is_there refl } }

  -- or to where it waits
  towards : (e : EventLine) → IsCalm e → IsBeside before s (e ∷ later) u → LineGoes s e →
      Onward (worker_of e) (line_behind s e) later u (lines_at e)
  towards e calm b goes =
      let more = towards_other s (e ∷ later) before calm b.other b.reaches (line_behind s e) later (not_longer e later) (lines_at e) (worker_of e) (goes later) in
      let to = leads_alike (lines_at e) u b.other more.0 b.alike more.1 in
      record { to = to.0; leads = to.1; beside = record { other = more.0; alike = to.2; reaches = more.2 } }

  -- or to where it is alike that
  fails : (d : ℕ) (side : Side) → IsBeside before s (events.FailVolume d side ∷ later) u → DoesPlainly s (events.FailVolume d side) →
      Onward None (line_behind s (events.FailVolume d side)) later u (lines_at (events.FailVolume d side))
  fails d side b does =
      let e = events.FailVolume d side in
      let t = stand (line_behind s e) later in
      let more = failure_leads s does.1 d side later (λ same. not_longer e later (sym same)) does.0 before b.other
      (second_self u.devices b.other.devices b.alike.devices_are) b.reaches in
      let to = leads_alike (lines_at e) u b.other more.0 b.alike more.1 in
      record { to = to.0; leads = to.1; beside = record { other = t; alike = states_then to.0 more.0 t to.2 more.2; reaches = is_there refl } }

one_line : (before : Option ℕ) (s : Subsystem) (later : List EventLine) (u : AuditState) (e : EventLine) → IsBeside before s (e ∷ later) u →
    DoesPlainly s e → Onward (worker_of e) (line_behind s e) later u (flat_map lines_of (line_logged s (asked_by e)))
one_line before s later u (events.Step d) near does = towards before s later u (events.Step d) tt near does.0
one_line before s later u (events.Run d) near does = towards before s later u (events.Run d) tt near does.0
one_line before s later u (events.Back d) near does = towards before s later u (events.Back d) tt near does.0
one_line before s later u (events.Settle d) near does = towards before s later u (events.Settle d) tt near does.0
one_line before s later u (events.FailVolume d side) near does = fails before s later u d side near does
one_line before s later u e near does = exactly before s later u e tt near does.0 None

-- The lines of all of them

record ReachesEnd (u : AuditState) (ls : List ReportLine) (z : Subsystem) : Type 0 where
  to : AuditState
  leads : LeadsBy u ls to
  worker : Option ℕ
  beside : IsBeside worker z [] to

lines_towards : (events : List EventLine) (before : Option ℕ) (s : Subsystem) (u : AuditState) → AllSo DoesPlainly s events → IsBeside before s events u →
    ReachesEnd u (flat_map lines_of (run_lines (map asked_by events) s)) (behind_lines s events)
unfolding L.run_lines
lines_towards [] before s u does b = record { to = u; leads = refl; worker = before; beside = b }
lines_towards (e ∷ later) before s u does b =
    let ts = line_logged s (asked_by e) in
    let z = line_behind s e in
    let us = run_lines (map asked_by later) z in
    let first = one_line before s later u e b does.0 in
    let rest = lines_towards later (worker_of e) z first.to does.1 first.beside in
    rw (lines_both ts us) (rw (behind_both s ts us) (search (arith, leads_on)))

-- and those at the end
lines_end : (events : List EventLine) (s : Subsystem) → AreAlike (stand s events).devices (stand s events).devices → AllSo DoesPlainly s events →
    FramesAreDeclared (behind_lines s events) →
    WholeLeads (stand s events) (flat_map lines_of (run_lines (map asked_by events) s) ++ ending_lines (ending (behind_lines s events)))
lines_end events s selves does framed =
    let z = behind_lines s events in
    let u = stand s events in
    let t : AuditState = record (stand z []) { due = Nothing } in
    let told = flat_map lines_of (run_lines (map asked_by events) s) in
    let first = lines_towards events None s u does
    (record { other = u; alike = record { events_are = refl; due_is = refl; devices_are = selves }; reaches = is_there refl }) in
    let last = ending_lines (ending z) in
    let rest = leads_alike last first.to first.beside.other t first.beside.alike
    (to_the_end z [] first.worker tt first.beside.other first.beside.reaches last t refl (ending_leads z framed)) in
    (rest.0, leads_on u first.to rest.0 told last first.leads rest.1, rest.2.due_is)

-- A deck

first_devices : (deck : DeckLines) (ds : List DeviceLine) →
    map (new_device deck.programs) ds ≡ map audited (map (λ (m : Mounted). m.device) (map (opened_device deck) ds))
first_devices deck [] = refl
first_devices deck (d ∷ ds) = ap (λ (l : List AuditedDevice). new_device deck.programs d ∷ l) (first_devices deck ds)

pub first_stands : (deck : DeckLines) → first_state deck ≡ stand (opened deck) deck.events
first_stands deck = ap (λ (l : List AuditedDevice). record (first_state deck) { devices = l }) (first_devices deck deck.devices)

-- no program ran yet
new_selves : (deck : DeckLines) (ds : List DeviceLine) → AreAlike (map (new_device deck.programs) ds) (map (new_device deck.programs) ds)
new_selves deck [] = tt
new_selves deck (d ∷ ds) = (alike_self (new_device deck.programs d) tt, new_selves deck ds)

pub run_leads : (deck : DeckLines) → AllSo DoesPlainly (opened deck) deck.events → FramesAreDeclared (run_of deck).behind →
    WholeLeads (first_state deck) (report_lines (run_of deck))
unfolding D.run_asked_on
run_leads deck does framed =
    subst (λ (s : AuditState). WholeLeads s (report_lines (run_of deck))) (sym (first_stands deck))
    (lines_end deck.events (opened deck)
    (subst (λ (s : AuditState). AreAlike s.devices s.devices) (first_stands deck) (new_selves deck deck.devices)) does framed)

-- of a deck that was read

module _ (s : Subsystem) (numbers : List ℕ) (k : IsBehind numbers s) where
  line_does : (e : EventLine) → OfNamed (HasDevice s) e → LineDoes s e
  line_does e has = grind (arith, step_goes_on, run_goes_on, run_is_over, back_goes_on, settle_goes_on, settle_over, ordered_leads, still_leads)

pub report_leads : (text : List ℕ) (deck : DeckLines) → parsed text ≡ Ok deck → WholeLeads (first_state deck) (report_lines (run_of deck))
report_leads text deck read = grind (arith, run_leads, deck_all_so, line_does, frames_are_declared)
