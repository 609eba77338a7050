-- RESET: the OVER line of a program that it cuts, and its own line.
use Rattle.std.proofs.Common.{◌≡◌, ◌+◌, ◌==◌, ◌++◌, ℕ, Bool, true, false, List, [], ◌∷◌, map, length, Option, Some, None, refl, sym, ap, subst, ◌∙◌, if◌then◌else◌, arith, inl, inr}
use Rattle.std.specs.Prelude.{◌⊎◌, IfSome, Ok}
use Rattle.std.proofs.lemmas.Bool.{eqb-true, eq-eqb, ne_eqb, and_from}
use Rattle.deck_plan.specs.declared.event.EventLine.{EventLine}
use Rattle.deck_plan.specs.declared.event.EventLine.TheVariants as wanted
use Rattle.plain_defs.specs.declared.journal.How.TheVariants.{Cut}
use Rattle.plain_defs.specs.declared.journal.Item.{Item}
use Rattle.plain_defs.specs.declared.journal.Item.TheVariants as items
use Rattle.plain_defs.specs.History.{History, OpenEntry, cut_by, entry_of, put, reset_in_history as history_reset, reset_in, resets_of}
use Rattle.plain_defs.specs.Legal.{MayEdit, is_used}
use Rattle.plain_defs.specs.Program.{Part}
use Rattle.ckd_rules.specs.Walk.{TrackEdit}
use Rattle.device_defs.specs.Contents.{by_plain}
use Rattle.device_defs.specs.Cutting.{counts_one_by, reset}
use Rattle.device_defs.specs.Marks.{MarksDevice}
use Rattle.device_defs.specs.Store as store
use Rattle.device_outside.specs.Interaction.{Done}
use Rattle.device_laws.proofs.DeviceCuts.{reset_tells}
use Rattle.device_laws.proofs.Had.{Had, held, had_done, had_then}
use Rattle.device_laws.proofs.PlainCuts.{may}
use Rattle.device_laws.proofs.PlainEvents.{had_always, had_both}
use Rattle.device_laws.proofs.counted.Counting.{counts_done, counts_then, held_moved}
use Rattle.device_laws.proofs.counted.EventCounts.{reset_counts}
use Rattle.report_text.specs.declared.answers.HowOver.TheVariants as how
use Rattle.report_text.specs.declared.event.Happened.TheVariants as did
use Rattle.report_text.specs.declared.line.ReportLine.{ReportLine}
use Rattle.report_text.specs.declared.line.ReportLine.TheVariants as lines
use Rattle.report_text.specs.Events.{program_over_lines}
use Rattle.deck_audit.specs.declared.state.Due.TheVariants.{ResetOf}
use Rattle.deck_audit.specs.Place.{may_reset}
use Rattle.deck_audit.specs.Device.{AuditedDevice, is_edit_legal, is_next_legal, open_program, outline_of, with_device}
use Rattle.deck_audit.specs.History as M
use Rattle.deck_audit.specs.History.{changed, cut_half, reset_made}
use Rattle.deck_audit.specs.State.{AuditState, passed}
use Rattle.deck_audit.specs.Verdict.{judged}
use Rattle.run_report.specs.Beside.{loose_lines, over_lines, over_of}
use Rattle.run_report.specs.Events.{event_lines, work_lines}
use Rattle.run_report.specs.OneDevice.{lines_at}
use Rattle.run_report.proofs.OneDevice.{none_behind, tells_alone}
use Rattle.run_report.proofs.Quiet.{behind_more}
use Rattle.subsystem_defs.specs.declared.end.EventEnd.{EventEnd}
use Rattle.subsystem_defs.specs.declared.end.EventEnd.TheVariants as ends
use Rattle.subsystem_defs.specs.declared.event.Event.TheVariants as events
use Rattle.subsystem_defs.specs.Beside.{acts_in, has_power, new_items}
use Rattle.subsystem_defs.specs.Deeds as E
use Rattle.subsystem_defs.specs.Deeds.{Asks, device_in, ends_by, ends_done, on_device}
use Rattle.subsystem_defs.specs.Happening as H
use Rattle.subsystem_defs.specs.Happening.{EventHappened, asks, happens, happens_by, held_with, mounted_behind, told_to}
use Rattle.subsystem_defs.specs.Lines.{Once}
use Rattle.subsystem_defs.specs.Subsystem.{Mounted, Subsystem, devices_of, mounted_in, with_mounted}
use Rattle.subsystem_laws.proofs.FoundDevices.{number_found}
use Rattle.subsystem_laws.proofs.PlainRuns.{Plainly, ArePlain}
use Rattle.subsystem_laws.proofs.Walks.{device_so}
use Rattle.audit_laws.specs.Standing.{LeadsBy, audited, half_by, stand}
use Rattle.audit_laws.proofs.own.Found.{found_one, mounted_too, outline_one, put_at}
use Rattle.audit_laws.proofs.own.Leading.{EventLeads, first_judged, one_leads, then_some}
use Rattle.audit_laws.proofs.own.Quiet.{cut_acts, cut_items, no_power, none_loose, reset_acts}
use Rattle.audit_laws.proofs.own.ResetDevices.{HasParts, audited_by, reset_half, reset_parts}
use Rattle.audit_laws.proofs.own.Saying.{same_number}

-- What a command may edit, as the audit tests it

pub legal_by : (p : Part) (edit : Option TrackEdit) → MayEdit p.state p.stance edit → is_edit_legal p edit ≡ true
legal_by p edit h = grind arith

-- where the cut of a half write counts one command more, that command may be so
pub next_legal : (x : MarksDevice) (p : Plainly x) (o : OpenEntry) → x.history.running ≡ Some o → counts_one_by x.store.half ≡ 1 →
    is_next_legal (audited x) x.history.running ≡ true
next_legal x p o running one = grind (arith, legal_by, may p.number p.empty x p.follows o running)

few : (h : Option (store.HalfWrite (Unit {0}))) → (counts_one_by h ≡ 0) ⊎ (counts_one_by h ≡ 1)
few h = grind arith

pub few_more : (x : MarksDevice) → Plainly x → (o : OpenEntry) → x.history.running ≡ Some o →
    (counts_one_by x.store.half ≡ 0) ⊎ ((counts_one_by x.store.half ≡ 1) × (is_next_legal (audited x) x.history.running ≡ true))
few_more x p o running = by_count (few x.store.half) where
  by_count : (counts_one_by x.store.half ≡ 0) ⊎ (counts_one_by x.store.half ≡ 1) →
      (counts_one_by x.store.half ≡ 0) ⊎ ((counts_one_by x.store.half ≡ 1) × (is_next_legal (audited x) x.history.running ≡ true))
  by_count (inl none) = inl none
  by_count (inr one) = inr (one, next_legal x p o running one)

-- Of a history alone

module _ (h : History) (path more : ℕ) where
  abbrev waits : History
  waits = if is_used path false h.items then record h { waiting = put path h.waiting } else h

  -- the reset of a path whose program doesn't run comes to the same, whatever it counts
  other_reset : (r : Option OpenEntry) → h.running ≡ r → ((o : OpenEntry) → r ≡ Some o → (o.path == path) ≡ false) →
      history_reset h path more ≡ history_reset h path 0
  other_reset r is other = grind arith

  own_reset : (o : OpenEntry) → h.running ≡ Some o → (o.path == path) ≡ true → history_reset h path more ≡ cut_by h o more
  own_reset o is own = grind arith

-- nothing is told then beside the reset
pub record TellsNoProgram (h k : History) : Type 0 where
  pub items_are : List Item
  pub are : new_items h k ≡ items_are
  pub power : has_power items_are ≡ false
  pub over : (n : ℕ) → over_of n items_are ≡ None
  pub acts : acts_in k ≡ acts_in h

nothing_came : (h : History) → TellsNoProgram h h
nothing_came h = record { items_are = []; are = none_behind h.items; power = refl; over = λ n. refl; acts = refl }

waits_tells : (h : History) (path : ℕ) (b : Bool) → TellsNoProgram h (if b then record h { waiting = put path h.waiting } else h)
waits_tells h path b = search (arith, none_behind, nothing_came)

idle_tells : (h : History) (path : ℕ) (b : Bool) → TellsNoProgram h (if b then record h { items = h.items ++ items.Reset path ∷ [] } else h)
idle_tells h path true = search (arith, behind_more, reset_acts)
idle_tells h path false = nothing_came h

other_tells : (h : History) (path : ℕ) (r : Option OpenEntry) → h.running ≡ r → ((o : OpenEntry) → r ≡ Some o → (o.path == path) ≡ false) →
    TellsNoProgram h (history_reset h path 0)
other_tells h path (Some o) is other = grind (arith, waits_tells h path (is_used path false h.items))
other_tells h path None is other = rw (ap (λ (r : Option OpenEntry). reset_in h path 0 r) is) (idle_tells h path (is_used path false h.items))

-- The event

-- what came of it
pub record IsReset (x y : MarksDevice) (path : ℕ) (end : Option EventEnd) : Type 0 where
  pub parts : HasParts x y (reset_half x path x.history.running)
  pub history : y.history ≡ history_reset x.history path (counts_one_by x.store.half)
  pub done : end ≡ Some ends.Done

reset_had : (x : MarksDevice) (path : ℕ) → Had (ends_by ends_done (reset by_plain x path)) (λ y a. IsReset x y path a)
reset_had x path = had_then (had_both (had_always (reset_parts x path)) (had_always (reset_tells by_plain x path))) (λ y a g. had_done (search arith))

abbrev Leads : Subsystem → ℕ → ℕ → MarksDevice → List EventLine → Type 0
Leads s path n x later =
    (m : Mounted) → m.device ≡ x → mounted_in s.mounted n ≡ Some m → (z : Mounted) (end : Option EventEnd) → IsReset x z.device path end →
    LeadsBy (stand s (wanted.Reset path n ∷ later))
    (work_lines (did.Reset path n) 0 0 (devices_of s) (devices_of (with_mounted s n z))) (stand (with_mounted s n z) later)

module _ (s : Subsystem) (plain : ArePlain s.mounted) (path n : ℕ) (x : MarksDevice) (at : device_in (devices_of s) n ≡ Some x) (later : List EventLine) where
  number_is : x.store.device ≡ n
  number_is = number_found s.mounted n x at

  plainly : Plainly x
  plainly = subst (λ (o : Option MarksDevice). IfSome o Plainly) at (device_so Plainly s.mounted n plain)

  abbrev e : EventLine
  e = wanted.Reset path n

  abbrev from : AuditState
  from = stand s (wanted.Reset path n ∷ later)

  abbrev more : ℕ
  more = counts_one_by x.store.half

  -- a line that stands first, and what it makes
  first_is : (line : ReportLine) (t : AuditState) → may_reset path n (outline_of (audited x)) line (outline_of (audited x)).running ≡ true →
      reset_made (stand s (wanted.Reset path n ∷ later)) line path (audited x) ≡ Some t → judged (stand s (wanted.Reset path n ∷ later)) line ≡ Ok t
  first_is line t fits makes = grind (arith, first_judged, outline_one, then_some, found_one)

  -- The reset of another path, or while nothing runs

  module _ (other : (o : OpenEntry) → x.history.running ≡ Some o → (o.path == path) ≡ false) where
    may_by : (r : Option OpenEntry) → x.history.running ≡ r →
        may_reset path n (outline_of (audited x)) (lines.Reset path n) (open_program r) ≡ true
    may_by r is = grind arith

    half_by_running : (r : Option OpenEntry) → x.history.running ≡ r → reset_half x path r ≡ half_by x.store.half
    half_by_running r is = grind arith

    pub other_leads : Leads s path n x later
    other_leads m it_is there z end g =
        let y = z.device in
        let same : y.history ≡ history_reset x.history path 0 = g.history ∙ other_reset x.history path more x.history.running refl (λ o is. other o is) in
        let told = other_tells x.history path x.history.running refl (λ o is. other o is) in
        let its = ap (λ (h : History). new_items x.history h) same ∙ told.are in
        let half : HasParts x y (half_by x.store.half) = rw (← (half_by_running x.history.running refl)) g.parts in
        rw ((tells_alone s n z).tells (did.Reset path n) 0 0 ∙ ap (λ (o : Option Mounted). lines_at (did.Reset path n) 0 0 o y) there ∙ ap
        (λ (d : MarksDevice). loose_lines d y ++ (over_lines d y ++ lines.Reset path n ∷ [])) it_is ∙ ap (λ (l : List ReportLine). l ++
        (over_lines x y ++ lines.Reset path n ∷ [])) (none_loose x y told.items_are its told.power (ap acts_in same ∙ told.acts)) ∙ ap
        (λ (l : List ReportLine). l ++ lines.Reset path n ∷ []) (ap (λ (l : List Item). program_over_lines (over_of x.store.device l)) its
        ∙ ap program_over_lines (told.over x.store.device))) (one_leads from (stand (with_mounted s n z) later) (lines.Reset path n) (first_is
        (lines.Reset path n) (stand (with_mounted s n z) later) (may_by x.history.running refl) (ap (λ (l : List AuditedDevice). Some
        (record { devices = l; events = later; due = (stand s later).due })) (ap (with_device (map audited (devices_of s))) (sym (audited_by x y
        (half_by x.store.half) (history_reset x.history path 0) half same)) ∙ put_at s.mounted n z (g.parts.number ∙ number_is)))))

  -- The reset of the running program's path

  module _ (o : OpenEntry) (running : x.history.running ≡ Some o) (own : (o.path == path) ≡ true) where
    path_is : o.path ≡ path
    path_is = eqb-true o.path path own

    abbrev over_line : ReportLine
    over_line = lines.Over o.path x.store.device o.ordinal (how.Cut (length o.ends + more))

    -- what the cut makes of the device, where it counts so many commands more
    abbrev cut_to : ℕ → AuditState
    cut_to k =
        record (changed from (record (audited x) { history = history_reset x.history o.path k; half = cut_half (half_by x.store.half) })) { due = ResetOf }

    cut_made : (k : ℕ) → (k ≡ 0) ⊎ ((k ≡ 1) × (is_next_legal (audited x) x.history.running ≡ true)) →
        M.cut_by (stand s (wanted.Reset path n ∷ later)) (audited x) o (length o.ends + k) ≡ Some (cut_to k)
    cut_made k x3 = grind (arith, eq-eqb, ne_eqb, and_from, same_number)

    over_judged : judged (stand s (wanted.Reset path n ∷ later)) over_line ≡ Ok (cut_to more)
    over_judged =
        first_is over_line (cut_to more) (grind (arith, and_from, same_number, eq-eqb x.store.device n number_is))
        (then_some x.history.running o (λ (k : OpenEntry). M.cut_by from (audited x) k (length o.ends + more)) running
        ∙ cut_made more (few_more x plainly o running))

    reset_judged : (t : AuditState) → passed (cut_to more) ≡ t → judged (cut_to more) (lines.Reset path n) ≡ Ok t
    reset_judged t is = grind arith

    pub own_leads : Leads s path n x later
    own_leads m it_is there z end g =
        let y = z.device in
        let cut : y.history ≡ cut_by x.history o more = g.history ∙ own_reset x.history path more o running own in
        let its = ap (λ (h : History). new_items x.history h) cut ∙ cut_items x.history o more in
        let half : HasParts x y (cut_half (half_by x.store.half)) = rw (← (ap (λ (r : Option OpenEntry). reset_half x path r) running ∙ ap
        (λ (b : Bool). if b then cut_half (half_by x.store.half) else half_by x.store.half) own)) g.parts in
        rw ((tells_alone s n z).tells (did.Reset path n) 0 0 ∙ ap (λ (k : Option Mounted). lines_at (did.Reset path n) 0 0 k y) there ∙ ap
        (λ (d : MarksDevice). loose_lines d y ++ (over_lines d y ++ lines.Reset path n ∷ [])) it_is ∙ ap (λ (l : List ReportLine). l ++
        (over_lines x y ++ lines.Reset path n ∷ [])) (none_loose x y (entry_of o (Cut
        (length o.ends + more)) ∷ items.Reset o.path ∷ resets_of x.history.waiting) its (no_power x.history.waiting) (ap acts_in cut
        ∙ cut_acts x.history o more running)) ∙ ap (λ (l : List ReportLine). l ++ lines.Reset path n ∷ []) (ap (λ (l : List Item). program_over_lines
        (over_of x.store.device l)) its)) (
          cut_to more,
          over_judged,
          (
            stand (with_mounted s n z) later,
            reset_judged (stand (with_mounted s n z) later) (ap
                (λ (l : List AuditedDevice). record { devices = l; events = later; due = (stand s later).due }) (ap (with_device (map audited (devices_of s))) (sym
                (audited_by x y (cut_half (half_by x.store.half)) (history_reset x.history o.path more) half (g.history ∙ ap
                (λ (p : ℕ). history_reset x.history p more) (sym path_is)))) ∙ put_at s.mounted n z (g.parts.number ∙ number_is))),
            refl,
          ),
        )

module _ (s : Subsystem) (plain : ArePlain s.mounted) (path n : ℕ) (x : MarksDevice) (at : device_in (devices_of s) n ≡ Some x) where
  by_running : (later : List EventLine) (r : Option OpenEntry) → x.history.running ≡ r → Leads s path n x later
  by_running later None none = other_leads s plain path n x at later (λ o is. absurd (let both_are : None ≡ Some o = sym none ∙ is in cc))
  by_running later (Some o) running = by_test (o.path == path) refl where
    by_test : (b : Bool) → (o.path == path) ≡ b → Leads s path n x later
    by_test true own = own_leads s plain path n x at later o running own
    by_test false other =
        other_leads s plain path n x at later (λ k is. let same_open : Some o ≡ Some k = sym running ∙ is in
        let same : o ≡ k = cc in ap (λ (y : OpenEntry). y.path == path) (sym same) ∙ other)

  abbrev its_lines : EventHappened → List ReportLine
  its_lines h = event_lines (Once (events.Reset path n)) h.end h.reads h.writes (devices_of s) (devices_of h.behind)

  asked_leads : (k : ℕ) → k ≡ n → EventLeads s (wanted.Reset path n) (Once (events.Reset path n))
      (asks s k (mounted_in s.mounted k) (ends_by ends_done (reset by_plain x path)))
  asked_leads k is later =
      let m = mounted_too s.mounted n x at in
      let o = held_with s.pool m.0 (ends_by ends_done (reset by_plain x path)) in
      let z = mounted_behind o in
      let moves = held_moved {q = λ r w (y : MarksDevice) (a : Option EventEnd). (r ≡ 0) × (w ≡ 0)} true (counts_then (λ y a. Done y (Some (ends_done a)))
      (reset_counts by_plain x path) (λ r w y a h. counts_done h)) (told_to s.pool m.0) refl refl in
      rw (is, m.1, moves.0, moves.1) (by_running later x.history.running refl m.0 m.2 m.1 z o.answer (held true (reset_had x path) (told_to s.pool m.0)))

  pub reset_leads : EventLeads s (wanted.Reset path n) (Once (events.Reset path n)) (happens s (events.Reset path n))
  unfolding H.happens E.deed
  reset_leads = rw at (asked_leads x.store.device (number_found s.mounted n x at))
