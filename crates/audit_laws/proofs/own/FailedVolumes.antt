-- Behind a piece of work the lines of a volume's failure by which tracks become firm read as more of that work: the audit's devices are alike then.
use Rattle.std.proofs.Common.{arith, ◌≡◌, ℕ, Bool, true, false, List, [], ◌∷◌, map, Option, Some, None, refl, sym, ap, subst, ◌∙◌, if◌then◌else◌}
use Rattle.std.specs.Prelude.{IfSome, Ok}
use Rattle.std.specs.List.{flat_map}
use Rattle.std.proofs.lemmas.Bool.{eqb-true}
use Rattle.ckd_types.specs.declared.paths.Side.{Side}
use Rattle.deck_plan.specs.declared.event.EventLine.{EventLine}
use Rattle.deck_plan.specs.declared.event.EventLine.TheVariants as events
use Rattle.plain_defs.specs.declared.journal.Act.TheVariants.{Harden}
use Rattle.plain_defs.specs.History.{IsPlain, acted}
use Rattle.plain_defs.specs.Loose.{is_loose_there}
use Rattle.plain_defs.specs.PlainState.{PlainState}
use Rattle.device_defs.specs.Marks.{MarksDevice}
use Rattle.report_text.specs.declared.answers.LooseAnswer.TheVariants as loose
use Rattle.report_text.specs.declared.line.ReportLine.{ReportLine}
use Rattle.report_text.specs.declared.line.ReportLine.TheVariants as lines
use Rattle.deck_audit.specs.declared.state.Did.{Did}
use Rattle.deck_audit.specs.declared.state.Due.{Due}
use Rattle.deck_audit.specs.declared.state.Due.TheVariants.{Behind, Next}
use Rattle.deck_audit.specs.Place.{holds, in_event, is_of_work, worker_of}
use Rattle.deck_audit.specs.Device.{AuditedDevice, device_in, state_of, with_device}
use Rattle.deck_audit.specs.History.{act_made, harden_made, is_legal}
use Rattle.deck_audit.specs.State.{AuditState, is_event_over, outlines, over_by, settled, settled_by, then_of, worked, worker, worker_number}
use Rattle.deck_audit.specs.Verdict.{judged, or_history}
use Rattle.run_report.specs.Events.{lines_of}
use Rattle.subsystem_defs.specs.Deeds as D
use Rattle.subsystem_defs.specs.Lines.{asked_by, line_logged}
use Rattle.subsystem_defs.specs.Subsystem.{Subsystem, devices_of}
use Rattle.subsystem_laws.proofs.PlainRuns.{ArePlain, Plainly}
use Rattle.subsystem_laws.proofs.Walks.{device_so}
use Rattle.audit_laws.specs.Runs.{line_behind}
use Rattle.audit_laws.specs.Standing.{LeadsBy, LineLeads, audited, stand}
use Rattle.audit_laws.specs.Steps.{Reaches, is_there, is_waiting}
use Rattle.audit_laws.proofs.Devices.{found_put, put_again, put_own}
use Rattle.audit_laws.proofs.own.AlikeDevices.{Alike, alike_self, event_over_same, history_alike, seen, state_same, worked_alike}
use Rattle.audit_laws.proofs.own.AlikeLines.{AlikeFound, AlikeStates, AreAlike, all_then, found_alike, leads_alike, put_alike}
use Rattle.audit_laws.proofs.own.Found.{found}
use Rattle.audit_laws.proofs.own.Hardens.{GoesOn, IsQuiet, done_tidy, firm_either, firm_goes, firm_legal, firm_over, firm_quiet, firm_tidy, firmer, loose_behind, plain_goes, quiet_of}
use Rattle.audit_laws.proofs.own.Leading.{waiting_leads}
use Rattle.audit_laws.proofs.own.NextLines.{of_none, stands_so}
use Rattle.audit_laws.proofs.own.Pasts.{IsTidy, act_is_read}
use Rattle.audit_laws.proofs.own.Work.{at_work, harden_judged, settled_plainly, worked_number, worker_is}

-- lines lead from the one state to one that is alike the other
abbrev pub LeadsBeside : AuditState → List ReportLine → AuditState → Type 0
LeadsBeside v ls t = (w : AuditState) × LeadsBy v ls w × AlikeStates w t

module _ (xs : List AuditedDevice) (w : EventLine) (d : ℕ) (side : Side) (later : List EventLine) (n : ℕ) (works : worker_of w ≡ Some n)
    (first : AuditedDevice) (has : device_in xs n ≡ Some first) (selves : AreAlike xs xs) (did : Did) where
  abbrev left : List EventLine
  left = events.FailVolume d side ∷ later

  -- the audit waits behind the work of this device, or stands before the failure
  abbrev waits : AuditedDevice → Bool → AuditState
  waits a more = at_work xs w (events.FailVolume d side ∷ later) a (Behind more did)

  abbrev before : List AuditedDevice → AuditState
  before ys = record { devices = ys; events = events.FailVolume d side ∷ later; due = Next }

  record IsDone (a : AuditedDevice) (ys : List AuditedDevice) : Type 0 where
    number : a.number ≡ n
    tidy : IsTidy a.history
    quiet : IsQuiet did (seen a).past.running
    legal : is_legal did a ≡ true
    over : is_event_over (Some w) (worked a did) did ≡ true
    goes : GoesOn (seen (worked a did)).past.running
    alike : AreAlike (with_device xs (worked a did)) ys

  module _ (a : AuditedDevice) (ys : List AuditedDevice) (k : IsDone a ys) where
    settled_so : (more : Bool) → settled (waits a more) did
        ≡ record { devices = with_device xs (worked a did); events = events.FailVolume d side ∷ later; due = Next }
    settled_so more = grind (arith, settled_plainly)

    -- a line that isn't of the work
    other_leads : (more : Bool) (line : ReportLine) (ls : List ReportLine) (t : AuditState) →
        is_of_work more (worker_number (waits a more)) line ≡ false → LeadsBy (before ys) (line ∷ ls) t → LeadsBeside (waits a more) (line ∷ ls) t
    other_leads more line ls t other leads =
        let v = waits a more in
        let from = leads_alike (line ∷ ls) (settled v did) (before ys) t (rw (settled_so more)
        (search arith)) leads in (
          from.0,
          waiting_leads v from.0 line ls more did refl other (ap (λ (x : Option AuditedDevice). holds x (is_legal did))
              (worker_is xs w left n works first has a (Behind more did) k.number) ∙ k.legal) (ap (λ (z : AuditState). z.due) (settled_so more)) from.1,
          from.2,
        )

    -- a track becomes firm
    module _ (track : ℕ) where
      either : Alike (worked (firmer track a) did) (firmer track (worked a did))
      either = firm_either a track did k.tidy k.quiet k.goes

      still_done : (b : AuditedDevice) → Alike (worked a did) b → IsDone (firmer track a) (with_device ys (firmer track b))
      still_done b is = record {
        number = k.number;
        tidy = firm_tidy a track k.tidy;
        quiet = firm_quiet a track did k.tidy k.quiet;
        legal = firm_legal a track did k.tidy k.quiet k.legal;
        over = event_over_same (worked (firmer track a) did) (firmer track (worked a did)) either (Some w) did
            ∙ firm_over (worked a did) track (Some w) did ∙ k.over;
        goes = subst (λ (x : _). GoesOn x.past.running) (sym either.same) (firm_goes (worked a did) track (done_tidy a did k.tidy) k.goes);
        alike = all_then (with_device xs (worked (firmer track a) did)) (with_device xs (firmer track (worked a did))) (with_device ys (firmer track b))
            (put_alike xs xs selves (worked (firmer track a) did) (firmer track (worked a did)) either)
            (subst (λ (l : List AuditedDevice). AreAlike l (with_device ys (firmer track b)))
            (put_again xs (worked a did) (firmer track (worked a did)) refl)
            (put_alike (with_device xs (worked a did)) ys k.alike (firmer track (worked a did)) (firmer track b)
            (history_alike (worked a did) b is (λ h. acted h (Harden track)) _ (act_is_read (Harden track)))));
      }

      -- of a device that is the same to the run
      record Firmer (u : AuditState) : Type 0 where
        zs : List AuditedDevice
        stands : u ≡ before zs
        is : is_loose_there (state_of a) track ≡ true
        done : IsDone (firmer track a) zs

      by_test : (b : AuditedDevice) → Alike (worked a did) b → (u : AuditState) (c : Bool) → is_loose_there (state_of b) track ≡ c →
          or_history (if c then Some (act_made (before ys) b (Harden track) Next) else None) ≡ Ok u → Firmer u
      by_test b is u true so made =
          grind (arith, firmer track b, loose_behind a track did k.tidy k.quiet track, state_same (worked a did) b is, still_done b is)
      by_test b is u false so made = absurd (cc)

      by_device : (x : Option AuditedDevice) → AlikeFound (Some (worked a did)) x → (u : AuditState) →
          or_history (then_of x (λ b. harden_made (before ys) b track Next)) ≡ Ok u → Firmer u
      by_device x is u made = grind (arith, by_test)

      firm_too : (u : AuditState) → judged (before ys) (lines.Loose n (loose.Harden track)) ≡ Ok u → Firmer u
      firm_too u so =
          let made = stands_so (in_event (outlines (before ys)) (lines.Loose n (loose.Harden track)) (events.FailVolume d side)) (or_history (then_of
          (device_in ys n) (λ b. harden_made (before ys) b track Next))) u so in
          by_device (device_in ys n) (rw (← (found_put xs n first (worked a did) has (worked_number a did ∙ k.number))) (found_alike (with_device xs
          (worked a did)) ys k.alike n)) u made.1

      firm_leads : (ls : List ReportLine) (t : AuditState) → LeadsBy (before ys) (lines.Loose n (loose.Harden track) ∷ ls) t →
          ((b : AuditedDevice) (zs : List AuditedDevice) → IsDone b zs → LeadsBy (before zs) ls t → LeadsBeside (waits b true) ls t) →
          LeadsBeside (waits a true) (lines.Loose n (loose.Harden track) ∷ ls) t
      firm_leads ls t leads rest =
          let f = firm_too leads.0 leads.1 in
          let more = rest (firmer track a) f.zs f.done (rw (← f.stands) leads.2) in
          (more.0, (waits (firmer track a) true, harden_judged xs w left n works first has a k.number did track f.is, more.1), more.2)

  -- no track becomes firm of the work of another device, or once another became loose
  firm_other : (m track : ℕ) (more : Bool) → is_of_work more (worker_of w) (lines.Loose m (loose.Harden track)) ≡ true → (m ≡ n) × (more ≡ true)
  firm_other m track more is = grind (arith, eqb-true)

  waits_lead : (ls : List ReportLine) (a : AuditedDevice) (ys : List AuditedDevice) (more : Bool) → IsDone a ys → (t : AuditState) →
      LeadsBy (before ys) ls t → (t.events ≡ events.FailVolume d side ∷ later → ⊥) → LeadsBeside (waits a more) ls t
  waits_lead [] a ys more k t leads past = absurd (past (ap (λ (z : AuditState). z.events) leads))
  waits_lead (lines.Loose m (loose.Harden track) ∷ ls) a ys more k t leads past =
      by_work (is_of_work more (worker_of w) (lines.Loose m (loose.Harden track))) refl
      (λ b zs done rest. waits_lead ls b zs true done t rest past)
    where
      by_work : (b : Bool) → is_of_work more (worker_of w) (lines.Loose m (loose.Harden track)) ≡ b →
          ((c : AuditedDevice) (zs : List AuditedDevice) → IsDone c zs → LeadsBy (before zs) ls t → LeadsBeside (waits c true) ls t) →
          LeadsBeside (waits a more) (lines.Loose m (loose.Harden track) ∷ ls) t
      by_work false is rest = other_leads a ys k more (lines.Loose m (loose.Harden track)) ls t is leads
      by_work true is rest =
          let so = firm_other m track more is in
          rw so.1
          (rw so.0
          (firm_leads a ys k track ls t (rw (← so.0) leads) rest))
  waits_lead (lines.Order order answer ∷ ls) a ys more k t leads past = search (arith, other_leads, of_none)
  waits_lead (line ∷ ls) a ys more k t leads past = absurd (cc)

-- Where a piece of work that waits so leads

self_at : (x : Option AuditedDevice) → AlikeFound x x → (a : AuditedDevice) → x ≡ Some a → IsTidy a.history
self_at x is a same = grind arith

module _ (xs : List AuditedDevice) (d : ℕ) (side : Side) (later : List EventLine) (more : Bool) (did : Did) (selves : AreAlike xs xs) (ys : List AuditedDevice)
    (goes : (n : ℕ) (b : AuditedDevice) → device_in ys n ≡ Some b → GoesOn (seen b).past.running) (ls : List ReportLine) (t : AuditState)
    (leads : LeadsBy (record { devices = ys; events = events.FailVolume d side ∷ later; due = Next }) ls t)
    (past : t.events ≡ events.FailVolume d side ∷ later → ⊥) where
  abbrev failing : List EventLine
  failing = events.FailVolume d side ∷ later

  abbrev waiting : List EventLine → AuditState
  waiting l = record { devices = xs; events = l; due = Behind more did }

  module _ (w : EventLine) (rest : List EventLine) (n : ℕ) (works : worker_of w ≡ Some n) (a : AuditedDevice) (has : device_in xs n ≡ Some a)
      (legal : is_legal did a ≡ true) where
    abbrev done : AuditedDevice
    done = worked a did

    own : (a.number ≡ n) × (with_device xs a ≡ xs)
    own = put_own xs n a has

    -- the event of the work is over
    from_over : over_by a did a.history.running ≡ None → is_event_over (Some w) (worked a did) did ≡ true → rest ≡ events.FailVolume d side ∷ later →
        with_device xs (worked a did) ≡ ys → LeadsBeside (record { devices = xs; events = w ∷ rest; due = Behind more did }) ls t
    from_over none over left devices =
        let tidy = self_at (device_in xs n) (found_alike xs xs selves n) a has in
        let self = alike_self a tidy in
        rw left
        (rw (← own.1)
        (waits_lead xs w d side later n works a has selves did ls a ys more (record {
          number = own.0;
          tidy = tidy;
          quiet = quiet_of a did a.history.running none;
          legal = legal;
          over = over;
          goes = goes n done (ap (λ (l : List AuditedDevice). device_in l n) (sym devices) ∙ found_put xs n a done has (worked_number a did ∙ own.0));
          alike = subst (AreAlike (with_device xs done)) devices (put_alike xs xs selves done done (worked_alike a a self did));
        }) t leads past))

    from_work : (o : Option ReportLine) → over_by a did a.history.running ≡ o →
        settled_by (record { devices = xs; events = w ∷ rest; due = Behind more did }) a did o ≡ record { devices = ys; events = events.FailVolume d side ∷ later; due = Next } →
        LeadsBeside (record { devices = xs; events = w ∷ rest; due = Behind more did }) ls t
    from_work o none same = search (arith, from_over)

  from_waiting : (l : List EventLine) → holds (worker (record { devices = xs; events = l; due = Behind more did })) (is_legal did) ≡ true →
      settled (record { devices = xs; events = l; due = Behind more did }) did ≡ record { devices = ys; events = events.FailVolume d side ∷ later; due = Next } →
      LeadsBeside (record { devices = xs; events = l; due = Behind more did }) ls t
  from_waiting l legal same = search (arith, from_work)

-- Before the failure each device of the run goes on

module _ (s : Subsystem) (plain : ArePlain s.mounted) where
  plain_at : (n : ℕ) (x : MarksDevice) → D.device_in (devices_of s) n ≡ Some x → IsPlain x.plans (audited x).empty x.history
  plain_at n x at =
      let p = subst (λ (o : Option MarksDevice). IfSome o Plainly) at (device_so Plainly s.mounted n plain) in
      subst (λ (e : PlainState). IsPlain x.plans e x.history) p.base p.follows.stands.plain

  all_go : (n : ℕ) (b : AuditedDevice) → device_in (map audited (devices_of s)) n ≡ Some b → GoesOn (seen b).past.running
  all_go n b is = grind (arith, found, seen, plain_goes, plain_at)

  -- from where the run stands, or from where the audit waits
  pub failure_leads : (d : ℕ) (side : Side) (later : List EventLine) → (later ≡ events.FailVolume d side ∷ later → ⊥) → LineLeads s (events.FailVolume d side) →
      (n : Option ℕ) (v : AuditState) → AreAlike v.devices v.devices → Reaches n v (stand s (events.FailVolume d side ∷ later)) →
      LeadsBeside v (flat_map lines_of (line_logged s (asked_by (events.FailVolume d side)))) (stand (line_behind s (events.FailVolume d side)) later)
  failure_leads d side later past leads n v selves (is_there same) =
      leads_alike (flat_map lines_of (line_logged s (asked_by (events.FailVolume d side)))) v (stand s (events.FailVolume d side ∷ later)) (stand
      (line_behind s (events.FailVolume d side)) later) (rw (← same) (record { events_are = refl; due_is = refl; devices_are = selves })) (leads later)
  failure_leads d side later past leads n v selves (is_waiting more did is works legal same) =
      let ls = flat_map lines_of (line_logged s (asked_by (events.FailVolume d side))) in
      let t = stand (line_behind s (events.FailVolume d side)) later in
      rw is (from_waiting v.devices d side later more did selves (map audited (devices_of s)) all_go ls t (leads later) past v.events (subst
      (λ (q : Due). holds (worker (record v { due = q })) (is_legal did) ≡ true) is legal) (rw (← is) same))
