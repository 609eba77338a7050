-- All lines of a command that ends: its end, acts of cache fast write, volume calls, the program that is over.
use Rattle.std.proofs.Common.{arith, ◌≡◌, ◌++◌, ℕ, Bool, true, false, List, [], ◌∷◌, map, Option, Some, None, refl, sym, ap, subst, append_assoc}
use Rattle.std.proofs.lemmas.List.{map-append}
use Rattle.std.proofs.lemmas.Bool.{and_from}
use Rattle.deck_plan.specs.declared.event.EventLine.{EventLine}
use Rattle.ckd_types.specs.declared.channel.CommandEnd.{CommandEnd}
use Rattle.ckd_types.specs.Ccw.{ccw_at}
use Rattle.ckd_types.specs.Sense.{equipment_sense}
use Rattle.plain_defs.specs.declared.journal.Act.{Act}
use Rattle.plain_defs.specs.declared.journal.Act.TheVariants.{Loosen}
use Rattle.plain_defs.specs.History.{History, IsPlain, OpenEntry, acted}
use Rattle.plain_defs.specs.Legal.{AreActs}
use Rattle.ckd_rules.specs.Ends.{end_at_word as end_of_command}
use Rattle.plain_defs.specs.Effect.{effect_on}
use Rattle.device_defs.specs.Device.{all_acted}
use Rattle.report_text.specs.declared.answers.HowOver.TheVariants as how
use Rattle.report_text.specs.declared.line.ReportLine.{ReportLine}
use Rattle.report_text.specs.declared.line.ReportLine.TheVariants as lines
use Rattle.report_text.specs.Ends.{end_line}
use Rattle.report_text.specs.declared.event.Happened.TheVariants as told
use Rattle.report_text.specs.Events.{ended_lines, in_order, line_if}
use Rattle.deck_audit.specs.declared.state.Did.{Did}
use Rattle.deck_audit.specs.declared.state.Did.TheVariants.{CheckEnded, Ended}
use Rattle.deck_audit.specs.declared.state.Due.TheVariants.{Behind, Next}
use Rattle.deck_audit.specs.declared.state.HalfWrite.TheVariants.{Closed}
use Rattle.deck_audit.specs.Place.{in_event, is_of_work, worker_of}
use Rattle.deck_audit.specs.Device.{AuditedDevice, check_end, device_in, may_loosen, part_of_open, plain_end, plain_end_at, state_of, words_of_open}
use Rattle.deck_audit.specs.History.{event_made, is_legal, work_made}
use Rattle.deck_audit.specs.State.{AuditState, outlines, over_by}
use Rattle.audit_laws.specs.Standing.{LeadsBy}
use Rattle.audit_laws.specs.Steps.{LeadsTowards, NoLoss, act_line, over_told, over_if, acted_to, step_lines}
use Rattle.audit_laws.proofs.own.EndLines.{IsTidy, check_lead, plain_lead}
use Rattle.audit_laws.proofs.own.Leading.{leads_on, one_leads}
use Rattle.audit_laws.proofs.own.Saying.{same_number}
use Rattle.audit_laws.proofs.own.Tidy.{end_is_tidy}
use Rattle.audit_laws.proofs.own.CameOut.{ChecksSo, EndsSo, acts_run, firmly, loosely, with_acts}
use Rattle.audit_laws.proofs.own.Work.{IsOver, acts_lead, at_work, end_of, loosen_judged, piece_leads}
use Rattle.device_laws.proofs.DeviceEnds.{all_acted-append}

-- The plain device's end of a command

module _ (a : AuditedDevice) (o : OpenEntry) where
  tidy_at : (next : Option ℕ) (p : CommandEnd) → plain_end_at o.path (words_of_open a o) (part_of_open a o) next ≡ Some p →
      (p.sense ≡ Some equipment_sense → ⊥) → IsTidy (ccw_at (words_of_open a o) p.index) p
  tidy_at (Some i) p is few =
      let q = part_of_open a o in
      let same : end_of_command i (ccw_at (words_of_open a o) i) (effect_on q.fixed q.state o.path q.stance (ccw_at (words_of_open a o) i)).outcome ≡ p = cc in
      subst (λ (e : CommandEnd). (e.sense ≡ Some equipment_sense → ⊥) → IsTidy (ccw_at (words_of_open a o) e.index) e) same
      (end_is_tidy i q.fixed q.state o.path q.stance (ccw_at (words_of_open a o) i)) few
  tidy_at None p is few = absurd (cc)

  -- of one that ends before it has looked at more tracks than there are
  pub plain_end_is_tidy : (p : CommandEnd) → plain_end a o ≡ Some p → (p.sense ≡ Some equipment_sense → ⊥) → IsTidy (ccw_at (words_of_open a o) p.index) p
  plain_end_is_tidy p is few = tidy_at (part_of_open a o).next p is few

module _ (xs : List AuditedDevice) (w : EventLine) (later : List EventLine) (a : AuditedDevice)
    (has : device_in xs a.number ≡ Some a) (is_work : worker_of w ≡ Some a.number) (o : OpenEntry) (running : a.history.running ≡ Some o)
    (plainly : IsPlain a.plans a.empty a.history) where
  abbrev b : AuditedDevice
  b = record a { half = Closed }

  abbrev from : AuditState
  from = record { devices = xs; events = w ∷ later; due = Next }

  -- The OVER line that comes of it

  over_is : (acts : List Act) (did : Did) → over_by (acted_to a acts) did (all_acted a.history acts).running ≡ over_by a did (Some o)
  over_is acts did = by_did did (ap (λ (h : History). h.running) (acts_run acts a.history o running)) where
    by_did : (did : Did) → (all_acted a.history acts).running ≡ Some (with_acts o acts) →
        over_by (acted_to a acts) did (all_acted a.history acts).running ≡ over_by a did (Some o)
    by_did did is = grind arith

  fits : (more : Bool) (did : Did) (line : ReportLine) → over_by a did (Some o) ≡ Some line → IsOver line × (is_of_work more (worker_of w) line ≡ false)
  fits more did line is = grind (arith, and_from, same_number)

  all_lead : (acts : List Act) (more : Bool) (did : Did) → is_legal did (acted_to a acts) ≡ true → (e : CommandEnd) (ls : List ReportLine) (reads writes : ℕ) →
      LeadsBy from (ended_lines o.path a.number o.ordinal e ++ ls) (at_work xs w later (acted_to a acts) (Behind more did)) →
      LeadsTowards from (in_order (told.Ended o.path a.number o.ordinal e) ls reads writes (line_if (over_by a did (Some o)))) (end_of xs w later (acted_to a acts) did (over_by a did (Some o)))
  all_lead acts more did legal e ls reads writes leads =
      piece_leads xs w later a.number is_work a has (acted_to a acts) refl more did legal (over_by a did (Some o)) (over_is acts did) (fits more did)
      (told.Ended o.path a.number o.ordinal e) refl ls reads writes leads

  module _ (stands : (e : CommandEnd) → in_event (outlines (record { devices = xs; events = w ∷ later; due = Next }))
      (lines.End (end_line o.path a.number o.ordinal e)) w ≡ true)
      (makes : (line : ReportLine) → event_made (record { devices = xs; events = w ∷ later; due = Next }) line w
      ≡ work_made (record { devices = xs; events = w ∷ later; due = Next }) line a) where
    -- the end as on the plain device, and acts by which tracks become firm
    plain_acts : (p : CommandEnd) (acts : List Act) → plain_end a o ≡ Some p → NoLoss acts → AreActs (state_of a) None acts →
        (p.sense ≡ Some equipment_sense → ⊥) →
        LeadsBy from (ended_lines o.path a.number o.ordinal p ++ map (act_line a.number) acts) (at_work xs w later (acted_to a acts) (Behind true (Ended p)))
    plain_acts p acts plain none are few =
        acts_lead xs w later a.number is_work a has b refl (Ended p) acts plainly none are (ended_lines o.path a.number o.ordinal p)
        (plain_lead xs w later a has is_work o running stands makes p plain (plain_end_is_tidy a o p plain few))

    -- a track becomes loose behind them
    loosens : (acts : List Act) (t : ℕ) (ls : List ReportLine) (e : CommandEnd) → may_loosen (acted_to a acts) (all_acted a.history acts).running t ≡ true →
        LeadsBy from (ls ++ map (act_line a.number) acts) (at_work xs w later (acted_to a acts) (Behind true (Ended e))) →
        LeadsBy from (ls ++ map (act_line a.number) (acts ++ Loosen t ∷ []))
        (at_work xs w later (acted_to a (acts ++ Loosen t ∷ [])) (Behind false (Ended e)))
    loosens acts t ls e may leads =
        let s = at_work xs w later (acted_to a acts) (Behind true (Ended e)) in
        let z = at_work xs w later (record a { history = acted (all_acted a.history acts) (Loosen t); half = Closed }) (Behind false (Ended e)) in
        rw (
          map-append (act_line a.number) acts (Loosen t ∷ []),
          sym (append_assoc ls (map (act_line a.number) acts) (act_line a.number (Loosen t) ∷ [])),
          all_acted-append a.history acts (Loosen t),
        ) (leads_on from s z (ls ++ map (act_line a.number) acts) (act_line a.number (Loosen t) ∷ []) leads
        (one_leads s z (act_line a.number (Loosen t)) (loosen_judged xs w later a.number is_work a has (acted_to a acts) refl e t may)))

    -- all lines of a command
    pub command_leads : (reads writes : ℕ) (e : CommandEnd) (acts : List Act) → EndsSo a o e acts → (e.sense ≡ Some equipment_sense → ⊥) →
        LeadsTowards from (step_lines a o e acts reads writes (over_if e.over (over_told a o how.Full)))
        (end_of xs w later (acted_to a acts) (Ended e) (over_if e.over (over_told a o how.Full)))
    command_leads reads writes e acts (firmly bs plain none are legal) few =
        all_lead bs true (Ended e) legal e (map (act_line a.number) bs) reads writes
        (plain_acts e bs plain none are few)
    command_leads reads writes e acts (loosely bs t plain none are may legal) few =
        all_lead (bs ++ Loosen t ∷ []) false (Ended e) legal e (map (act_line a.number) (bs ++ Loosen t ∷ []))
        reads writes (loosens bs t (ended_lines o.path a.number o.ordinal e) e may (plain_acts e bs plain none are few))

    -- or with equipment check or data check
    pub check_leads : (reads writes : ℕ) (e : CommandEnd) (acts : List Act) → NoLoss acts → (c : ChecksSo a o e acts) →
        (c.plain.sense ≡ Some equipment_sense → ⊥) → LeadsTowards from (step_lines a o e acts reads writes (Some (over_told a o how.Checked)))
        (end_of xs w later (acted_to a acts) (CheckEnded e) (Some (over_told a o how.Checked)))
    check_leads reads writes e acts none c few =
        let d = check_end (words_of_open a o) c.plain.index c.sense in
        rw c.is_so (all_lead acts true (CheckEnded d) refl d (map (act_line a.number) acts) reads writes
        (acts_lead xs w later a.number is_work a has b refl (CheckEnded d) acts plainly none c.are (ended_lines o.path a.number o.ordinal d)
        (check_lead xs w later a has is_work o running stands makes c.plain c.is_plain (plain_end_is_tidy a o c.plain c.is_plain few) c.sense c.is_check)))
