-- What the lines of a piece of work make of its device: acts of cache fast write, volume calls, the program that is over.
use Rattle.std.proofs.Common.{arith, ◌≡◌, ◌==◌, ◌++◌, ℕ, Bool, true, false, not, List, [], ◌∷◌, map, Option, Some, None, refl, sym, ap, subst, ◌∙◌, append_assoc, if◌then◌else◌}
use Rattle.std.specs.Prelude.{Result, ◌||◌, ◌&&◌, Ok, Err}
use Rattle.std.proofs.lemmas.List.{append-nil}
use Rattle.deck_plan.specs.declared.event.EventLine.{EventLine}
use Rattle.ckd_types.specs.declared.channel.CommandEnd.{CommandEnd}
use Rattle.plain_defs.specs.declared.journal.Act.{Act}
use Rattle.plain_defs.specs.declared.journal.Act.TheVariants.{Loosen, Harden, CfwLost}
use Rattle.plain_defs.specs.History.{History, IsPlain, acted}
use Rattle.plain_defs.specs.Legal.{AreActs}
use Rattle.plain_defs.specs.Loose.{is_loose_there}
use Rattle.device_defs.specs.Device.{all_acted}
use Rattle.device_laws.proofs.HistoryActs.{acted_plain, acted_state, acts_first, acts_rest}
use Rattle.report_text.specs.declared.answers.LooseAnswer.TheVariants as loose
use Rattle.report_text.specs.declared.line.ReportLine.{ReportLine}
use Rattle.report_text.specs.declared.line.ReportLine.TheVariants as lines
use Rattle.report_text.specs.declared.event.Happened.{Happened}
use Rattle.report_text.specs.Events.{first_lines, in_order, io_lines, last_line, line_if}
use Rattle.deck_audit.specs.declared.state.Did.{Did}
use Rattle.deck_audit.specs.declared.state.Did.TheVariants.{Ended, Halved}
use Rattle.deck_audit.specs.declared.state.Due.{Due}
use Rattle.deck_audit.specs.declared.state.Due.TheVariants.{Next, Behind, OverOf}
use Rattle.deck_audit.specs.Place.{holds, in_due, is_act_of, is_io, is_of_work, is_over, worker_of}
use Rattle.deck_audit.specs.Same.{says}
use Rattle.deck_audit.specs.Device.{AuditedDevice, device_in, may_loosen, state_of, with_device}
use Rattle.deck_audit.specs.History.{act_made, act_of_work, due_made, is_legal, shown}
use Rattle.deck_audit.specs.State.{AuditState, behind_work, is_event_over, outlines, over_by, settled, settled_by, settled_in, then_of, worked, worker}
use Rattle.deck_audit.specs.declared.status.AuditWhy.{AuditWhy}
use Rattle.deck_audit.specs.declared.status.AuditWhy.TheVariants.{Place}
use Rattle.deck_audit.specs.Verdict.{judged, or_history}
use Rattle.audit_laws.specs.Standing.{LeadsBy}
use Rattle.audit_laws.specs.Steps.{LeadsTowards, NoLoss, is_there, is_waiting, act_line}
use Rattle.audit_laws.proofs.Devices.{found_put, put_again}
use Rattle.audit_laws.proofs.own.Leading.{judged_due, judged_over, leads_on, waiting_judged}
use Rattle.audit_laws.proofs.own.Saying.{same_number}

pub worked_number : (a : AuditedDevice) (did : Did) → (worked a did).number ≡ a.number
worked_number a did = grind arith

-- the device of the work is this one
abbrev pub at_work : List AuditedDevice → EventLine → List EventLine → AuditedDevice → Due → AuditState
at_work xs w later a due = record { devices = with_device xs a; events = w ∷ later; due = due }

-- acts by which tracks become firm, where each is judged well
pub firm_acts_lead : (xs : List AuditedDevice) (w : EventLine) (later : List EventLine) (n : ℕ) (due : Due) →
    ((a : AuditedDevice) → a.number ≡ n → (t : ℕ) → is_loose_there (state_of a) t ≡ true → judged (at_work xs w later a due) (lines.Loose n (loose.Harden t))
    ≡ Ok (at_work xs w later (record a { history = acted a.history (Harden t) }) due)) →
    (a : AuditedDevice) → a.number ≡ n → (acts : List Act) → IsPlain a.plans a.empty a.history → NoLoss acts → AreActs (state_of a) None acts →
    LeadsBy (at_work xs w later a due) (map (act_line n) acts) (at_work xs w later (record a { history = all_acted a.history acts }) due)
firm_acts_lead xs w later n due judge a same [] plain none are = refl
firm_acts_lead xs w later n due judge a same (Harden t ∷ acts) plain none are =
    let b = record a { history = acted a.history (Harden t) } in
    let now = acted_plain a.plans a.empty a.history plain (Harden t) (acts_first (state_of a) (Harden t) acts are) in
    let rest : AreActs (state_of b) None acts = rw (acted_state a.plans a.empty a.history plain (Harden t)) (acts_rest (state_of a) (Harden t) acts are) in
    (at_work xs w later b due, judge a same t are.0, firm_acts_lead xs w later n due judge b same acts now none.1 rest)
firm_acts_lead xs w later n due judge a same (Loosen t ∷ []) plain none are = absurd (let no_edit : None ≡ Some t = are.1 in cc)
firm_acts_lead xs w later n due judge a same (Loosen t ∷ act ∷ acts) plain none are = absurd are
firm_acts_lead xs w later n due judge a same (CfwLost ∷ acts) plain none are = absurd (let is : true ≡ false = none.0 in cc)

-- the event goes on, or is over
abbrev pub behind_event : List AuditedDevice → EventLine → List EventLine → AuditedDevice → Did → AuditState
behind_event xs w later a did =
    if is_event_over (Some w) a did then record { devices = with_device xs a; events = later; due = Next } else at_work xs w later a Next

-- where the program is over its line ends the event, as a half write that is open would
abbrev pub end_of : List AuditedDevice → EventLine → List EventLine → AuditedDevice → Did → Option ReportLine → AuditState
end_of xs w later a did (Some line) = behind_event xs w later (worked a did) Halved
end_of xs w later a did None = behind_event xs w later (worked a did) did

-- where nothing is told last
ordered : (h : Happened) → last_line h ≡ None → (acts calls over : List ReportLine) →
    (first_lines h ++ acts) ++ (calls ++ over) ≡ first_lines h ++ (acts ++ (calls ++ (over ++ line_if (last_line h))))
ordered h none acts calls over = grind (arith, append-nil, append_assoc)

-- an OVER line of the wanted program
abbrev pub IsOver : ReportLine → Type 0
IsOver line = (is_over line line ≡ true) × (says line line ≡ true)

module _ (xs : List AuditedDevice) (w : EventLine) (later : List EventLine) (n : ℕ) (works : worker_of w ≡ Some n) (first : AuditedDevice)
    (has : device_in xs n ≡ Some first) where
  abbrev from : AuditState
  from = record { devices = xs; events = w ∷ later; due = Next }

  abbrev at : AuditedDevice → Due → AuditState
  at a due = at_work xs w later a due

  pub worker_is : (a : AuditedDevice) (due : Due) → a.number ≡ n → worker (at_work xs w later a due) ≡ Some a
  worker_is a due same = grind (arith, found_put)

  changed_to : (a b : AuditedDevice) (due : Due) → a.number ≡ n → b.number ≡ n →
      record (at a due) { devices = with_device (with_device xs a) b } ≡ at b due
  changed_to a b due one two = ap (λ (l : List AuditedDevice). record { devices = l; events = w ∷ later; due = due }) (put_again xs a b (one ∙ sym two))

  -- An act

  module _ (a : AuditedDevice) (same : a.number ≡ n) (more : Bool) (did : Did) (line : ReportLine) where
    abbrev s : AuditState
    s = at a (Behind more did)

    -- by whether the line is of calls, whether it is of an act, and the worker
    abbrev judged_at : Bool → Bool → Option AuditedDevice → Result AuditState AuditWhy
    judged_at io act o =
        if (io || act) || in_due (outlines (settled s did)) (settled s did).events line (settled s did).due
        then or_history (if (io || act) && not io then then_of o (act_of_work s line did)
        else if not (holds o (is_legal did)) then None
        else if io then Some (settled s did)
        else due_made (settled s did) line (settled s did).due) else Err Place

    abbrev is_act : Option ℕ → Bool
    is_act k = holds k (λ d. is_act_of more d line)

    of_work : holds (Some n) (λ d. is_act_of more d line) ≡ true → is_io line ≡ false → judged (at a (Behind more did)) line
        ≡ or_history (act_of_work (at a (Behind more did)) line did a)
    of_work act no_io =
        ap (λ (i : Bool). judged_at i (is_act (worker_of w)) (worker s)) no_io ∙ ap (λ (b : Bool). judged_at false b (worker s)) (ap is_act works ∙ act)
        ∙ ap (judged_at false true) (worker_is a (Behind more did) same)

    -- volume calls end the acts
    io_judged : is_io line ≡ true → is_legal did a ≡ true → judged (at a (Behind more did)) line ≡ Ok (settled (at a (Behind more did)) did)
    io_judged io legal =
        ap (λ (i : Bool). judged_at i (is_act (worker_of w)) (worker s)) io
        ∙ ap (judged_at true (is_act (worker_of w))) (worker_is a (Behind more did) same)
        ∙ ap (λ (l : Bool). or_history (if not l then None else Some (settled s did))) legal

  -- a loose track becomes firm
  pub harden_judged : (a : AuditedDevice) → a.number ≡ n → (did : Did) (t : ℕ) → is_loose_there (state_of a) t ≡ true →
      judged (at a (Behind true did)) (lines.Loose n (loose.Harden t)) ≡ Ok (at (record a { history = acted a.history (Harden t) }) (Behind true did))
  harden_judged a same did t is =
      of_work a same true did (lines.Loose n (loose.Harden t)) (same_number n) refl
      ∙ ap (λ (b : Bool). or_history (if b then Some (act_made (at a (Behind true did)) a (Harden t) (Behind true did)) else None)) is
      ∙ ap (λ (z : AuditState). Ok z) (changed_to a (record a { history = acted a.history (Harden t) }) (Behind true did) same same)

  -- a track becomes loose, and then nothing more
  pub loosen_judged : (a : AuditedDevice) → a.number ≡ n → (e : CommandEnd) (t : ℕ) → may_loosen a a.history.running t ≡ true →
      judged (at a (Behind true (Ended e))) (lines.Loose n (loose.Loosen t))
      ≡ Ok (at (record a { history = acted a.history (Loosen t) }) (Behind false (Ended e)))
  loosen_judged a same e t is =
      of_work a same true (Ended e) (lines.Loose n (loose.Loosen t)) (same_number n) refl
      ∙ ap (λ (b : Bool). or_history (if b then Some (act_made (at a (Behind true (Ended e))) a (Loosen t) (Behind false (Ended e))) else None)) is
      ∙ ap (λ (z : AuditState). Ok z) (changed_to a (record a { history = acted a.history (Loosen t) }) (Behind false (Ended e)) same same)

  -- Acts by which tracks become firm

  abbrev with_history : AuditedDevice → History → AuditedDevice
  with_history a h = record a { history = h }

  -- behind the lines that led to the work
  pub acts_lead : (a : AuditedDevice) → a.number ≡ n → (did : Did) (acts : List Act) → IsPlain a.plans a.empty a.history → NoLoss acts →
      AreActs (state_of a) None acts → (firsts : List ReportLine) → LeadsBy from firsts (at a (Behind true did)) →
      LeadsBy from (firsts ++ map (act_line n) acts) (at (with_history a (all_acted a.history acts)) (Behind true did))
  acts_lead a same did acts plain none are firsts leads =
      leads_on from (at a (Behind true did)) (at (with_history a (all_acted a.history acts)) (Behind true did)) firsts (map (act_line n) acts) leads
      (firm_acts_lead xs w later n (Behind true did) (λ b is t loose. harden_judged b is did t loose) a same acts plain none are)

  -- What follows the acts

  module _ (a : AuditedDevice) (same : a.number ≡ n) (more : Bool) (did : Did) (legal : is_legal did a ≡ true) where
    own : (worked a did).number ≡ n
    own = worked_number a did ∙ same

    legal_here : holds (worker (at a (Behind more did))) (is_legal did) ≡ true
    legal_here = ap (λ (k : Option AuditedDevice). holds k (is_legal did)) (worker_is a (Behind more did) same) ∙ legal

    -- no program is over
    pub settled_plainly : over_by a did a.history.running ≡ None → settled (at a (Behind more did)) did ≡ behind_event xs w later (worked a did) did
    settled_plainly none =
        let s = at a (Behind more did) in
        ap (settled_in s did) (worker_is a (Behind more did) same)
        ∙ ap (settled_by s a did) none
        ∙ ap (λ (l : List AuditedDevice). behind_work (record { devices = l; events = w ∷ later; due = Behind more did }) (worked a did) did)
        (put_again xs a (worked a did) (same ∙ sym own))

    settled_over : (line : ReportLine) → over_by a did a.history.running ≡ Some line → settled (at a (Behind more did)) did ≡ at (worked a did) (OverOf line)
    settled_over line is =
        let s = at a (Behind more did) in
        ap (settled_in s did) (worker_is a (Behind more did) same)
        ∙ ap (settled_by s a did) is
        ∙ changed_to a (worked a did) (OverOf line) same own

    over_judged : (line : ReportLine) → IsOver line → judged_due (at (worked a did) (OverOf line)) line (OverOf line)
        ≡ Ok (behind_event xs w later (worked a did) Halved)
    over_judged line is =
        let s = at (worked a did) (OverOf line) in
        ap (λ (b : Bool). if b then or_history (due_made s line (OverOf line)) else Err Place) is.0
        ∙ ap (λ (o : Option AuditedDevice). or_history (then_of o (λ b. shown line line (behind_work s b Halved))))
        (worker_is (worked a did) (OverOf line) own)
        ∙ ap (λ (b : Bool). or_history (if b then Some (behind_work s (worked a did) Halved) else None)) is.1

    abbrev Leads : List ReportLine → Option ReportLine → Type 0
    Leads ls o = LeadsTowards (at a (Behind more did)) ls (end_of xs w later a did o)

    module _ (o : Option ReportLine) (is : over_by a did a.history.running ≡ o)
        (over : (line : ReportLine) → o ≡ Some line → IsOver line × (is_of_work more (worker_of w) line ≡ false)) where
      -- no volume call: the program is over at once, or what was done is known at the next line
      quiet_tail : (k : Option ReportLine) → o ≡ k → Leads (line_if k) k
      quiet_tail None none = (at a (Behind more did), refl, is_waiting more did refl refl legal_here (settled_plainly (is ∙ none)))
      quiet_tail (Some line) found =
          let end = behind_event xs w later (worked a did) Halved in
          let so = waiting_judged (at a (Behind more did)) line more did refl (over line found).1 legal_here
          ∙ ap (λ (y : AuditState). judged_due y line y.due) (settled_over line (is ∙ found)) ∙ over_judged line (over line found).0
          in
          (end, (end, so, refl), is_there refl)

      -- volume calls, and the program that is over
      told_tail : (io : ReportLine) → is_io io ≡ true → (k : Option ReportLine) → o ≡ k → Leads (io ∷ line_if k) k
      told_tail io calls None none =
          let end = behind_event xs w later (worked a did) did in
          let so = io_judged a same more did io calls legal ∙ ap (λ (y : AuditState). Ok y) (settled_plainly (is ∙ none)) in
          (end, (end, so, refl), is_there refl)
      told_tail io calls (Some line) found =
          let z = at (worked a did) (OverOf line) in
          let end = behind_event xs w later (worked a did) Halved in
          let so = io_judged a same more did io calls legal ∙ ap (λ (y : AuditState). Ok y) (settled_over line (is ∙ found)) in
          (end, (z, so, (end, judged_over z line line refl ∙ over_judged line (over line found).0, refl)), is_there refl)

      tail_leads : (b : Bool) (reads writes : ℕ) → Leads ((if b then [] else lines.Io reads writes ∷ []) ++ line_if o) o
      tail_leads true reads writes = quiet_tail o refl
      tail_leads false reads writes = told_tail (lines.Io reads writes) refl o refl

      -- and all lines of the piece of work
      pub piece_leads : (h : Happened) → last_line h ≡ None → (acts : List ReportLine) (reads writes : ℕ) →
          LeadsBy from (first_lines h ++ acts) (at a (Behind more did)) →
          LeadsTowards from (in_order h acts reads writes (line_if o)) (end_of xs w later a did o)
      piece_leads h none acts reads writes leads =
          let tail = tail_leads ((reads == 0) && (writes == 0)) reads writes in
          let all = leads_on from (at a (Behind more did)) tail.0 (first_lines h ++ acts) (io_lines reads writes ++ line_if o) leads tail.1 in
          (tail.0, subst (λ (l : List ReportLine). LeadsBy from l tail.0) (ordered h none acts (io_lines reads writes) (line_if o)) all, tail.2)
