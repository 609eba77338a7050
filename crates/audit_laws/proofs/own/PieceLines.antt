-- What an event of one device tells beside what it did: its acts, and the program that is over.
use Rattle.std.proofs.Common.{arith, ◌≡◌, ℕ, Bool, false, List, ◌∷◌, map, Option, Some, None, ap, ◌∙◌, if◌then◌else◌}
use Rattle.std.proofs.lemmas.List.{append-nil}
use Rattle.ckd_types.specs.declared.channel.CommandEnd.{CommandEnd}
use Rattle.plain_defs.specs.declared.journal.Act.{Act}
use Rattle.plain_defs.specs.declared.journal.How.TheVariants.{Checked, Full}
use Rattle.plain_defs.specs.declared.journal.Item.{Item}
use Rattle.plain_defs.specs.History.{History, OpenEntry, checked, closed, ended, entry_of, resets_of, with_end}
use Rattle.device_defs.specs.Device.{all_acted}
use Rattle.device_defs.specs.Marks.{MarksDevice}
use Rattle.report_text.specs.declared.answers.HowOver.TheVariants as how
use Rattle.report_text.specs.declared.event.Happened.{Happened}
use Rattle.report_text.specs.declared.line.ReportLine.{ReportLine}
use Rattle.report_text.specs.Events.{in_order, line_if, program_over_lines}
use Rattle.run_report.specs.Beside.{loose_lines, over_lines, over_of}
use Rattle.run_report.specs.OneDevice.{device_lines}
use Rattle.run_report.proofs.ActsCome.{acts_before_check, acts_before_end}
use Rattle.run_report.proofs.OneDevice.{none_behind}
use Rattle.run_report.proofs.Quiet.{behind_more}
use Rattle.subsystem_defs.specs.Beside.{has_power, new_acts, new_items}
use Rattle.audit_laws.proofs.own.ActLines.{acts_lines, acts_over, told_acts}
use Rattle.audit_laws.specs.Standing.{audited}
use Rattle.audit_laws.specs.Steps.{NoLoss, act_line, over_if, over_told}
use Rattle.audit_laws.proofs.own.CameOut.{acts_run, with_acts}
use Rattle.audit_laws.proofs.own.Quiet.{no_power}

pub record TellsBeside (x y : MarksDevice) (acts : List Act) (over : Option ReportLine) : Type 0 where
  pub loose : loose_lines x y ≡ map (act_line x.store.device) acts
  pub over_is : over_lines x y ≡ line_if over

tells_by : (x y : MarksDevice) (acts : List Act) (over : Option ReportLine) (k : History) → y.history ≡ k → NoLoss acts → new_acts x.history k ≡ acts →
    has_power (new_items x.history k) ≡ false →
    program_over_lines (over_of x.store.device (new_items x.history k)) ≡ line_if over → TellsBeside x y acts over
tells_by x y acts over k is none came power told = grind (arith, told_acts x.store.device x.store y.store acts none, append-nil)

module _ (x y : MarksDevice) (acts : List Act) (none : NoLoss acts) where
  pub acted_tells : y.history ≡ all_acted x.history acts → TellsBeside x y acts None
  acted_tells is = record { loose = acts_lines x y acts is none; over_is = acts_over x y acts is }

  module _ (o : OpenEntry) (running : x.history.running ≡ Some o) (e : CommandEnd) where
    abbrev later : OpenEntry
    later = with_acts o acts

    abbrev now : History
    now = record x.history { running = Some (with_acts o acts) }

    abbrev ended_as : Bool → History
    ended_as b = if b then closed (record x.history { running = Some (with_acts o acts) }) (with_end (with_acts o acts) e) Full
        else record x.history { running = Some (with_end (with_acts o acts) e) }

    power_by : (b : Bool) → has_power (new_items x.history (ended_as b)) ≡ false
    power_by b = grind (arith, behind_more, no_power, none_behind)

    over_by : (b : Bool) →
        program_over_lines (over_of x.store.device (new_items x.history (ended_as b))) ≡ line_if (over_if b (over_told (audited x) o how.Full))
    over_by b = grind (arith, behind_more, none_behind)

    -- a command that ended
    pub ended_tells : y.history ≡ ended (all_acted x.history acts) e → TellsBeside x y acts (over_if e.over (over_told (audited x) o how.Full))
    ended_tells is =
        let same : ended (all_acted x.history acts) e ≡ ended_as e.over = ap (λ (h : History). ended h e) (acts_run acts x.history o running) in
        tells_by x y acts (over_if e.over (over_told (audited x) o how.Full)) (ended (all_acted x.history acts) e) is none (acts_before_end x.history acts e)
        (ap (λ (h : History). has_power (new_items x.history h)) same ∙ power_by e.over)
        (ap (λ (h : History). program_over_lines (over_of x.store.device (new_items x.history h))) same ∙ over_by e.over)

    -- or was checked
    pub checked_tells : y.history ≡ checked (all_acted x.history acts) e → TellsBeside x y acts (Some (over_told (audited x) o how.Checked))
    checked_tells is =
        let came = ap (λ (h : History). new_items x.history h) (ap (λ (h : History). checked h e) (acts_run acts x.history o running))
        ∙ behind_more x.history.items (entry_of (with_end later e) Checked ∷ resets_of x.history.waiting) in
        tells_by x y acts (Some (over_told (audited x) o how.Checked)) (checked (all_acted x.history acts) e) is none (acts_before_check x.history acts e)
        (ap has_power came ∙ no_power x.history.waiting) (ap (λ (l : List Item). program_over_lines (over_of x.store.device l)) came)

-- all lines of the event
pub lines_are : (x y : MarksDevice) (acts : List Act) (over : Option ReportLine) (h : Happened) (reads writes : ℕ) → TellsBeside x y acts over →
    device_lines h reads writes x y ≡ in_order h (map (act_line x.store.device) acts) reads writes (line_if over)
lines_are x y acts over h reads writes t = cc (t.loose, t.over_is)
