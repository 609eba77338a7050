-- What a loss of power tells of a device: the program that it cuts, and the loss of its data of cache fast write.
use Rattle.std.proofs.Common.{◌≡◌, ◌+◌, ◌++◌, ℕ, Bool, true, false, List, [], ◌∷◌, length, Option, Some, None, get_or, refl, sym, ap, ◌∙◌, append_assoc, if◌then◌else◌, arith, inl, inr}
use Rattle.std.specs.Prelude.{◌⊎◌}
use Rattle.std.proofs.lemmas.Bool.{eqb-true, true≢false}
use Rattle.std.proofs.lemmas.List.{append-nil}
use Rattle.plain_defs.specs.declared.journal.How.TheVariants.{Cut}
use Rattle.plain_defs.specs.declared.journal.Item.{Item}
use Rattle.plain_defs.specs.declared.journal.Item.TheVariants as items
use Rattle.plain_defs.specs.History.{History, OpenEntry, entry_of, lost_power_in}
use Rattle.plain_defs.specs.Journal.{program_of, replay}
use Rattle.plain_defs.specs.Legal.{is_started}
use Rattle.plain_defs.specs.PlainState.{PlainState}
use Rattle.plain_defs.proofs.JournalLaws.{replay-append}
use Rattle.device_defs.specs.Cutting.{counts_one_by}
use Rattle.device_defs.specs.Marks.{MarksDevice}
use Rattle.device_defs.specs.Store.{has_loose}
use Rattle.device_laws.proofs.HistoryCuts.{cut_entry, taken_state}
use Rattle.device_laws.proofs.HistoryEnds.{running_is_open}
use Rattle.device_laws.proofs.PlainCuts.{may, taken_by}
use Rattle.device_laws.proofs.PlainTurns.{Follows}
use Rattle.device_laws.proofs.WaitingResets.{started-append}
use Rattle.report_text.specs.declared.answers.HowOver.TheVariants as how
use Rattle.report_text.specs.declared.line.ReportLine.{ReportLine}
use Rattle.report_text.specs.declared.line.ReportLine.TheVariants as lines
use Rattle.report_text.specs.Events.{program_over_lines}
use Rattle.deck_audit.specs.declared.state.HalfWrite.TheVariants.{Closed}
use Rattle.deck_audit.specs.Device as A
use Rattle.deck_audit.specs.Device.{AuditedDevice, is_next_legal, state_of}
use Rattle.deck_audit.specs.History.{cut_by_power, loss_line, without_power}
use Rattle.run_report.specs.Beside.{loose_lines, over_lines, over_of}
use Rattle.run_report.proofs.ActsCome.{acts_both, same_program}
use Rattle.run_report.proofs.OneDevice.{none_behind}
use Rattle.run_report.proofs.Quiet.{behind_more}
use Rattle.subsystem_defs.specs.Beside.{acts_in, has_power, new_items}
use Rattle.subsystem_laws.proofs.PlainRuns.{Plainly}
use Rattle.audit_laws.specs.Standing.{audited}
use Rattle.audit_laws.proofs.own.CacheLines.{loss_told}
use Rattle.audit_laws.proofs.own.KnownDevices.{Marked, count_is, has_is, known, none_counted, some_counted}
use Rattle.audit_laws.proofs.own.LooseOnce.{StandOnce, items_once, part_once}
use Rattle.audit_laws.proofs.own.PowerDevices.{IsOff}
use Rattle.audit_laws.proofs.own.ResetDevices.{audited_by}
use Rattle.audit_laws.proofs.own.Resets.{few_more}

-- The device between the two lines, and each line

abbrev pub cut_line : AuditedDevice → OpenEntry → ℕ → ReportLine
cut_line a o more = lines.Over o.path a.number o.ordinal (how.Cut (length o.ends + more))

pub record IsUncut (x y : MarksDevice) (middle : AuditedDevice) : Type 0 where
  pub line_is : over_lines x y ≡ []
  pub middle_is : middle ≡ audited x

pub record IsCutNow (x y : MarksDevice) (middle : AuditedDevice) : Type 0 where
  pub o : OpenEntry
  pub more : ℕ
  pub running : x.history.running ≡ Some o
  pub line_is : over_lines x y ≡ cut_line (audited x) o more ∷ []
  pub middle_is : middle ≡ cut_by_power (audited x) o more
  pub few : (more ≡ 0) ⊎ ((more ≡ 1) × (is_next_legal (audited x) x.history.running ≡ true))

pub record IsKept (x y : MarksDevice) (middle : AuditedDevice) : Type 0 where
  pub line_is : loose_lines x y ≡ []
  pub none : A.has_loose middle ≡ false

pub record IsGone (x y : MarksDevice) (middle : AuditedDevice) : Type 0 where
  pub line_is : loose_lines x y ≡ loss_line middle ∷ []
  pub some : A.has_loose middle ≡ true

pub record IsOffTold (x y : MarksDevice) : Type 0 where
  pub middle : AuditedDevice
  pub number : middle.number ≡ x.store.device
  pub idle : middle.history.running ≡ None
  pub behind : without_power middle ≡ audited y
  pub over : IsUncut x y middle ⊎ IsCutNow x y middle
  pub loose : IsKept x y middle ⊎ IsGone x y middle

module _ (x y : MarksDevice) (p : Plainly x) (f : Follows p.number p.empty y) (g : IsOff p.number p.empty x p.follows y) where
  abbrev more : ℕ
  more = counts_one_by x.store.half

  -- the data of a device that is marked so
  loose_of : (middle : AuditedDevice) → middle.number ≡ x.store.device → Marked middle x.store → acts_in y.history ≡ acts_in x.history →
      (lost : Bool) → has_power (new_items x.history y.history) ≡ lost → (lost ≡ false → has_loose x.store ≡ false) →
      IsKept x y middle ⊎ IsGone x y middle
  loose_of middle number k acts lost power firm = grind (arith, none_behind, firm, some_counted, loss_told, count_is, has_is, none_counted)

  as_audited : (k : History) → y.history ≡ k → audited y ≡ record (audited x) { history = k; half = Closed }
  as_audited k is = grind (arith, audited_by)

  -- A program runs

  module _ (o : OpenEntry) (running : x.history.running ≡ Some o) where
    abbrev entry : Item
    entry = entry_of o (Cut (length o.ends + counts_one_by x.store.half))

    abbrev now : History
    now = record { items = x.history.items ++ entry_of o (Cut (length o.ends + counts_one_by x.store.half)) ∷ items.Power ∷ []; running = None; waiting = [] }

    history_is : y.history ≡ now
    history_is = g.history ∙ ap (λ (r : Option OpenEntry). lost_power_in x.history (counts_one_by x.store.half) r) running

    items_are : new_items x.history y.history ≡ entry ∷ items.Power ∷ []
    items_are = ap (λ (k : History). new_items x.history k) history_is ∙ behind_more x.history.items (entry ∷ items.Power ∷ [])

    acts_are : acts_in y.history ≡ acts_in x.history
    acts_are = grind (arith, history_is, append-nil, acts_both, same_program)

    abbrev cut : AuditedDevice
    cut = cut_by_power (audited x) o (counts_one_by x.store.half)

    abbrev taken : PlainState → PlainState
    taken e = taken_state x.plans (replay x.plans e x.history.items) o (counts_one_by x.store.half)

    state_is : state_of cut ≡ taken (audited x).empty
    state_is = replay-append x.plans (audited x).empty x.history.items (entry ∷ [])

    taken_once : StandOnce (taken (audited x).empty).loose
    taken_once =
        rw (← p.base) (let s = replay x.plans p.empty x.history.items in let k = counts_one_by x.store.half in part_once s o.path
        (program_of x.plans o.path o.ordinal) o.acts (length o.ends + k) (cut_entry x.plans s x.history.items o
        (running_is_open x.plans p.empty x.history p.follows.stands.plain p.follows.stands.due o running) k
        (may p.number p.empty x p.follows o running)).acts (items_once x.plans p.empty [] x.history.items (rw p.base tt) p.follows.stands.plain.legal))

    marked : Marked cut x.store
    marked = grind (arith, state_is, get_or, taken_once, known, taken_by)

    started : is_started false (x.history.items ++ entry ∷ []) ≡ true
    started = started-append false x.history.items (entry ∷ [])

    behind_is : without_power cut ≡ audited y
    behind_is = grind (arith, started, append_assoc, as_audited, history_is)

    running_told : IsOffTold x y
    running_told = record {
      middle = cut;
      number = refl;
      idle = refl;
      behind = behind_is;
      over = inr (record {
        o = o;
        more = counts_one_by x.store.half;
        running = running;
        line_is = ap (λ (l : List Item). program_over_lines (over_of x.store.device l)) items_are;
        middle_is = refl;
        few = few_more x p o running;
      });
      loose = loose_of cut refl marked acts_are true (ap has_power items_are) (λ is. absurd (true≢false is));
    }

  -- None runs

  module _ (none : x.history.running ≡ None) where
    abbrev after : Bool → History
    after b = if b then record { items = x.history.items ++ items.Power ∷ []; running = None; waiting = [] } else x.history

    stopped : y.history ≡ after (is_started false x.history.items)
    stopped = g.history ∙ ap (λ (r : Option OpenEntry). lost_power_in x.history (counts_one_by x.store.half) r) none

    items_by : (b : Bool) → (over_of x.store.device (new_items x.history (after b)) ≡ None) × (has_power (new_items x.history (after b)) ≡ b)
        × (acts_in (after b) ≡ acts_in x.history)
    items_by b = grind (arith, behind_more, append-nil, acts_both, same_program, none_behind)

    -- before the first start there are no such data
    firm : is_started false x.history.items ≡ false → has_loose x.store ≡ false
    firm not_yet = grind (arith, stopped, eqb-true)

    idle_told : IsOffTold x y
    idle_told =
        let b = is_started false x.history.items in
        let i = items_by b in
        record {
          middle = audited x;
          number = refl;
          idle = none;
          behind = ap (λ (k : History). record (audited x) { history = k; half = Closed })
              (ap (λ (r : Option OpenEntry). lost_power_in x.history 0 r) none)
              ∙ sym (as_audited (after b) stopped);
          over = inl (record {
            line_is = ap (λ (k : History). program_over_lines (over_of x.store.device (new_items x.history k))) stopped ∙ ap program_over_lines i.0;
            middle_is = refl;
          });
          loose = loose_of (audited x) refl (known x p) (ap acts_in stopped ∙ i.2) b (ap (λ (k : History). has_power (new_items x.history k)) stopped ∙ i.1) firm;
        }

  by_running : (r : Option OpenEntry) → x.history.running ≡ r → IsOffTold x y
  by_running r is = grind (arith, running_told, idle_told)

  pub power_told_of : IsOffTold x y
  power_told_of = by_running x.history.running refl
