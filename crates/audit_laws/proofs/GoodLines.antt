-- A line without a fault shows what the audit makes of it.
use Rattle.std.proofs.Common.{◌≡◌, ℕ, List, Option, Some, None, Bool, true, false, cond, not}
use Rattle.std.proofs.Common.{refl, arith, sym, ap, map, subst, ◌∙◌, inl, inr}
use Rattle.std.specs.Prelude.{◌⊎◌, ◌&&◌}
use Rattle.std.proofs.lemmas.Bool.{and_parts, eqb-true}
use Rattle.ckd_types.specs.declared.channel.CommandEnd.{CommandEnd}
use Rattle.ckd_types.specs.Sense.{equipment_sense}
use Rattle.deck_plan.specs.declared.event.EventLine.{EventLine}
use Rattle.deck_plan.specs.declared.event.EventLine.TheVariants as events
use Rattle.plain_defs.specs.History.{History, OpenEntry}
use Rattle.report_text.specs.declared.answers.StartAnswer.TheVariants as start
use Rattle.report_text.specs.declared.line.ReportLine.{ReportLine}
use Rattle.deck_audit.specs.declared.state.Did.{Did}
use Rattle.deck_audit.specs.declared.state.Due.{Due}
use Rattle.deck_audit.specs.declared.state.Due.TheVariants.{Next, SenseOf, Behind, ResetOf, Powers}
use Rattle.deck_audit.specs.declared.state.HalfWrite.TheVariants.{Closed}
use Rattle.deck_audit.specs.Place.{holds, is_io, is_of_work}
use Rattle.deck_audit.specs.Device.{AuditedDevice, check_end, device_in, lent_answer, own_runs}
use Rattle.deck_audit.specs.Device.{start_answer, words_of_open}
use Rattle.deck_audit.specs.History.{act_made, act_of_work, after_start, back_half, behind_end, behind_made, changed, cut_half, cut_open, done_order, due_made}
use Rattle.deck_audit.specs.History.{end_made, end_made_by, event_made, given_back, harden_made, is_legal, lent_to, loosen_made, loss_line, loss_made}
use Rattle.deck_audit.specs.History.{next_made, order_made, place_of, power_cut, power_loss, power_made, reset_made, runs_lent, shown, shows_end}
use Rattle.deck_audit.specs.History.{start_made, totals_made, without_power, work_made}
use Rattle.deck_audit.specs.History as made
use Rattle.deck_audit.specs.State.{AuditState, passed, settled, then_of, worker, worker_number}
use Rattle.audit_laws.specs.Shown.{ActShows, BehindShows, CanAllBePlain, DueShows, EndIs, EventShows, NextShows, PowerShows}
use Rattle.audit_laws.specs.Shown.{ResetShows, ShowsIn, StartShows, WorkShows, cut_as, dark_as, looks_checked}
use Rattle.audit_laws.proofs.Lines.{if_some, same_some, then_some}
use Rattle.audit_laws.proofs.ShownWork.{reset_is}
use Rattle.audit_laws.proofs.Sound.{starts_idle}

abbrev pub awaits_sense : Due → Bool
awaits_sense (SenseOf e) = true
awaits_sense due = false

-- a sense is awaited, and lines may tell of another end of that word than the plain device's
pub record Awaits (s w : AuditState) : Type 0 where
  pub own : CommandEnd
  pub told : CommandEnd
  pub due : s.due ≡ SenseOf own
  pub is : w ≡ record s { due = SenseOf told }
  pub word : told.index ≡ own.index

abbrev pub Near : AuditState → AuditState → Type 0
Near s w = (w ≡ s) ⊎ Awaits s w

pub near_same : (s w : AuditState) → Near s w → awaits_sense s.due ≡ false → w ≡ s
near_same s w x2 none = grind arith

-- An accepted START

module _ (a : AuditedDevice) (path n : ℕ) where
  own_by : (b : Bool) → cond b start.Running (lent_answer a path a.lent) ≡ start.Accepted n → a.lent ≡ None
  own_by b is = grind arith

  starts_own : start_answer a path ≡ start.Accepted n → a.lent ≡ None
  starts_own is = own_by (own_runs a.history.running path) is

module _ (s t w : AuditState) (near : Near t w) where
  same : (x : AuditState) → x ≡ t → awaits_sense x.due ≡ false → w ≡ x
  same x is none = near_same t w near (ap (λ (y : AuditState). awaits_sense y.due) (sym is) ∙ none) ∙ sym is

  kept : (x : Option AuditState) → x ≡ Some t → awaits_sense t.due ≡ false → x ≡ Some w
  kept x is none = is ∙ ap (λ (y : AuditState). Some y) (sym (near_same t w near none))

  some_due : (x : AuditState) → Some x ≡ Some t → awaits_sense x.due ≡ false → awaits_sense t.due ≡ false
  some_due x is none = ap (λ (y : AuditState). awaits_sense y.due) (sym (same_some x t is)) ∙ none

  -- START

  start_good : (line : ReportLine) (path : ℕ) (a : AuditedDevice) → start_made s line path a ≡ Some t → StartShows s line path a w
  start_good line path a is = grind (arith, if_some, starts_own, starts_idle, same)

  -- END

  module _ (line : ReportLine) (a : AuditedDevice) (o : OpenEntry) (p : CommandEnd) where
    abbrev at : Due → AuditState
    at due = record (changed s (record a { half = Closed })) { due = due }

    awaited : (due : Due) → at due ≡ t → due ≡ SenseOf p → shows_end a o line (check_end (words_of_open a o) p.index equipment_sense) ≡ true → Near t w
        → (e : CommandEnd) × EndIs (changed s (record a { half = Closed })) line a o e (looks_checked a o line e) w
    awaited due is sense told (inl here) =
        (p, subst (λ (b : Bool). EndIs (changed s (record a { half = Closed })) line a o p b w) (sym told) (here ∙ sym is ∙ ap at sense))
    awaited due is sense told (inr waits) = grind arith

    no_sense : (sent : List ℕ) → awaits_sense (behind_end p sent) ≡ false
    no_sense sent = grind arith

    end_tests : (b : Bool) → shows_end a o line (check_end (words_of_open a o) p.index equipment_sense) ≡ b
        → cond b (Some (at (SenseOf p))) (cond (shows_end a o line p) (Some (at (behind_end p p.sent))) None) ≡ Some t
        → (e : CommandEnd) × EndIs (changed s (record a { half = Closed })) line a o e (looks_checked a o line e) w
    end_tests true told is = awaited (SenseOf p) (same_some (at (SenseOf p)) t is) refl told near
    end_tests false told is =
        let parts = if_some (shows_end a o line p) (at (behind_end p p.sent)) t is in (
          p,
          subst (λ (b : Bool). EndIs (changed s (record a { half = Closed })) line a o p b w) (sym told)
              (parts.0, same (at (behind_end p p.sent)) parts.1 (no_sense p.sent)),
        )

  end_by : (line : ReportLine) (a : AuditedDevice) (o : OpenEntry) (end : Option CommandEnd) → end_made_by s line a o end ≡ Some t
      → (e : CommandEnd) × EndIs (changed s (record a { half = Closed })) line a o e (looks_checked a o line e) w
  end_by line a o end is = grind (arith, end_tests)

  passed_good : Some (passed s) ≡ Some t → Some (passed s) ≡ Some w
  passed_good is = kept (Some (passed s)) is (some_due (passed s) is refl)

  work_good : (line : ReportLine) (a : AuditedDevice) → work_made s line a ≡ Some t → WorkShows s line a w
  work_good line a is = grind (arith, end_by, kept, some_due, passed_good)

  -- Orders

  unpair_due : (a : ℕ) (b : Bool) → cond b None (Some (passed (record s { devices = map (given_back a) s.devices }))) ≡ Some t → awaits_sense t.due ≡ false
  unpair_due a b is = grind (arith, some_due)

  done_due : (event : EventLine) → done_order s event ≡ Some t → awaits_sense t.due ≡ false
  done_due event is = grind (arith, some_due, then_some, unpair_due)

  -- Cuts

  module _ (a : AuditedDevice) (o : OpenEntry) (running : a.history.running ≡ Some o) (k : ℕ) where
    abbrev reset_at : ℕ → AuditState
    reset_at n = record (changed s (record a { history = cut_as a.history o n; half = cut_half a.half })) { due = ResetOf }

    abbrev with_history : History → AuditState
    with_history h = record (changed s (record a { history = h; half = cut_half a.half })) { due = ResetOf }

    reset_cut : made.cut_by s a o k ≡ Some t → w ≡ reset_at k
    reset_cut is = grind (arith, same, same_some, eqb-true, if_some, and_parts, reset_is)

    abbrev dark_at : ℕ → AuditState
    dark_at n = record (changed s (record a { history = dark_as a.history o n })) { due = Powers (place_of s.devices a.number) }

    dark_cut : power_cut s a k o ≡ Some t → w ≡ dark_at k
    dark_cut is = grind (arith, same, same_some, eqb-true, if_some, and_parts)

  reset_good : (line : ReportLine) (path : ℕ) (a : AuditedDevice) → reset_made s line path a ≡ Some t → ResetShows s line path a w
  reset_good line path a is = grind (arith, then_some, reset_cut, kept, some_due)

  power_good : (line : ReportLine) → power_made s line ≡ Some t → PowerShows s line w
  power_good line is = grind (arith, then_some, dark_cut, kept, if_some, some_due)

  -- Every line

  event_good : (line : ReportLine) (event : EventLine) → event_made s line event ≡ Some t → EventShows s line event w
  event_good line (events.Start path d) is = grind (arith, then_some, start_good)
  event_good line (events.Step d) is = let x = then_some (device_in s.devices d) (work_made s line) t is in (x.0, x.1, work_good line x.0 x.2)
  event_good line (events.Run d) is = let x = then_some (device_in s.devices d) (work_made s line) t is in (x.0, x.1, work_good line x.0 x.2)
  event_good line (events.Back d) is = let x = then_some (device_in s.devices d) (work_made s line) t is in (x.0, x.1, work_good line x.0 x.2)
  event_good line (events.Settle d) is = let x = then_some (device_in s.devices d) (work_made s line) t is in (x.0, x.1, work_good line x.0 x.2)
  event_good line (events.Reset path d) is =
      let x = then_some (device_in s.devices d) (reset_made s line path) t is in (x.0, x.1, reset_good line path x.0 x.2)
  event_good line events.Power is = power_good line is
  event_good line event is = grind (arith, then_some, if_some, same, and_parts, kept, done_due, passed_good)

  totals_due : (line : ReportLine) (k : ℕ) → awaits_sense s.due ≡ false → awaits_sense (totals_made s line k).due ≡ false
  totals_due line k none = grind arith

  next_good : (line : ReportLine) (es : List EventLine) → awaits_sense s.due ≡ false → next_made s line es ≡ Some t → NextShows s line es w
  next_good line es none is = grind (arith, event_good, same, same_some, totals_due)

  work_due : (b : Bool) → awaits_sense (cond b (passed s) (record s { due = Next })).due ≡ false
  work_due b = grind arith

  pub due_good : (line : ReportLine) (due : Due) → awaits_sense s.due ≡ false → awaits_sense due ≡ false → due_made s line due ≡ Some t
      → DueShows s line due w
  due_good line due none other is = grind (arith, next_good, kept, if_some, then_some, work_due, same, and_parts, done_due, passed_good, some_due, power_good, totals_due)

  -- Behind a piece of work

  act_good : (line : ReportLine) (did : Did) (a : AuditedDevice) → act_of_work s line did a ≡ Some t → ActShows s line did a w
  act_good line did a is = grind (arith, same, if_some)

pub holds_some : {T : Type 0} (x : Option T) (is : T → Bool) → holds x is ≡ true → (y : T) × (x ≡ Some y)
holds_some x is so = grind arith

settled_due : (s : AuditState) (did : Did) (a : AuditedDevice) → worker s ≡ Some a → awaits_sense (settled s did).due ≡ false
settled_due s did a works = grind arith

module _ (s t w : AuditState) (near : Near t w) (line : ReportLine) (more : Bool) (did : Did)
    (can : holds (worker s) (is_legal did) ≡ true → CanAllBePlain (settled s did)) where
  settled_good : (io : Bool) → holds (worker s) (is_legal did) ≡ true
      → cond io (Some (settled s did)) (due_made (settled s did) line (settled s did).due) ≡ Some t → BehindShows s line did false io w
  settled_good true legal is = grind (arith, holds_some, same, same_some, settled_due)
  settled_good false legal is =
      let a = holds_some (worker s) (is_legal did) legal in
      let none = settled_due s did a.0 a.1 in
      (a.0, a.1, (can legal, due_good (settled s did) t w near line (settled s did).due none none is))

  behind_by : (act io : Bool) → cond act (then_of (worker s) (act_of_work s line did)) (cond (not (holds (worker s) (is_legal did))) None
      (cond io (Some (settled s did)) (due_made (settled s did) line (settled s did).due))) ≡ Some t → BehindShows s line did act io w
  behind_by act io is = grind (arith, then_some, act_good, settled_good)

  pub behind_good : behind_made s line more did ≡ Some t → ShowsIn s line (Behind more did) w
  behind_good is = behind_by (is_of_work more (worker_number s) line && not (is_io line)) (is_io line) is
