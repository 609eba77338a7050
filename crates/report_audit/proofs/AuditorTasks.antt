-- What an auditor makes of lines that concern no device, or all.
use Rattle.std.proofs.Common.{◌≡◌, ℕ, List, length, drop, Some, None, Bool, true, false, cond, arith, ap, ◌∙◌}
use Rattle.std.specs.Prelude.{◌==◌, map}
use Rattle.std.specs.List.{list_any}
use Rattle.std.proofs.lemmas.List.{length-map}
use Rattle.deck_plan.specs.declared.event.EventLine.{EventLine}
use Rattle.deck_plan.specs.declared.event.EventLine.TheVariants as events
use Rattle.report_text.specs.declared.line.ReportLine.{ReportLine}
use Rattle.report_audit.specs.Auditor.{AllKept, FitsTotals, IsAuditOf, IsFor, Makes, NoneRuns, cut_at, dark_kept, gone_on, is_quiet, kept_outline, lent_runs}
use Rattle.report_audit.specs.Auditor.{loose_at, order_told, taken_back, totals_due}
use Rattle.report_audit.specs.declared.auditor.Auditor.{Auditor}
use Rattle.report_audit.specs.declared.told.OrderTold.TheVariants as told
use Rattle.deck_audit.specs.declared.kept.Kept.{Kept}
use Rattle.deck_audit.specs.declared.kept.Then.TheVariants.{Passed, Wait}
use Rattle.deck_audit.specs.declared.state.Due.{Due}
use Rattle.deck_audit.specs.declared.state.Due.TheVariants.{ResetOf, Totals}
use Rattle.deck_audit.specs.declared.state.Outline.{Outline}
use Rattle.deck_audit.specs.Device.{AuditedDevice, device_in, outline_of}
use Rattle.deck_audit.specs.History.{done_order, due_made, given_back, lent_to, order_made, power_made, runs_lent, totals_made, without_power}
use Rattle.deck_audit.specs.Place.{IsDueOf, in_due, in_power, in_totals}
use Rattle.deck_audit.specs.Stands.{in_state}
use Rattle.deck_audit.specs.State.{AuditState, outlines, passed, then_of}
use Rattle.report_audit.proofs.AllDevices.{all_back, all_dark, any_alike}
use Rattle.report_audit.proofs.AuditorDues.{all_here, passes_so, waits_so}
use Rattle.report_audit.proofs.AuditorLines.{behind_event}
use Rattle.report_audit.proofs.AuditorPlaces.{done_made, done_told, totals_left}
use Rattle.report_audit.proofs.OutlineLaw.{outlines_are}

-- Where a line may stand

pub placed_is : (z : Auditor) (s : AuditState) (f : IsFor z s) (line : ReportLine) (due : Due) → due ≡ s.due
    → (o : List Outline) → o ≡ z.outlines.items → (e : List EventLine) → e ≡ drop z.passed z.deck.events
    → (x : Bool) → (IsDueOf (length o) due → x ≡ in_due o e line due) → x ≡ in_state s line
placed_is z s f line due due_is o o_is e e_is x is = grind (arith, outlines_are, length-map)

module _ (z : Auditor) (s : AuditState) (f : IsFor z s) (quiet : is_quiet s.due ≡ true) where
  -- The totals

  same_count : length z.devices.items ≡ length s.devices
  same_count = grind (arith, length-map z.devices.items kept_outline, length-map s.devices outline_of, outlines_are z s f)

  pub totals_audit : (n : ℕ) → n ≡ length z.devices.items → (line : ReportLine) (k : ℕ) → FitsTotals s line k
      → IsAuditOf (gone_on z (Wait (totals_due n line k))) (totals_made s line k)
  totals_audit n n_is line k fits = grind (arith, same_count, waits_so)

  -- An event is over that changes all devices

  pub all_changed : (y : Auditor) → y.deck ≡ z.deck → y.passed ≡ z.passed → (ks : List Kept) (ds : List AuditedDevice)
      → y.devices.items ≡ ks → AllKept z.deck.programs ks ds → y.outlines.items ≡ map kept_outline y.devices.items
      → IsAuditOf (gone_on y Passed) (passed (record s { devices = ds }))
  all_changed y deck_is passed_is ks ds items_are all outlines_so = grind (arith, behind_event)

  -- The end of a pair

  module _ (n : ℕ) (l : List Kept) (same : l ≡ z.devices.items) (b : Bool) (is : b ≡ list_any (lent_runs n) l) where
    lent_is : list_any (runs_lent n) s.devices ≡ b
    lent_is = grind (arith, any_alike, all_here)

    pub unpair_none : b ≡ true → done_order s (events.Unpair n) ≡ None
    unpair_none runs = ap (λ (x : Bool). cond x None (Some (passed (record s { devices = map (given_back n) s.devices })))) (lent_is ∙ runs)

    pub unpair_some : b ≡ false → (y : Auditor) → y.deck ≡ z.deck → y.passed ≡ z.passed
        → y.devices.items ≡ map (taken_back n) z.devices.items → y.outlines.items ≡ map kept_outline y.devices.items
        → Makes true (gone_on y Passed) (done_order s (events.Unpair n))
    unpair_some idle y deck_is passed_is items_are outlines_so = grind (arith, lent_is, all_changed y deck_is passed_is (map (taken_back n) z.devices.items) (map (given_back n) s.devices) items_are (all_back z.deck.programs n z.devices.items s.devices (all_here z s f quiet) (lent_is ∙ idle)) outlines_so, all_back z.deck.programs n z.devices.items s.devices (all_here z s f quiet) (lent_is ∙ idle), all_here z s f quiet)

  -- Orders that change nothing

  pub pair_same : (a b : ℕ) → (a == b) ≡ true → Makes true (gone_on z Passed) (done_order s (events.Pair a b))
  pair_same a b is = (passed s, ap (λ (x : Bool). cond x (Some (passed s)) (then_of (device_in s.devices b) (lent_to s a))) is, passes_so z s f quiet)

  pub done_other : (event : EventLine) → ((a b : ℕ) → event ≡ events.Pair a b → ⊥) → ((a : ℕ) → event ≡ events.Unpair a → ⊥)
      → Makes true (gone_on z Passed) (done_order s event)
  done_other event unlike other = grind (arith, passes_so)

  pub order_other : (line : ReportLine) (event : EventLine) → order_told line ≡ told.Other
      → Makes true (gone_on z Passed) (order_made s line event)
  order_other line event is = grind (arith, passes_so)

  -- A loss of power

  pub power_done : (line : ReportLine) (k : ℕ) → loose_at line ≡ None → cut_at line ≡ None → NoneRuns k s.devices
      → in_power line (drop k (outlines s)) ≡ true → (y : Auditor) → y.deck ≡ z.deck → y.passed ≡ z.passed
      → y.devices.items ≡ map dark_kept z.devices.items → y.outlines.items ≡ map kept_outline y.devices.items
      → Makes true (gone_on y Passed) (power_made s line)
  power_done line k no_loose no_cut none may y deck_is passed_is items_are outlines_so = grind (arith, done_made line no_loose no_cut s, all_changed y deck_is passed_is (map dark_kept z.devices.items) (map without_power s.devices) items_are (all_dark z.deck.programs z.devices.items s.devices (all_here z s f quiet) (done_told line no_loose no_cut k s.devices none may)) outlines_so, all_dark z.deck.programs z.devices.items s.devices (all_here z s f quiet) (done_told line no_loose no_cut k s.devices none may), all_here z s f quiet, done_told line no_loose no_cut k s.devices none may)

-- What is due says what the line may be

pub totals_fit : (s : AuditState) (line : ReportLine) (k : ℕ) → s.due ≡ Totals k → in_totals (outlines s) line k ≡ true → FitsTotals s line k
totals_fit s line k is may = grind (arith, totals_left, length-map)

pub reset_passed : (z : Auditor) (s : AuditState) → IsFor z s → (line : ReportLine) (due : Due) → due ≡ s.due → due ≡ ResetOf
    → Makes true (gone_on z Passed) (due_made s line due)
reset_passed z s f line due is reset = grind (arith, passes_so)
