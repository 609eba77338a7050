-- What a line's place says of the devices of an audited state.
use Rattle.std.proofs.Common.{[], ◌≡◌, ◌≤◌, ◌+◌, ℕ, zero, suc, List, ◌∷◌, length, drop, Option, Some, None, Bool, true, false, cond, refl, arith}
use Rattle.std.specs.Prelude.{◌==◌, ◌&&◌, map}
use Rattle.std.proofs.lemmas.List.{length-drop}
use Rattle.deck_plan.specs.declared.event.EventLine.TheVariants as events
use Rattle.plain_defs.specs.History.{OpenEntry, reset_in_history}
use Rattle.report_text.specs.declared.answers.DeviceTotals.{DeviceTotals}
use Rattle.report_text.specs.declared.answers.HowOver.TheVariants as how
use Rattle.report_text.specs.declared.answers.LooseAnswer.{LooseAnswer}
use Rattle.report_text.specs.declared.line.ReportLine.{ReportLine}
use Rattle.report_text.specs.declared.line.ReportLine.TheVariants as lines
use Rattle.report_audit.specs.Auditor.{NoneRuns, cut_at, loose_at}
use Rattle.deck_audit.specs.declared.state.Outline.{Outline}
use Rattle.deck_audit.specs.Device.{AuditedDevice, device_in, open_program, outline_of, own_runs}
use Rattle.deck_audit.specs.History.{place_of, power_cut, power_loss, power_made, reset_made, changed, without_power}
use Rattle.deck_audit.specs.Place.{in_event, in_power, in_power_of, in_totals, in_totals_of, is_loss_of, may_reset}
use Rattle.deck_audit.specs.State.{AuditState, outlines, passed, then_of}
use Rattle.report_audit.proofs.AuditorDues.{outline_is}

-- A line that tells of no cut

not_own : (path d : ℕ) (a : Outline) (line : ReportLine) (running : Option OpenEntry) → cut_at line ≡ None
    → may_reset path d a line (open_program running) ≡ true → own_runs running path ≡ false
not_own path d a line running none may = grind arith

-- a RESET that cuts none is of another path than the one whose program runs
pub reset_fits : (s : AuditState) (path d : ℕ) (line : ReportLine) → cut_at line ≡ None → in_event (outlines s) line (events.Reset path d) ≡ true
    → (a : AuditedDevice) → device_in s.devices d ≡ Some a → own_runs a.history.running path ≡ false
reset_fits s path d line none may a is = grind (arith, not_own, outline_is s.devices d a is)

abbrev device_of_cut : Option (ℕ × ℕ) → ℕ
device_of_cut (Some (d, n)) = d
device_of_cut None = 0

abbrev count_of_cut : Option (ℕ × ℕ) → ℕ
count_of_cut (Some (d, n)) = n
count_of_cut None = 0

pub reset_whole : (s : AuditState) (line : ReportLine) (path d : ℕ) → cut_at line ≡ None
    → then_of (device_in s.devices d) (reset_made s line path)
    ≡ then_of (device_in s.devices d) (λ a. Some (passed (changed s (record a { history = reset_in_history a.history path 0 }))))
reset_whole s line path d is = grind arith

-- A loss of power

none_step : (b : Bool) (n : ℕ) (a : AuditedDevice) (ds : List AuditedDevice) → a.history.running ≡ None → (b ≡ false → NoneRuns n ds)
    → NoneRuns (cond b 0 (n + 1)) (a ∷ ds)
none_step b n a ds none go = grind arith

last_of_and : (x y : Bool) → (x && y) ≡ true → y ≡ true
last_of_and x y is = grind arith

module _ (p e m k : ℕ) where
  cut_step : (a : AuditedDevice) (ds : List AuditedDevice) (running : Option OpenEntry) → a.history.running ≡ running
      → in_power_of (outline_of a) (lines.Over p e m (how.Cut k)) (in_power (lines.Over p e m (how.Cut k)) (map outline_of ds)) (open_program running) ≡ true
      → (in_power (lines.Over p e m (how.Cut k)) (map outline_of ds) ≡ true → NoneRuns (place_of ds e) ds)
      → NoneRuns (cond (a.number == e) 0 (place_of ds e + 1)) (a ∷ ds)
  cut_step a ds running none is go = grind (arith, none_step, last_of_and)

  cut_none : (ds : List AuditedDevice) → in_power (lines.Over p e m (how.Cut k)) (map outline_of ds) ≡ true → NoneRuns (place_of ds e) ds
  cut_none [] is = tt
  cut_none (a ∷ ds) is = cut_step a ds a.history.running refl is (λ below. cut_none ds below)

  cut_told : (n : ℕ) (ds : List AuditedDevice) → NoneRuns n ds → in_power (lines.Over p e m (how.Cut k)) (drop n (map outline_of ds)) ≡ true
      → NoneRuns (place_of ds e) ds
  cut_told zero ds none is = cut_none ds is
  cut_told (suc n) [] none is = tt
  cut_told (suc n) (a ∷ ds) none is = none_step (a.number == e) (place_of ds e) a ds none.0 (λ other. cut_told n ds none.1 is)

other_loss : (n e : ℕ) (answer : LooseAnswer) → (n == e) ≡ false → is_loss_of n (lines.Loose e answer) ≡ false
other_loss n e answer other = grind arith

module _ (e : ℕ) (answer : LooseAnswer) where
  loose_step : (a : AuditedDevice) (ds : List AuditedDevice) (running : Option OpenEntry) → a.history.running ≡ running
      → in_power_of (outline_of a) (lines.Loose e answer) (in_power (lines.Loose e answer) (map outline_of ds)) (open_program running) ≡ true
      → (in_power (lines.Loose e answer) (map outline_of ds) ≡ true → NoneRuns (place_of ds e + 1) ds)
      → NoneRuns (cond (a.number == e) 0 (place_of ds e + 1) + 1) (a ∷ ds)
  loose_step a ds running none is go = grind (arith, last_of_and, other_loss)

  loose_none : (ds : List AuditedDevice) → in_power (lines.Loose e answer) (map outline_of ds) ≡ true → NoneRuns (place_of ds e + 1) ds
  loose_none [] is = tt
  loose_none (a ∷ ds) is = loose_step a ds a.history.running refl is (λ below. loose_none ds below)

  loose_told : (n : ℕ) (ds : List AuditedDevice) → NoneRuns n ds → in_power (lines.Loose e answer) (drop n (map outline_of ds)) ≡ true
      → NoneRuns (place_of ds e + 1) ds
  loose_told zero ds none is = loose_none ds is
  loose_told (suc n) [] none is = tt
  loose_told (suc n) (a ∷ ds) none is = grind (arith, loose_told n ds none.1 is)

no_loss : (n : ℕ) (line : ReportLine) → loose_at line ≡ None → is_loss_of n line ≡ false
no_loss n line none = grind arith

module _ (line : ReportLine) (no_loose : loose_at line ≡ None) (no_cut : cut_at line ≡ None) where
  done_step : (a : AuditedDevice) (ds : List AuditedDevice) (running : Option OpenEntry) → a.history.running ≡ running
      → in_power_of (outline_of a) line (in_power line (map outline_of ds)) (open_program running) ≡ true
      → (in_power line (map outline_of ds) ≡ true → NoneRuns (length ds) ds) → NoneRuns (length (a ∷ ds)) (a ∷ ds)
  done_step a ds running none is go = grind (arith, last_of_and, no_loss)

  done_none : (ds : List AuditedDevice) → in_power line (map outline_of ds) ≡ true → NoneRuns (length ds) ds
  done_none [] is = tt
  done_none (a ∷ ds) is = done_step a ds a.history.running refl is (λ below. done_none ds below)

  pub done_told : (n : ℕ) (ds : List AuditedDevice) → NoneRuns n ds → in_power line (drop n (map outline_of ds)) ≡ true
      → NoneRuns (length ds) ds
  done_told zero ds none is = done_none ds is
  done_told (suc n) [] none is = tt
  done_told (suc n) (a ∷ ds) none is = (none.0, done_told n ds none.1 is)

  pub done_made : (s : AuditState) → power_made s line ≡ Some (passed (record s { devices = map without_power s.devices }))
  done_made s = grind arith

pub cut_fits : (line : ReportLine) (d n : ℕ) → cut_at line ≡ Some (d, n) → (k : ℕ) (ds : List AuditedDevice) → NoneRuns k ds
    → in_power line (drop k (map outline_of ds)) ≡ true → NoneRuns (place_of ds d) ds
cut_fits line d n is k ds none may = grind (arith, cut_told)

pub cut_made : (s : AuditState) (line : ReportLine) (d n : ℕ) → cut_at line ≡ Some (d, n)
    → power_made s line ≡ then_of (device_in s.devices d) (λ a. then_of a.history.running (power_cut s a n))
cut_made s line d n is = grind arith

abbrev some_nat : Option ℕ → ℕ
some_nat (Some n) = n
some_nat None = 0

pub loose_fits : (line : ReportLine) (d : ℕ) → loose_at line ≡ Some d → (k : ℕ) (ds : List AuditedDevice) → NoneRuns k ds
    → in_power line (drop k (map outline_of ds)) ≡ true → NoneRuns (place_of ds d + 1) ds
loose_fits line d is k ds none may = grind (arith, loose_told)

pub loose_made : (s : AuditState) (line : ReportLine) (d : ℕ) → loose_at line ≡ Some d
    → power_made s line ≡ then_of (device_in s.devices d) (power_loss s line)
loose_made s line d is = grind arith

-- The totals

no_totals : (s : List Outline) (d : ℕ) (t : DeviceTotals) (left : List Outline) → in_totals_of s (lines.Device d t) left ≡ true → 1 ≤ length left
no_totals s d t left is = grind arith

and_false : (x y : Bool) → y ≡ false → (x && y) ≡ false
and_false x y unlike = grind arith

pub totals_left : (s : List Outline) (d : ℕ) (t : DeviceTotals) (k : ℕ) → in_totals s (lines.Device d t) k ≡ true → k + 1 ≤ length s
totals_left s d t k is = grind (arith, no_totals, and_false, length-drop)
