-- A line behind a piece of work: one of its acts, or the first line behind them, where the work is taken as done.
use Rattle.std.proofs.Common.{◌≡◌, ℕ, List, Option, Some, None, Bool, true, false, cond, refl, arith, sym, ap, subst, ◌∙◌}
use Rattle.std.specs.Prelude.{◌&&◌, ◌||◌, not, Result, Err, slice_get}
use Rattle.deck_plan.specs.declared.event.EventLine.{EventLine}
use Rattle.report_text.specs.declared.line.ReportLine.{ReportLine}
use Rattle.report_audit.specs.Auditor.{IsFor, IsJudged, Makes, OneKept, idle_fault, judged_settled, kept_legal, place_from, placed}
use Rattle.report_audit.specs.declared.auditor.Auditor.{Auditor}
use Rattle.deck_audit.specs.declared.kept.Kept.{Kept}
use Rattle.deck_audit.specs.declared.state.Did.{Did}
use Rattle.deck_audit.specs.declared.state.Due.{Due}
use Rattle.deck_audit.specs.declared.state.Due.TheVariants.{Behind}
use Rattle.deck_audit.specs.declared.status.AuditWhy.{AuditWhy}
use Rattle.deck_audit.specs.declared.status.AuditWhy.TheVariants.{History, Place}
use Rattle.deck_audit.specs.declared.task.Task.TheVariants as tasks
use Rattle.deck_audit.specs.Device.{AuditedDevice, device_in}
use Rattle.deck_audit.specs.History.{act_of_work, due_made, is_legal}
use Rattle.deck_audit.specs.Keeping.{DidSo, IsDue, IsKept}
use Rattle.deck_audit.specs.Place.{first_event, holds, is_act_of, is_io, is_of_work, worker_of}
use Rattle.deck_audit.specs.Stands.{in_state}
use Rattle.deck_audit.specs.State.{AuditState, over_by, settled_by, settled_in, then_of, worker_number}
use Rattle.deck_audit.specs.Verdict.{judged, or_history}
use Rattle.report_audit.proofs.Auditors.{at, none_at}
use Rattle.report_audit.proofs.AuditorLines.{has_one}
use Rattle.deck_audit.proofs.ReplayedEnds.{legal_follows}

-- Whether the command may edit its track

legal_so : (did : Did) (k : Kept) (a : AuditedDevice) → IsKept k a → DidSo did k a → kept_legal did k ≡ is_legal did a
legal_so did k a i so = grind (arith, legal_follows)

some_same : {T : Type 0} (x y : T) → Some x ≡ Some y → x ≡ y
some_same x y is = cc

module _ (z : Auditor) (s : AuditState) (f : IsFor z s) (d : ℕ) (more : Bool) (did : Did) (due_is : s.due ≡ Behind more did)
    (worker_is : worker_number s ≡ Some d) (a : AuditedDevice) (device_is : device_in s.devices d ≡ Some a) where
  one : OneKept z.deck.programs s.due d z.devices.items s.devices
  one = has_one z s d (tasks.Act did) f (more, due_is, worker_is)

  pub legal_at : (i : ℕ) → place_from 0 z.devices.items d ≡ Some i → (k : Kept) → slice_get z.devices.items i ≡ Some k
      → kept_legal did k ≡ is_legal did a
  legal_at i place k kept_is =
      let here = at z.deck.programs d s.due 0 z.devices.items s.devices one i place in
      let p = here.place in
      let same : here.j ≡ i = omega (arith, p) in
      let same_kept : here.found.k ≡ k = some_same here.found.k k (sym here.found.kept_is
      ∙ ap (λ (n : ℕ). slice_get z.devices.items n) same ∙ kept_is) in
      let same_device : here.found.a ≡ a = some_same here.found.a a (sym here.found.device_is ∙ device_is) in
      ap (λ (x : Kept). kept_legal did x) (sym same_kept)
      ∙ legal_so did here.found.k here.found.a here.found.fits.kept
      (subst (λ (due : Due). IsDue due here.found.k here.found.a) due_is here.found.fits.due_so)
      ∙ ap (λ (x : AuditedDevice). is_legal did x) same_device

  pub legal_none : place_from 0 z.devices.items d ≡ None → (b : Bool) → b ≡ is_legal did a
  legal_none place b = grind (arith, none_at, one)

-- Where no device does it

by_settled : (io act placed legal : Bool) (m n : Option AuditState) (t : AuditState) → act ≡ false
    → cond ((io || act) || placed) (or_history (cond ((io || act) && not io) m (cond (not legal) None (cond io (Some t) n)))) (Err Place)
    ≡ cond (io || placed) (or_history (cond (not legal) None (cond io (Some t) n))) (Err Place)
by_settled io act placed legal m n t none = grind arith

module _ (s : AuditState) (line : ReportLine) (more : Bool) (did : Did) (due_is : s.due ≡ Behind more did) where
  abbrev by : Option ℕ → Option AuditedDevice → Result AuditState AuditWhy
  by w x = cond (is_of_work more w line || in_state (settled_in s did x) line)
      (or_history (cond (is_of_work more w line && not (is_io line)) (then_of x (act_of_work s line did))
      (cond (not (holds x (is_legal did))) None
      (cond (is_io line) (Some (settled_in s did x)) (due_made (settled_in s did x) line (settled_in s did x).due))))) (Err Place)

  is_by : (w : Option ℕ) → worker_number s ≡ w → judged s line ≡ by w (then_of w (device_in s.devices))
  is_by w worker_is = grind arith

  idle_by : (w : Option ℕ) → holds w (λ d. is_act_of more d line) ≡ false → by w None ≡ Err (idle_fault line)
  idle_by w none = grind arith

  module _ (d : ℕ) (worker_is : worker_number s ≡ Some d) where
    pub no_device : is_act_of more d line ≡ false → device_in s.devices d ≡ None → (why : AuditWhy) → why ≡ idle_fault line
        → judged s line ≡ Err why
    no_device none absent why is = grind (arith, is_by, idle_by)

    act_is : is_act_of more d line ≡ true → judged s line ≡ or_history (then_of (device_in s.devices d) (act_of_work s line did))
    act_is act = grind (arith, is_by)

    pub act_good : is_act_of more d line ≡ true → (y : Auditor) → Makes true y (then_of (device_in s.devices d) (act_of_work s line did))
        → IsJudged None y (judged s line)
    act_good act y makes = (makes.0, act_is act ∙ ap or_history makes.1, makes.2)

    pub act_bad : is_act_of more d line ≡ true → then_of (device_in s.devices d) (act_of_work s line did) ≡ None → judged s line ≡ Err History
    act_bad act none = act_is act ∙ ap or_history none

    pub settled_so : is_act_of more d line ≡ false → (t : AuditState)
        → then_of (device_in s.devices d) (λ a. Some (settled_by s a did (over_by a did a.history.running))) ≡ Some t
        → (legal : Bool) → ((a : AuditedDevice) → device_in s.devices d ≡ Some a → legal ≡ is_legal did a)
        → judged s line ≡ judged_settled t line legal
    settled_so none t made legal legal_is = by_device (device_in s.devices d) refl made where
      by_device : (x : Option AuditedDevice) → device_in s.devices d ≡ x
          → then_of x (λ a. Some (settled_by s a did (over_by a did a.history.running))) ≡ Some t
          → judged s line ≡ judged_settled t line legal
      by_device None is made = absurd (cc)
      by_device (Some a) is made =
          is_by (Some d) worker_is ∙ ap (λ (x : Option AuditedDevice). by (Some d) x) is
          ∙ by_settled (is_io line) (is_act_of more d line) (in_state (settled_in s did (Some a)) line) (is_legal did a)
          (act_of_work s line did a) (due_made (settled_in s did (Some a)) line (settled_in s did (Some a)).due) (settled_in s did (Some a)) none
          ∙ ap (λ (x : AuditState). judged_settled x line (is_legal did a)) (some_same (settled_in s did (Some a)) t made)
          ∙ ap (λ (b : Bool). judged_settled t line b) (sym (legal_is a is))

pub none_made : (x : Option AuditedDevice) (go : AuditedDevice → AuditState) → then_of x (λ a. Some (go a)) ≡ None → x ≡ None
none_made x go is = grind arith

pub worker_of_left : (z : Auditor) (s : AuditState) → IsFor z s → (left : List EventLine) → s.events ≡ left
    → worker_number s ≡ then_of (first_event left) worker_of
worker_of_left z s f left is = ap (λ (e : List EventLine). then_of (first_event e) worker_of) is

-- What is due by its kind
