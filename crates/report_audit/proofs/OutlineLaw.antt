-- The outlines that an auditor reads of its devices are those of the audited state.
use Rattle.std.proofs.Common.{◌≡◌, ◌≤◌, ◌∷◌, [], ℕ, List, Bool, refl, arith, ap, ◌∙◌}
use Rattle.std.specs.Prelude.{◌==◌, map}
use Rattle.deck_text.specs.declared.line.PlannedProgram.{PlannedProgram}
use Rattle.report_audit.specs.Auditor.{AllKept, IsAt, IsFor, OneKept, due_if, either, kept_outline, told_of}
use Rattle.report_audit.specs.declared.auditor.Auditor.{Auditor}
use Rattle.deck_audit.specs.declared.kept.Kept.{Kept}
use Rattle.deck_audit.specs.declared.state.Due.{Due}
use Rattle.deck_audit.specs.declared.state.Outline.{Outline}
use Rattle.deck_audit.specs.Device as device
use Rattle.deck_audit.specs.Device.{AuditedDevice, open_program}
use Rattle.deck_audit.specs.Keeping.{IsKept}
use Rattle.deck_audit.specs.Place.{IsDueOf}
use Rattle.deck_audit.specs.State.{AuditState, outlines}
use Rattle.deck_audit.proofs.Judges.{by_program}
use Rattle.deck_audit.proofs.ReplayedEnds.{ends_as, runs_as}

pub due_of_told : (n : ℕ) (due : Due) → told_of due ≤ n → IsDueOf n due
due_of_told n due most = grind arith

pub told_of_due : (n : ℕ) (due : Due) → IsDueOf n due → told_of due ≤ n
told_of_due n due most = grind arith

module _ (k : Kept) (a : AuditedDevice) (i : IsKept k a) where
  pub same_outline : kept_outline k ≡ device.outline_of a
  same_outline = grind (arith, by_program, runs_as, ends_as)

module _ (programs : List PlannedProgram) where
  pub all_outlines : (ks : List Kept) (ds : List AuditedDevice) → AllKept programs ks ds → map kept_outline ks ≡ map device.outline_of ds
  all_outlines [] [] all = refl
  all_outlines (k ∷ ks) (a ∷ ds) all = grind (arith, all_outlines ks ds all.1, same_outline)
  all_outlines ks ds all = absurd all

  either_outlines : (b : Bool) (ks : List Kept) (ds : List AuditedDevice) (Q : Type 0) → (Q → map kept_outline ks ≡ map device.outline_of ds)
      → either b (AllKept programs ks ds) Q → map kept_outline ks ≡ map device.outline_of ds
  either_outlines b ks ds Q go is = grind (arith, all_outlines)

  kept_at : (due : Due) (k : Kept) (a : AuditedDevice) (b : Bool) → IsAt programs (due_if b due) k a → IsKept k a
  kept_at due k a b is = is.kept

  pub one_outlines : (due : Due) (d : ℕ) (ks : List Kept) (ds : List AuditedDevice) → OneKept programs due d ks ds
      → map kept_outline ks ≡ map device.outline_of ds
  one_outlines due d [] [] one = refl
  one_outlines due d (k ∷ ks) (a ∷ ds) one =
      ap (λ (o : Outline). o ∷ map kept_outline ks) (same_outline k a (kept_at due k a (a.number == d) one.0))
      ∙ ap (λ (l : List Outline). device.outline_of a ∷ l) (either_outlines (a.number == d) ks ds (OneKept programs due d ks ds)
      (λ later. one_outlines due d ks ds later) one.1)
  one_outlines due d ks ds one = absurd one

module _ (z : Auditor) (s : AuditState) where
  -- what `in_due` is asked is what the definition asks
  pub outlines_are : IsFor z s → map kept_outline z.devices.items ≡ outlines s
  outlines_are f = grind (arith, all_outlines, one_outlines)
