-- A loose track that becomes firm by a loss, of which the keeper is told at once.
use Rattle.std.proofs.Common.{◌≡◌, ◌∙◌, ◌<◌, ℕ, Bool, true, false, List, length, Option, Some, None, refl, ap, sym}
use Rattle.std.specs.Prelude.{is_some, slice_set, if◌then◌else◌}
use Rattle.std.proofs.lemmas.List.{get_or-set_same, set-set, set-get_or}
use Rattle.track_image.specs.Image.{Image}
use Rattle.track_cache.specs.declared.frames.Frame.{Frame}
use Rattle.track_cache.specs.Frames.{is_modified_frame}
use Rattle.device_outside.specs.Interaction.{Interaction, Done, Tell}
use Rattle.device_outside.specs.Keeper.{Firm}
use Rattle.device_defs.specs.declared.owed.Owed.{Owed}
use Rattle.device_defs.specs.Contents.{Contents}
use Rattle.device_defs.specs.Effects.{hardened}
use Rattle.device_defs.specs.Losses.{by_frame, kept_by_frame, hardened_by_loss, framed_image, firm_told}
use Rattle.device_defs.specs.Store.{Store, no_debt, frame_at, owed_at, is_loose, with_owed}

module _ {F P H R : Type 0} (c : Contents F P H R) where
  abbrev pub told_by : ℕ → Bool → ℕ → Image → Store F P H → Store F P H → Interaction R Image (Store F P H) (Unit {0})
  told_by t b d i y z = if b then Tell (Firm d t i) (λ _. Done z tt) else Done y tt

  pub not_firm : (t : ℕ) (s : Store F P H) → (owed_at s t).firm ≡ false → firm_told c t s ≡ Done s tt
  not_firm t s none =
      ap (λ (b : Bool). told_by t b s.device (framed_image c s t (frame_at s t)) s (with_owed s t (record (owed_at s t) { firm = false }))) none

  module _ (t : ℕ) (s : Store F P H) (f : F) where
    abbrev now : Store F P H
    now = hardened_by_loss s t

    abbrev owe : Owed
    owe = owed_at s t

    back : owe.firm ≡ false → slice_set (slice_set s.owed t (record owe { firm = true })) t (record owe { firm = false }) ≡ s.owed
    back none =
        set-set s.owed t (record owe { firm = true }) (record owe { firm = false })
        ∙ ap (λ (b : Bool). slice_set s.owed t (record owe { firm = b })) (sym none)
        ∙ set-get_or s.owed t no_debt

    harden_run : frame_at s t ≡ Some f → is_loose s t ≡ true → owe.firm ≡ false → t < length s.owed →
        firm_told c t (by_frame c s t (frame_at s t)) ≡ Tell (Firm s.device t (framed_image c s t (frame_at s t))) (λ _. Done (hardened s t) tt)
    harden_run is loose none lt =
        ap (λ (x : Option F). firm_told c t (by_frame c s t x)) is
        ∙ ap (λ (b : Bool). firm_told c t (if b then now else kept_by_frame c s t f)) loose
        ∙ ap (λ (r : Owed). told_by t r.firm s.device (framed_image c s t (frame_at s t)) now (with_owed now t (record r { firm = false })))
        (get_or-set_same s.owed t (record owe { firm = true }) no_debt lt)
        ∙ ap (λ (l : List Owed). told_by t true s.device (framed_image c s t (frame_at s t)) now (record (hardened s t) { owed = l })) (back none)

  by_some : (t : ℕ) (s : Store F P H) (x : Option F) → frame_at s t ≡ x → is_some x ≡ true → is_loose s t ≡ true → (owed_at s t).firm ≡ false
      → t < length s.owed →
      firm_told c t (by_frame c s t (frame_at s t)) ≡ Tell (Firm s.device t (framed_image c s t (frame_at s t))) (λ _. Done (hardened s t) tt)
  by_some t s None is some loose none lt = absurd cc
  by_some t s (Some f) is some loose none lt = harden_run t s f is loose none lt

  pub hardened_told : (t : ℕ) (s : Store F P H) → is_some (frame_at s t) ≡ true → is_loose s t ≡ true → (owed_at s t).firm ≡ false → t < length s.owed →
      firm_told c t (by_frame c s t (frame_at s t)) ≡ Tell (Firm s.device t (framed_image c s t (frame_at s t))) (λ _. Done (hardened s t) tt)
  hardened_told t s some loose none lt = by_some t s (frame_at s t) refl some loose none lt

-- a modified frame is there
pub modified_there : (f : Option Frame) → is_modified_frame f ≡ true → is_some f ≡ true
modified_there None is = absurd cc
modified_there (Some f) is = refl
