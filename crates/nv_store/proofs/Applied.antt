-- What replacements leave of what a patch needs.
use Rattle.std.proofs.Common.{◌≡◌, true, List, ◌++◌, refl, ap, ◌∙◌}
use Rattle.std.specs.List.{list_all}
use Rattle.std.proofs.lemmas.Bool.{and_parts}
use Rattle.ckd_types.specs.declared.record.Record.{Record}
use Rattle.track_image.specs.Image.{Image}
use Rattle.nv_store.specs.declared.patch.Replacement.{Replacement}
use Rattle.nv_store.specs.declared.patch.Kept.{Kept}
use Rattle.nv_store.specs.declared.patch.Kept.TheVariants.{Whole, UpTo, Nothing}
use Rattle.nv_store.specs.Fit.{is_fit}
use Rattle.nv_store.specs.Patch.{PatchView, reaches, is_replaceable, revised, stay, applies}
use Rattle.nv_store.proofs.Revisions.{length_revised, revised_stay}

-- what is still there after the replacements
pub reaches_revised : (kept : Kept) (rs : List Replacement) (records : List Record) → reaches kept records ≡ true
    → reaches kept (revised rs records) ≡ true
reaches_revised Whole rs records h = refl
reaches_revised Nothing rs records h = refl
reaches_revised (UpTo last) rs records h = rw length_revised h

-- what still fits after the replacements
pub fits_revised : (p : PatchView) (i : Image) → applies p i ≡ true
    → is_fit i.geometry (stay p.kept (revised p.replaced i.track.records) ++ p.behind) ≡ true
fits_revised p i good =
    let tests = and_parts (reaches p.kept i.track.records) _ good in
    ap (λ (front : List Record). is_fit i.geometry (front ++ p.behind))
    (revised_stay p.kept p.replaced i.track.records)
    ∙ (and_parts (list_all (is_replaceable p.kept i.track.records) p.replaced) _ tests.1).1
