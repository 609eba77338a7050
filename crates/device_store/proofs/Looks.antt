-- Looks at a track by what its frame is.
use Rattle.std.proofs.Common.{◌≡◌, ℕ, true, false, List, Option, Some, None, Ok, refl, sym}
use Rattle.std.specs.Prelude.{is_some, if◌then◌else◌}
use Rattle.ckd_types.specs.declared.geometry.Geometry.{Geometry}
use Rattle.ckd_types.specs.Geometry.{cchh_of}
use Rattle.ckd_types.specs.Parameters.{is_bypass}
use Rattle.track_image.specs.Image.{Image}
use Rattle.track_image.specs.Reading.{reading}
use Rattle.track_cache.specs.declared.frames.Frame.{Frame}
use Rattle.track_cache.specs.Frames.{is_modified_frame}
use Rattle.nv_store.specs.declared.patches.Stored.{Stored}
use Rattle.nv_store.specs.Patches.{patch_of}
use Rattle.device_outside.specs.Interaction.{Done, Ask}
use Rattle.device_outside.specs.Pool.{Touch}
use Rattle.device_defs.specs.declared.usage.Usage.{Usage}
use Rattle.device_defs.specs.Contents.{contents, image_read, patched_by}
use Rattle.device_defs.specs.Image.{Has, image_by, miss}
use Rattle.device_defs.specs.Losses.{framed_image}
use Rattle.device_defs.specs.Owed.{is_clean}
use Rattle.device_defs.specs.Store.{with_frame}
use Rattle.device_store.specs.Looks.{StoreOf, applied_by}

-- a modified frame is a hit
pub image_modified : (s : StoreOf) (u : Usage) (t : ℕ) (f : Option Frame) → is_modified_frame f ≡ true →
    image_by contents s u t f ≡ Done s (Some (Has (framed_image contents s t f)))
image_modified s u t None is = absurd cc
image_modified s u t (Some f) is = rw is refl

-- a clean one may be
pub image_clean : (s : StoreOf) (u : Usage) (t : ℕ) (f : Option Frame) → is_modified_frame f ≡ false → is_some f ≡ true →
    image_by contents s u t f ≡ (if is_bypass u.mode then miss contents s u t
    else Ask (Touch s.device t)
    (λ listed. if listed then Done s (Some (Has (framed_image contents s t f))) else miss contents (with_frame s t None) u t))
image_clean s u t None is there = absurd cc
image_clean s u t (Some f) is there = rw is refl

-- no frame is a miss
pub image_none : (s : StoreOf) (u : Usage) (t : ℕ) (f : Option Frame) → is_some f ≡ false → image_by contents s u t f ≡ miss contents s u t
image_none s u t None is = refl
image_none s u t (Some f) is = absurd cc

pub clean_not : (f : Option Frame) → is_modified_frame f ≡ true → false ≡ is_clean contents f
clean_not None is = refl
clean_not (Some f) is = rw is refl

pub clean_if : (f : Option Frame) → is_modified_frame f ≡ false → is_some f ≡ is_clean contents f
clean_if None is = refl
clean_if (Some f) is = rw is refl

-- no frame is not modified
pub unframed : (f : Option Frame) → is_some f ≡ false → is_modified_frame f ≡ false
unframed None is = refl
unframed (Some f) is = absurd cc

-- what bytes make, with the patch that is held
pub patched_with : (p : Option Stored) (i : Image) → patched_by p (Some i) ≡ applied_by (patch_of p) i
patched_with None i = refl
patched_with (Some p) i = refl

pub read_image : (g : Geometry) (t : ℕ) (bytes : List ℕ) (i : Image) → reading g (cchh_of t) bytes ≡ Ok i.track → i.geometry ≡ g →
    image_read g t bytes ≡ Some i
read_image g t bytes i reads is = rw reads (rw (sym is) refl)
