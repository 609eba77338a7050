-- What stands for contents. One text is the device's own event, over images, and the step of a run, over marks and the plain volume.
use Rattle.std.specs.Prelude.{ℕ, Bool, true, List, Option, None, Some, Result, Ok, Err, if◌then◌else◌}
use Rattle.ckd_types.specs.declared.geometry.Geometry.{Geometry}
use Rattle.ckd_types.specs.declared.record.Edit.{Edit}
use Rattle.ckd_types.specs.declared.record.Track.{Track}
use Rattle.ckd_types.specs.Geometry.{cchh_of}
use Rattle.ckd_types.specs.Track.{track_bytes}
use Rattle.track_image.specs.Image.{Image}
use Rattle.track_image.specs.Reading.{reading}
use Rattle.track_cache.specs.declared.frames.Frame.{Frame}
use Rattle.nv_store.specs.declared.patches.Stored.{Stored}
use Rattle.nv_store.specs.Patch.{PatchView, no_edits, added, applied}

-- R is what a volume hands over and takes. The last image of each is what it is on the plain volume
pub record Contents (F P H R : Type 0) : Type 0 where
  pub frame : Image → Bool → F  -- with the modified mark
  pub modified : F → Bool
  pub marked : F → Bool → F
  pub image : F → Image → Image
  pub patch : Option P → Edit → ℕ → P  -- the patch with one more edit, in a slot
  pub slot : P → ℕ
  pub half : Image → H
  pub half_image : H → Image → Image
  pub bytes : Image → R
  pub read : Geometry → ℕ → Option P → R → Image → Option Image  -- of track t, with its patch; None where they are no track

abbrev pub image_with : Geometry → Result Track ℕ → Option Image
image_with g (Ok track) = Some (record { geometry = g; track = track })
image_with g (Err offset) = None

-- bytes that are no track of this place have no image
abbrev pub image_read : Geometry → ℕ → List ℕ → Option Image
image_read g t bytes = image_with g (reading g (cchh_of t) bytes)

abbrev pub patch_or : Option Stored → PatchView
patch_or None = no_edits
patch_or (Some p) = p.patch

-- a track on which the patch is unfit is no track
abbrev pub patched_by : Option Stored → Option Image → Option Image
patched_by p None = None
patched_by None (Some i) = Some i
patched_by (Some p) (Some i) = applied p.patch i

-- the device itself
abbrev pub contents : Contents Frame Stored Image (List ℕ)
contents = record {
  frame = λ i m. record { image = i; modified = m };
  modified = λ f. f.modified;
  marked = λ f m. record { image = f.image; modified = m };
  image = λ f i. f.image;
  patch = λ p e slot. record { patch = added (patch_or p) e; slot = slot };
  slot = λ p. p.slot;
  half = λ i. i;
  half_image = λ h i. h;
  bytes = λ i. track_bytes i.track;
  read = λ g t p r i. patched_by p (image_read g t r);
}

-- the step of a run: a frame is whether it is modified, of a patch is known only that it is there (slots are counted by the pool),
-- what is handed over is whether it is a track, and every image is the plain volume's
abbrev pub by_plain : Contents Bool (Unit {0}) (Unit {0}) Bool
by_plain = record {
  frame = λ i m. m;
  modified = λ m. m;
  marked = λ f m. m;
  image = λ f i. i;
  patch = λ p e slot. tt;
  slot = λ p. 0;
  half = λ i. tt;
  half_image = λ h i. i;
  bytes = λ i. true;
  read = λ g t p r i. if r then Some i else None;
}
