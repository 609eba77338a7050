-- What images the tracks of a device have.
use Rattle.std.specs.Prelude.{◌≡◌, ℕ, List, Option, IfSome}
use Rattle.ckd_types.specs.declared.geometry.Geometry.{Geometry}
use Rattle.ckd_types.specs.Geometry.{cchh_of}
use Rattle.track_image.specs.Image.{Image}
use Rattle.track_cache.specs.declared.frames.Frame.{Frame}
use Rattle.track_cache.specs.Frames.{frame_at}
use Rattle.device_store.specs.declared.half.HalfWrite.{HalfWrite}

-- it is of the device's geometry, and has the home address of its track
abbrev pub IsImageOf : Geometry → ℕ → Image → Type 0
IsImageOf g t i = (i.geometry ≡ g) × (i.track.home ≡ cchh_of t)

-- each frame has an image of its track
abbrev pub AreImagesOf : Geometry → List (Option Frame) → Type 0
AreImagesOf g frames = (t : ℕ) → IfSome (frame_at frames t) (λ f. IsImageOf g t f.image)

-- so has an open half write
abbrev pub IsHalfOf : Geometry → Option HalfWrite → Type 0
IsHalfOf g half = IfSome half (λ h. IsImageOf g h.track h.image)
