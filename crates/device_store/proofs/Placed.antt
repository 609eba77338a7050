-- Each frame goes on having an image of its track, and so does an open half write.
use Rattle.std.proofs.Common.{◌≡◌, ℕ, zero, suc, Bool, true, false, List, [], ◌∷◌, Option, Some, None, Result, Ok, Err, sym, subst}
use Rattle.std.specs.Prelude.{IfOk, IfSome, is_some, replicate, slice_index_or, slice_set, if◌then◌else◌}
use Rattle.ckd_types.specs.declared.geometry.Geometry.{Geometry}
use Rattle.nv_store.specs.Patch.{PatchView, applies, patched_image}
use Rattle.track_cache.specs.declared.frames.Frame.{Frame}
use Rattle.track_cache.specs.Frames.{with_mark}
use Rattle.track_image.specs.Image.{Image}
use Rattle.device_defs.specs.Contents.{contents}
use Rattle.device_defs.specs.Losses.{framed_image}
use Rattle.device_store.specs.declared.half.HalfWrite.{HalfWrite}
use Rattle.device_store.specs.Images.{AreImagesOf, IsHalfOf, IsImageOf}
use Rattle.device_store.specs.Looks.{StoreOf, applied_by}

-- it has one, if there is a frame
abbrev pub IsFrameOf : Geometry → ℕ → Option Frame → Type 0
IsFrameOf g t f = IfSome f (λ x. IsImageOf g t x.image)

set_in : (P : ℕ → Option Frame → Type 0) (frames : List (Option Frame)) (t : ℕ) (f : Option Frame) → P t f
    → ((q : ℕ) → P q (slice_index_or frames q None)) → (q : ℕ) → P q (slice_index_or (slice_set frames t f) q None)
set_in P [] t f has all q = all q
set_in P (x ∷ xs) zero f has all zero = has
set_in P (x ∷ xs) zero f has all (suc q) = all (suc q)
set_in P (x ∷ xs) (suc t) f has all zero = all zero
set_in P (x ∷ xs) (suc t) f has all (suc q) = set_in (λ n. P (suc n)) xs t f has (λ n. all (suc n)) q

-- where a track's frame becomes another, or goes
pub reframed : (g : Geometry) (frames : List (Option Frame)) (t : ℕ) (f : Option Frame) → AreImagesOf g frames → IsFrameOf g t f →
    AreImagesOf g (slice_set frames t f)
reframed g frames t f are of = set_in (IsFrameOf g) frames t f of are

pub marked_of : (g : Geometry) (t : ℕ) (f : Option Frame) (modified : Bool) → IsFrameOf g t f → IsFrameOf g t (with_mark modified f)
marked_of g t None modified of = tt
marked_of g t (Some f) modified of = of

no_frames : (P : Frame → Type 0) (n t : ℕ) → IfSome (slice_index_or (replicate n None) t None) P
no_frames P zero t = tt
no_frames P (suc n) zero = tt
no_frames P (suc n) (suc t) = no_frames P n t

pub none_framed : (g : Geometry) (n : ℕ) → AreImagesOf g (replicate n None)
none_framed g n t = no_frames (λ x. IsImageOf g t x.image) n t

-- the image in a frame
pub framed_of : (g : Geometry) (s : StoreOf) (t : ℕ) (f : Option Frame) → is_some f ≡ true → IsFrameOf g t f → IsImageOf g t (framed_image contents s t f)
framed_of g s t None there of = absurd cc
framed_of g s t (Some f) there of = of

pub half_image : (g : Geometry) (half : Option HalfWrite) (h : HalfWrite) → half ≡ Some h → IsHalfOf g half → IsImageOf g h.track h.image
half_image g None h is of = absurd cc
half_image g (Some x) h is of = let same : x ≡ h = cc in subst (λ (y : HalfWrite). IsImageOf g y.track y.image) same of

module _ (g : Geometry) (t : ℕ) where
  applied_if : (b : Bool) (p : PatchView) (i : Image) → IsImageOf g t i → IfSome (if b then Some (patched_image p i) else None) (IsImageOf g t)
  applied_if true p i of = of
  applied_if false p i of = tt

  applied_of : (p : Option PatchView) (i : Image) → IsImageOf g t i → IfSome (applied_by p i) (IsImageOf g t)
  applied_of None i of = of
  applied_of (Some p) i of = applied_if (applies p i) p i of

  -- with a patch that is held it is an image of the track still
  pub patched_of : {E : Type 0} (p : Option PatchView) (i : Image) (r : Result (Option Image) E) → IsImageOf g t i → IfOk r (λ x. x ≡ applied_by p i) →
      IfOk r (λ x. IfSome x (IsImageOf g t))
  patched_of p i (Err e) of is = tt
  patched_of p i (Ok x) of is = subst (λ y. IfSome y (IsImageOf g t)) (sym is) (applied_of p i of)
