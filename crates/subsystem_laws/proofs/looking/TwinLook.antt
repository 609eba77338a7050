-- The image that a look at a track finds is the plain one, also while a half write of the background is open on it, and the twin on marks has the same.
use Rattle.std.proofs.Common.{◌≡◌, ◌<◌, ◌==◌, ℕ, Bool, true, false, List, Option, Some, None, refl, sym, ap, subst, ◌∙◌}
use Rattle.ckd_types.specs.declared.record.Track.{Track}
use Rattle.ckd_types.specs.declared.geometry.Geometry.{Geometry}
use Rattle.ckd_types.specs.Track.{track_bytes}
use Rattle.ckd_types.specs.Volume.{track_in}
use Rattle.track_image.specs.Image.{Image}
use Rattle.nv_store.specs.declared.patches.Stored.{Stored}
use Rattle.nv_store.specs.Patch.{applied}
use Rattle.device_defs.specs.Contents.{contents, by_plain, patched_by, image_read}
use Rattle.device_defs.specs.Image.{image}
use Rattle.device_defs.specs.Marks.{marks_of}
use Rattle.device_defs.specs.Peek.{peek_usage}
use Rattle.device_defs.specs.Sound.{DeviceStore, written_on}
use Rattle.device_defs.specs.Store.{Origin, OfBackground, HalfWrite, tracks_of, is_lost, is_loose, half_is}
use Rattle.device_laws.specs.Agrees.{Held, image_in, PatchHas, PatchOf}
use Rattle.device_laws.specs.InOrder.{IsInOrder, ImageIs}
use Rattle.device_laws.specs.Twin.{Twins}
use Rattle.device_laws.proofs.ContentChanges.{Sure}
use Rattle.device_laws.proofs.TrackContents as T
use Rattle.device_laws.proofs.TrackContents.{TrackContents, contents_at, FrameOf, Keeps, Writes, HeldBy, held_of, keeps_other, writes_own}
use Rattle.device_laws.proofs.TrackMarks.{device_is_faithful}
use Rattle.device_laws.proofs.TwinAsks.{InOrder}
use Rattle.device_laws.proofs.TwinDone.{read_back}
use Rattle.device_laws.proofs.TwinImage.{Looks}
use Rattle.device_laws.proofs.TwinLaws.{in_order, is_in_order}
use Rattle.device_laws.proofs.TwinLooks.{image_by_twin}
use Rattle.device_laws.proofs.TwinWalks.{twin_always, twin_weaker}
use Rattle.device_laws.proofs.WholeImage.{image_keeps_good}

-- an open half write of this track is the background's
abbrev pub ByBackground : Option (HalfWrite Image) → ℕ → Type 0
ByBackground half t = (i : HalfWrite Image) → half ≡ Some i → (i.track == t) ≡ true → i.origin ≡ OfBackground

-- A track that the background writes holds the plain track wherever it holds something

read_with : (o : Option Stored) (r : Option Image) (i : Image) → patched_by None r ≡ Some i → PatchHas o i → patched_by o r ≡ Some i
read_with o None i e f = absurd (cc)
read_with None (Some j) i e f = e
read_with (Some p) (Some j) i e f = let same : j ≡ i = cc in ap (applied p.patch) same ∙ f p refl

module _ (g : Geometry) (t : ℕ) (x : TrackContents) (plain firm : Image) (read : patched_by None (image_read g t (track_bytes plain.track)) ≡ Some plain) where
  written_keeps : (i : HalfWrite Image) → i.origin ≡ OfBackground → firm ≡ plain → Writes x plain i → Keeps g t x plain firm
  written_keeps i own same k =
      let image : i.image ≡ plain = k.image ∙ ap (written_on plain) own in
      let patch : PatchHas x.patch plain = subst (λ (o : Origin). PatchOf o x.patch plain) own k.patch in
      let bytes : track_bytes i.image.track ≡ track_bytes plain.track = ap (λ (j : Image). track_bytes j.track) image in
      let gives : patched_by x.patch (image_read g t (track_bytes plain.track)) ≡ Some firm =
      read_with x.patch (image_read g t (track_bytes plain.track)) plain read patch ∙ ap Some (sym same) in
      record {
        frame = subst (λ (o : Origin). FrameOf o x.frame plain) own k.frame;
        a = λ on. ap (λ (b : List ℕ). patched_by x.patch (image_read g t b)) (k.a on ∙ bytes) ∙ gives;
        b = λ on. ap (λ (b : List ℕ). patched_by x.patch (image_read g t b)) (k.b on ∙ bytes) ∙ gives;
        patch = (patch, subst (PatchHas x.patch) (sym same) patch);
      }

  half_keeps : (half : Option (HalfWrite Image)) → ByBackground half t → (half_is half t ≡ true → firm ≡ plain) → HeldBy g t x plain firm half →
      Keeps g t x plain firm
  half_keeps None may same k = k
  half_keeps (Some i) may same k = by_place (i.track == t) refl
    where
      by_place : (b : Bool) → (i.track == t) ≡ b → Keeps g t x plain firm
      by_place true e = written_keeps i (may i refl e) (same e) (writes_own g t i x plain firm e k)
      by_place false e = keeps_other g t i x plain firm e k

never_both : (l b : Bool) → (l ≡ true → b ≡ false) → b ≡ true → l ≡ false
never_both true b f e = absurd (let n = f refl in cc)
never_both false b f e = refl

module _ (v w : List Track) (s : DeviceStore) (h : Held) (t : ℕ) where
  lost_is : (contents_at s h t).lost ≡ is_lost s t
  unfolding T.contents_at
  lost_is = refl

  -- what a track holds that isn't lost
  pub keeps_here : Sure v w s h → t < tracks_of s → is_lost s t ≡ false → ByBackground s.half t →
      Keeps s.geometry t (contents_at s h t) (image_in s v t) (image_in s w t)
  keeps_here sure lt there may =
      half_keeps s.geometry t (contents_at s h t) (image_in s v t) (image_in s w t)
      (read_back s.geometry t (track_in v t) (sure.ground.plain.fits t lt) (sure.ground.plain.homes t lt)) s.half may
      (λ on. ap (λ (x : Track). record { geometry = s.geometry; track = x })
      (sure.ground.same t lt (never_both (is_loose s t) (half_is s.half t) (sure.ground.apart t) on)))
      (held_of s.geometry t s.half (contents_at s h t) (image_in s v t) (image_in s w t) (lost_is ∙ there) (sure.right t lt (λ e. absurd (cc))))

  -- what is being written by the background is the plain track
  pub written_here : (i : HalfWrite Image) → s.half ≡ Some i → (i.track == t) ≡ true → i.origin ≡ OfBackground → Sure v w s h → t < tracks_of s →
      is_lost s t ≡ false → i.image ≡ image_in s v t
  written_here i e own origin sure lt there =
      let k : Writes (contents_at s h t) (image_in s v t) i =
      writes_own s.geometry t i (contents_at s h t) (image_in s v t) (image_in s w t) own
      (subst (λ (half : Option (HalfWrite Image)). HeldBy s.geometry t (contents_at s h t) (image_in s v t) (image_in s w t) half) e
      (held_of s.geometry t s.half (contents_at s h t) (image_in s v t) (image_in s w t) (lost_is ∙ there) (sure.right t lt (λ e. absurd (cc))))) in
      k.image ∙ ap (written_on (image_in s v t)) origin

image_look : (v w : List Track) (s : DeviceStore) (h : Held) (t : ℕ) → t < tracks_of s → is_lost s t ≡ false → ByBackground s.half t → InOrder v w s h →
    Twins (λ v' w' z a b k. Looks v s t v' w' z a b k) (image contents s peek_usage t) (image by_plain (marks_of v w s) peek_usage t) h
image_look v w s h t =
    image_by_twin v s t peek_usage (λ o. ByBackground o t) (λ v w s h. keeps_here v w s h t) (λ e. absurd (cc)) w h

-- of a track that isn't lost
pub image_is_found : (v w : List Track) (s : DeviceStore) (h : Held) (t : ℕ) → IsInOrder v w s h → t < tracks_of s → is_lost s t ≡ false →
    ByBackground s.half t → Twins (λ v' w' z a b k. ImageIs v s t v' w' z a b k) (image contents s peek_usage t) (image by_plain (marks_of v w s) peek_usage t) h
image_is_found v w s h t i lt there may =
    let o = in_order v w s h i in
    twin_weaker (twin_always (image_look v w s h t lt there may o) (image_keeps_good contents device_is_faithful s peek_usage t tt lt o.well))
    (λ v' w' z a b k f. record {
      left = record { order = is_in_order v' w' z k f.0.order f.1.goes.well; plain = f.0.plain; same = f.0.same };
      image = f.0.image;
      good = f.0.bad;
    })
