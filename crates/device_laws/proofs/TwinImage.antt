-- The image of a track is the plain one, and a device and its twin on marks ask the same for it.
use Rattle.std.proofs.Common.{◌≡◌, ◌≢◌, ◌<◌, ℕ, Bool, true, false, List, [], Option, Some, None, is_some, get_or, refl, ap, ◌∙◌, arith, subst, sym}
use Rattle.ckd_types.specs.declared.paths.Side.{Side}
use Rattle.ckd_types.specs.declared.paths.Side.TheVariants.{A, B}
use Rattle.ckd_types.specs.declared.record.Track.{Track}
use Rattle.track_image.specs.Image.{Image}
use Rattle.track_cache.specs.declared.frames.Frame.{Frame}
use Rattle.device_outside.specs.Both.{both_read}
use Rattle.device_outside.proofs.BothRules.{on_test, on_tests}
use Rattle.device_defs.specs.Contents.{contents, by_plain, patched_by, image_read}
use Rattle.device_defs.specs.Image as I
use Rattle.device_defs.specs.Image.{Got, Imaged, Has, BadTrack, read_counted, second_read, read_b, first_read, level_bytes, framed, filled, image}
use Rattle.device_defs.specs.Marks.{marks_of}
use Rattle.device_defs.specs.Sound.{DeviceStore}
use Rattle.device_defs.specs.Store.{tracks_of, level_at, has_level, patch_at, is_lost, half_is, HalfWrite}
use Rattle.device_laws.specs.Agrees.{Held, image_in}
use Rattle.device_laws.specs.Twin.{Twins}
use Rattle.device_laws.proofs.Bools.{or_left, or_right}
use Rattle.device_laws.proofs.Changes as D
use Rattle.device_laws.proofs.ContentChanges as C
use Rattle.device_laws.proofs.ContentChanges.{base_of, altered_frame, beside_right, Sure}
use Rattle.device_laws.proofs.FailedCall.{IsWell, failed_call_keeps_good}
use Rattle.device_laws.proofs.Soundness.{good_is_nowhere}
use Rattle.device_laws.proofs.TrackContents as T
use Rattle.device_laws.proofs.TrackContents.{contents_at, Keeps}
use Rattle.device_laws.proofs.TrackMarks as M
use Rattle.device_laws.proofs.TrackMarks.{track_at, device_is_faithful}
use Rattle.device_laws.proofs.TwinAsks.{ask_modified, Stays, stays_same, stays_on, stays_by, stays_fell, InOrder, Ordered, keeps_at, right_keeps, altered_order}
use Rattle.device_laws.proofs.TwinChanges.{has_patch_twin, with_frame_twin}
use Rattle.device_laws.proofs.TwinFailed.{fell, Failed, failed_twin}
use Rattle.device_laws.proofs.TwinWalks.{twin_done, twin_ends, twin_then, twin_always}

-- Reads

counted_order : (v w : List Track) (s : DeviceStore) (h : Held) (ok : Bool) → InOrder v w s h → InOrder v w (read_counted s ok) h
unfolding T.contents_at C.base_of M.track_at D.rest_of
counted_order v w s h ok i = record {
  sure = beside_right i.sure;
  told = i.told;
  well = record {
    sizes = record { are = i.well.sizes.are };
    here = record { free = i.well.here.free; alone = i.well.here.alone; whole = i.well.here.whole; within = i.well.here.within; queued = i.well.here.queued };
    good = i.well.good;
    kept = i.well.kept;
  };
}

-- what was delivered is the track without data of cache fast write
abbrev pub Delivers : List Track → DeviceStore → ℕ → Option (List ℕ) → Option Bool → Type 0
Delivers w z t None None = Unit {0}
Delivers w z t (Some r) (Some b) = (b ≡ true) × (patched_by (patch_at z t) (image_read z.geometry t r) ≡ Some (image_in z w t))
Delivers w z t None (Some b) = ⊥
Delivers w z t (Some r) None = ⊥

pub record GotTwin (u : List Track) (s : DeviceStore) (t : ℕ) (v w : List Track) (z : DeviceStore) (g : Got (List ℕ)) (m : Got Bool) (k : Held) : Type 0 where
  pub order : Ordered v w z k
  pub plain : v ≡ u
  pub stays : Stays s z
  pub bytes : Delivers w z t g.bytes m.bytes
  pub side : g.side ≡ m.side
  pub fault : g.fault ≡ m.fault

-- a level track isn't lost
pub not_lost : (s : DeviceStore) (t : ℕ) → t < tracks_of s → IsWell contents s → has_level s t ≡ true → is_lost s t ≡ false
not_lost s t lt w level = by_case (is_lost s t) refl
  where
    by_case : (b : Bool) → is_lost s t ≡ b → b ≡ false
    by_case true e = absurd (let f = good_is_nowhere contents s t (w.good t lt) e in cc)
    by_case false e = refl

-- a condition on a half write under which a track that isn't lost holds what it is to hold
abbrev pub KeepsWhere : ℕ → (Option (HalfWrite Image) → Type 0) → Type 0
KeepsWhere t may = (v w : List Track) (s : DeviceStore) (h : Held) → Sure v w s h → t < tracks_of s → is_lost s t ≡ false → may s.half →
    Keeps s.geometry t (contents_at s h t) (image_in s v t) (image_in s w t)

abbrev pub IsOff : ℕ → Option (HalfWrite Image) → Type 0
IsOff t half = half_is half t ≡ false

pub keeps_off : (t : ℕ) → KeepsWhere t (IsOff t)
keeps_off t v w s h = keeps_at v w s h t

failed_stays : (h : Held) (u : List Track) (s : DeviceStore) (side : Side) (v w : List Track) (z : DeviceStore) (k : Held) →
    Failed None h u (fell s.paired s side) v w z k → Stays s z
failed_stays h u s side v w z k f =
    stays_on s (fell s.paired s side) z (stays_fell s.paired s side) (stays_by (fell s.paired s side) h z k f.base)

module _ (u : List Track) (y : DeviceStore) (t : ℕ) (may : Option (HalfWrite Image) → Type 0) (keeps : KeepsWhere t may) where
  module _ (v w : List Track) (s : DeviceStore) (h : Held) (i : InOrder v w s h) (lt : t < tracks_of s) (off : may s.half) where
    side_a : level_at s.a t ≡ true → patched_by (patch_at s t) (image_read s.geometry t (get_or h.a t [])) ≡ Some (image_in s w t)
    unfolding T.contents_at
    side_a level = (keeps v w s h i.sure lt (not_lost s t lt i.well (or_left (level_at s.a t) (level_at s.b t) level)) off).a level

    side_b : level_at s.b t ≡ true → patched_by (patch_at s t) (image_read s.geometry t (get_or h.b t [])) ≡ Some (image_in s w t)
    unfolding T.contents_at
    side_b level = (keeps v w s h i.sure lt (not_lost s t lt i.well (or_right (level_at s.a t) (level_at s.b t) level)) off).b level

  abbrev Gives : List Track → List Track → DeviceStore → Got (List ℕ) → Got Bool → Held → Type 0
  Gives v w z g m k = GotTwin u y t v w z g m k

  b_failed : (v w : List Track) (s : DeviceStore) (h : Held) (fault : Option Side) → InOrder v w s h → v ≡ u → Stays y s →
      Twins Gives (second_read contents fault s None) (second_read by_plain fault (marks_of v w s) None) h
  b_failed v w s h fault i plain stays =
      twin_then _ _ (failed_twin None h v w s B i.sure i.told)
      (λ v' w' z _ _ k f. twin_done (record {
        order = record { sure = f.but; told = f.told };
        plain = f.plain ∙ plain;
        stays = stays_on y s z stays (failed_stays h v s B v' w' z k f);
        bytes = tt;
        side = refl;
        fault = refl;
      }))

  b_read : (v w : List Track) (s : DeviceStore) (h : Held) (fault : Option Side) → InOrder v w s h → t < tracks_of s → may s.half → v ≡ u →
      Stays y s → Twins Gives (read_b contents s t fault) (read_b by_plain (marks_of v w s) t fault) h
  b_read v w s h fault i lt off plain stays =
      on_test (level_at s.b t)
      (λ on. both_read (b_failed v w (read_counted s false) h fault (counted_order v w s h false i) plain (still stays false))
      (twin_done (record {
        order = let o = counted_order v w s h true i in record { sure = o.sure; told = o.told };
        plain = plain;
        stays = still stays true;
        bytes = (refl, side_b v w s h i lt off on);
        side = refl;
        fault = refl;
      })))
      (λ no. twin_done (record {
        order = record { sure = i.sure; told = i.told };
        plain = plain;
        stays = stays;
        bytes = tt;
        side = refl;
        fault = refl;
      }))
    where
      still : Stays y s → (ok : Bool) → Stays y (read_counted s ok)
      still e ok = record { geometry = e.geometry; cylinders = e.cylinders; half = e.half }

  a_failed : (v w : List Track) (s : DeviceStore) (h : Held) → InOrder v w s h → t < tracks_of s → may s.half → v ≡ u → Stays y s →
      Twins Gives (first_read contents t s None) (first_read by_plain t (marks_of v w s) None) h
  a_failed v w s h i lt off plain stays =
      twin_then _ _ (twin_always (failed_twin None h v w s A i.sure i.told) (failed_call_keeps_good contents device_is_faithful s A i.well))
      (λ v' w' z _ _ k f. let st = failed_stays h v s A v' w' z k f.0 in
      b_read v' w' z k (Some A) (record { sure = f.0.but; told = f.0.told; well = f.1.well })
      (let same = f.1.tracks in omega arith) (subst may (sym st.half) off) (f.0.plain ∙ plain) (stays_on y s z stays st))

  pub bytes_by : (w : List Track) (h : Held) → InOrder u w y h → t < tracks_of y → may y.half →
      Twins Gives (level_bytes contents y t) (level_bytes by_plain (marks_of u w y) t) h
  unfolding I.level_bytes
  bytes_by w h i lt off =
      on_test (level_at y.a t)
      (λ on. both_read
      (a_failed u w (read_counted y false) h (counted_order u w y h false i) lt off refl (record { geometry = refl; cylinders = refl; half = refl }))
      (twin_done (record {
        order = let o = counted_order u w y h true i in record { sure = o.sure; told = o.told };
        plain = refl;
        stays = record { geometry = refl; cylinders = refl; half = refl };
        bytes = (refl, side_a u w y h i lt off on);
        side = refl;
        fault = refl;
      })))
      (λ no. b_read u w y h None i lt off refl (stays_same y))

pub bytes_twin : (v w : List Track) (s : DeviceStore) (h : Held) (t : ℕ) → InOrder v w s h → t < tracks_of s → half_is s.half t ≡ false →
    Twins (λ v' w' z g m k. GotTwin v s t v' w' z g m k) (level_bytes contents s t) (level_bytes by_plain (marks_of v w s) t) h
bytes_twin v w s h t = bytes_by v s t (IsOff t) (keeps_off t) w h

-- Loading

pub record Looks (u : List Track) (s : DeviceStore) (t : ℕ) (v w : List Track) (z : DeviceStore) (a b : Option Imaged) (k : Held) : Type 0 where
  pub order : Ordered v w z k
  pub plain : v ≡ u
  pub stays : Stays s z
  pub same : a ≡ b
  pub image : (i : Image) → a ≡ Some (Has i) → i ≡ image_in s u t
  pub bad : (side : Side) → a ≢ Some (BadTrack side)

-- a frame with the plain track, of one that isn't lost
framed_order : (v w : List Track) (s : DeviceStore) (h : Held) (t : ℕ) (i : Image) (m : Bool) → i ≡ image_in s v t → t < tracks_of s →
    is_lost s t ≡ false → half_is s.half t ≡ false → Ordered v w s h → Ordered v w (framed contents s t i m) h
framed_order v w s h t i m is lt there off o =
    altered_order o (altered_frame s h t lt o.sure.ground.sizes (Some f)) lt (record { loose = refl; patch = refl; freed = refl }) refl refl
    (λ _. right_keeps s.geometry t s.half (record (contents_at s h t) { frame = Some f }) (image_in s v t) (image_in s w t) off
    (record { frame = λ g e. framed_is g e; a = kept.a; b = kept.b; patch = kept.patch }))
  where
    f : Frame
    f = record { image = i; modified = m }

    kept : Keeps s.geometry t (contents_at s h t) (image_in s v t) (image_in s w t)
    kept = keeps_at v w s h t o.sure lt there off

    framed_is : (g : Frame) → Some f ≡ Some g → g.image ≡ image_in s v t
    framed_is g e = ap (λ (x : Image). x) (let same : g.image ≡ i = cc in same) ∙ is

-- behind a filling
pub record Fills (u : List Track) (s : DeviceStore) (v w : List Track) (z : DeviceStore) (k : Held) : Type 0 where
  pub order : Ordered v w z k
  pub plain : v ≡ u
  pub stays : Stays s z

pub filled_twin : (v w : List Track) (s : DeviceStore) (h : Held) (t : ℕ) (i : Image) → i ≡ image_in s v t → t < tracks_of s →
    is_lost s t ≡ false → half_is s.half t ≡ false → Ordered v w s h →
    Twins (λ v' w' z _ _ k. Fills v s v' w' z k) (filled contents s t i) (filled by_plain (marks_of v w s) t i) h
filled_twin v w s h t i is lt there off o =
    on_tests (is_some (patch_at s t)) (is_some (patch_at (marks_of v w s) t)) (has_patch_twin v w s t)
    (λ _. ask_modified s.device t (λ _. twin_ends (with_frame_twin v w s t (Some (record { image = i; modified = true })))
    (record { order = framed_order v w s h t i true is lt there off o; plain = refl; stays = record { geometry = refl; cylinders = refl; half = refl } })))
    (λ _. twin_ends (with_frame_twin v w s t (Some (record { image = i; modified = false })))
    (record { order = framed_order v w s h t i false is lt there off o; plain = refl; stays = record { geometry = refl; cylinders = refl; half = refl } }))
