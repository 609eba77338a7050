-- A write that is done: the edit takes effect, the frame is the new track or goes, and so does the patch. All is right then.
use Rattle.std.proofs.Common.{◌≡◌, ◌≢◌, ◌<◌, ℕ, Bool, true, false, List, Option, Some, None, is_some, set, refl, sym, ap, subst, ◌∙◌, arith, ◌⊎◌, inl, inr}
use Rattle.std.proofs.lemmas.Bool.{cases_eq}
use Rattle.std.specs.Prelude.{option_map, Result, Ok}
use Rattle.ckd_types.specs.declared.geometry.Geometry.{Geometry}
use Rattle.ckd_types.specs.declared.record.Edit.{Edit}
use Rattle.ckd_types.specs.declared.record.Track.{Track}
use Rattle.ckd_types.specs.Geometry.{cchh_of}
use Rattle.ckd_types.specs.Track.{Fits, track_bytes}
use Rattle.ckd_types.specs.Volume.{track_in}
use Rattle.ckd_types.specs.declared.geometry.Cchh.{Cchh}
use Rattle.track_image.specs.Reading.{reading}
use Rattle.track_image.proofs.Tracks.{reading_again}
use Rattle.track_cache.specs.declared.frames.Frame.{Frame}
use Rattle.nv_store.specs.declared.patches.Stored.{Stored}
use Rattle.device_outside.specs.Both.{both_free}
use Rattle.device_outside.specs.Pool.{FreeSlot}
use Rattle.device_outside.specs.Slots.{held_after}
use Rattle.device_outside.proofs.BothRules.{on_test, on_tests}
use Rattle.device_defs.specs.Contents.{contents, by_plain, image_with, image_read, patched_by}
use Rattle.device_defs.specs.Effects.{with_edit}
use Rattle.device_defs.specs.Losses.{slot_in}
use Rattle.device_defs.specs.Marks.{marks_of, frame_mark, patch_mark}
use Rattle.device_defs.specs.Sound.{DeviceStore}
use Rattle.device_defs.specs.Store.{tracks_of, frame_at, patch_at, is_loose, half_is, with_frame, with_patch}
use Rattle.device_defs.specs.Writing as W
use Rattle.device_defs.specs.Writing.{slot_freed, unpatched, write_done}
use Rattle.device_laws.specs.Agrees.{Held, image_in, slot_at}
use Rattle.device_laws.specs.Twin.{Twins}
use Rattle.device_laws.proofs.ContentChanges as C
use Rattle.device_laws.proofs.ContentChanges.{
  base_of,
  Altered,
  altered_frame,
  altered_patch,
  slot_of,
  slot_is,
  sits_still,
  RightBut,
  Sure,
  right_altered,
  shut,
  similar_right,
  beside_right,
}
use Rattle.device_laws.proofs.PlainVolumes.{put_here, put_elsewhere, put_volume}
use Rattle.device_laws.proofs.TrackContents as T
use Rattle.device_laws.proofs.TrackContents.{TrackContents, contents_at, FrameHas, IsRight, none_fits}
use Rattle.device_laws.proofs.TwinAsks.{ask_clean, ask_drop, Stays, stays_same, Ordered, right_keeps}
use Rattle.device_laws.proofs.TwinChanges.{patch_twin, has_frame_twin, with_frame_twin, with_patch_twin}
use Rattle.device_laws.proofs.TwinSettled.{AllTold, told_altered}
use Rattle.device_laws.proofs.TwinSlots.{may_free, freed_slots}
use Rattle.device_laws.proofs.TwinWalks.{twin_done, twin_ends, twin_weaker}
use Rattle.device_laws.proofs.EachTrack.{each_track}

-- the bytes of a track that fits are that track
pub read_back : (g : Geometry) (t : ℕ) (x : Track) → Fits g x → x.home ≡ cchh_of t →
    patched_by None (image_read g t (track_bytes x)) ≡ Some (record { geometry = g; track = x })
read_back g t x fits home =
    ap (λ (r : Result Track ℕ). patched_by None (image_with g r))
    (subst (λ (c : Cchh). reading g c (track_bytes x) ≡ Ok x) home (reading_again g x fits))

-- A track is put into both volumes while it is being written
pub put_right : (t : ℕ) (v w : List Track) (s : DeviceStore) (h : Held) (x : Track) → t < tracks_of s → RightBut (Some t) v w s h → x.home ≡ cchh_of t →
    Fits s.geometry x → RightBut (Some t) (set v t x) (set w t x) s h
put_right t v w s h x lt b home fits = record {
  ground = record {
    sizes = b.ground.sizes;
    plain = put_volume s.geometry s.cylinders v t x b.ground.plain lt home fits;
    firm = put_volume s.geometry s.cylinders w t x b.ground.firm lt home fits;
    same = each_track (λ q. q < tracks_of s → is_loose s q ≡ false → track_in (set w t x) q ≡ track_in (set v t x) q) t
        (λ below e. put_here w t x (let long = b.ground.firm.tracks in omega arith)
        ∙ sym (put_here v t x (let long = b.ground.plain.tracks in omega arith)))
        (λ q ne below e. put_elsewhere w t x q ne ∙ b.ground.same q below e ∙ sym (put_elsewhere v t x q ne));
    apart = b.ground.apart;
    patches = b.ground.patches;
    long = b.ground.long;
    slots = b.ground.slots;
  };
  right = λ q below ne. right_at q below ne (λ e. ne (ap Some (sym e)));
}
  where
    right_at : (q : ℕ) → q < tracks_of s → Some t ≢ Some q → q ≢ t →
        IsRight s.geometry q s.half (contents_at s h q) (image_in s (set v t x) q) (image_in s (set w t x) q)
    right_at q below ne off = rw (put_elsewhere v t x q off) (rw (put_elsewhere w t x q off) (b.right q below ne))

pub edit_right : (t : ℕ) (v w : List Track) (s : DeviceStore) (h : Held) (e : Edit) → RightBut (Some t) v w s h → RightBut (Some t) v w (with_edit s t e) h
edit_right t v w s h e b = beside_right b

-- Both volumes have the new track, and so has each level side
module _ (t : ℕ) (v w : List Track) (x : Track) where
  pub record Closing (z : DeviceStore) (k : Held) : Type 0 where
    pub but : RightBut (Some t) v w z k
    pub told : AllTold z k
    pub below : t < tracks_of z
    pub off : half_is z.half t ≡ false
    pub plain : track_in v t ≡ x
    pub firm : track_in w t ≡ x
    pub home : x.home ≡ cchh_of t
    pub fits : Fits z.geometry x
    pub a : (contents_at z k t).a ≡ true → (contents_at z k t).on_a ≡ track_bytes x
    pub b : (contents_at z k t).b ≡ true → (contents_at z k t).on_b ≡ track_bytes x

  side_read : (z : DeviceStore) (p : Option Stored) (bytes : List ℕ) → Fits z.geometry x → x.home ≡ cchh_of t → p ≡ None → bytes ≡ track_bytes x →
      patched_by p (image_read z.geometry t bytes) ≡ Some (record { geometry = z.geometry; track = x })
  side_read z p bytes fits home none is =
      ap (λ (o : Option Stored). patched_by o (image_read z.geometry t bytes)) none
      ∙ ap (λ (l : List ℕ). patched_by None (image_read z.geometry t l)) is ∙ read_back z.geometry t x fits home

  -- without a patch, and with the new track as frame or with none
  closed_sure : (z : DeviceStore) (k : Held) → Closing z k → (contents_at z k t).patch ≡ None →
      FrameHas (contents_at z k t).frame (record { geometry = z.geometry; track = x }) → Sure v w z k
  closed_sure z k c none frame =
      shut t v w z k c.but (rw c.plain (rw c.firm
      (right_keeps z.geometry t z.half (contents_at z k t) (record { geometry = z.geometry; track = x }) (record { geometry = z.geometry; track = x }) c.off
      (record {
        frame = frame;
        a = λ e. side_read z (contents_at z k t).patch (contents_at z k t).on_a c.fits c.home none (c.a e);
        b = λ e. side_read z (contents_at z k t).patch (contents_at z k t).on_b c.fits c.home none (c.b e);
        patch = none_fits (contents_at z k t).patch (record { geometry = z.geometry; track = x }) (record { geometry = z.geometry; track = x }) none;
      }))))

  pub record Shuts (s : DeviceStore) (v' w' : List Track) (z : DeviceStore) (k : Held) : Type 0 where
    pub order : Ordered v' w' z k
    pub plain : v' ≡ v
    pub stays : Stays s z

  -- a change of the track's frame or patch
  closing_frame : (z : DeviceStore) (k : Held) (f : Option Frame) → Closing z k → Closing (with_frame z t f) k
  closing_frame z k f c =
      let e = altered_frame z k t c.below c.but.ground.sizes f in
      let y = record (contents_at z k t) { frame = f } in
      record {
        but = similar_right c.but e c.below (record { loose = refl; patch = refl; freed = refl }) refl (λ ne. absurd (ne refl));
        told = told_altered z k (with_frame z t f) k t y c.told e refl;
        below = c.below;
        off = c.off;
        plain = c.plain;
        firm = c.firm;
        home = c.home;
        fits = c.fits;
        a = λ l. ap (λ (d : TrackContents). d.on_a) e.here ∙ c.a (sym (ap (λ (d : TrackContents). d.a) e.here) ∙ l);
        b = λ l. ap (λ (d : TrackContents). d.on_b) e.here ∙ c.b (sym (ap (λ (d : TrackContents). d.b) e.here) ∙ l);
      }

  frame_is : (z : DeviceStore) (k : Held) (f : Option Frame) → Closing z k → (contents_at (with_frame z t f) k t).frame ≡ f
  frame_is z k f c = ap (λ (d : TrackContents). d.frame) (altered_frame z k t c.below c.but.ground.sizes f).here

  patch_mark_is : (z : DeviceStore) (k : Held) → (contents_at z k t).patch ≡ patch_at z t
  unfolding T.contents_at
  patch_mark_is z k = refl

  -- The patch goes with its slot

  module _ (z : DeviceStore) (k : Held) (c : Closing z k) (p : Stored) (patched : patch_at z t ≡ Some p) where
    gone : Altered z k (with_patch z t None) k t (record (contents_at z k t) { patch = None })
    gone = altered_patch z k t c.below c.but.ground.sizes None

    slot_there : slot_at z true t ≡ Some p.slot
    slot_there = ap (slot_in contents) patched

    slot_gone : slot_at (with_patch z t None) true t ≡ None
    slot_gone = slot_is (with_patch z t None) k true t ∙ ap (slot_of true) gone.here

    slots_still : (kept : Bool) (q n : ℕ) → slot_at (with_patch z t None) kept q ≡ Some n → slot_at z kept q ≡ Some n
    slots_still kept q n e = by_place kept (cases_eq q t) e
      where
        by_place : (kept : Bool) → ((q ≡ t) ⊎ (q ≢ t)) → slot_at (with_patch z t None) kept q ≡ Some n → slot_at z kept q ≡ Some n
        by_place true (inl at) e =
            absurd (let f : slot_at (with_patch z t None) true t ≡ Some n = subst (λ (r : ℕ). slot_at (with_patch z t None) true r ≡ Some n) at e in
            let g = slot_gone in cc)
        by_place false (inl at) e = e
        by_place true (inr ne) e = slot_is z k true q ∙ sym (ap (slot_of true) (gone.elsewhere q ne)) ∙ sym (slot_is (with_patch z t None) k true q) ∙ e
        by_place false (inr ne) e = e

    same_at : (y : DeviceStore) (q : ℕ) → contents_at y (record k { slots = held_after k.slots (FreeSlot p.slot) (tt {0}) }) q ≡ contents_at y k q
    unfolding T.contents_at
    same_at y q = refl

    gone_after : Altered z k (with_patch z t None) (record k { slots = held_after k.slots (FreeSlot p.slot) (tt {0}) }) t (record
        (contents_at z k t) { patch = None })
    unfolding C.base_of
    gone_after = record {
      sizes = gone.sizes;
      base = gone.base;
      elsewhere = λ q ne. same_at (with_patch z t None) q ∙ gone.elsewhere q ne;
      here = same_at (with_patch z t None) t ∙ gone.here;
    }

    closing_patch : Closing (with_patch z t None) (record k { slots = held_after k.slots (FreeSlot p.slot) (tt {0}) })
    closing_patch =
        let e = gone_after in
        let y = record (contents_at z k t) { patch = None } in
        let n : Held = record k { slots = held_after k.slots (FreeSlot p.slot) (tt {0}) } in
        let still = sits_still v w z k t (contents_at z k t) c.below c.but.ground refl refl in
        record {
          but = right_altered (Some t) v w z k (with_patch z t None) n t y c.but e
              (record { same = still.same; patch = λ o l. absurd (cc); apart = still.apart })
              (freed_slots z (with_patch z t None) true t p.slot slot_there slots_still slot_gone k.slots c.but.ground.slots)
              (λ ne. absurd (ne refl));
          told = told_altered z k (with_patch z t None) n t y c.told e refl;
          below = c.below;
          off = c.off;
          plain = c.plain;
          firm = c.firm;
          home = c.home;
          fits = c.fits;
          a = λ l. ap (λ (d : TrackContents). d.on_a) e.here ∙ c.a (sym (ap (λ (d : TrackContents). d.a) e.here) ∙ l);
          b = λ l. ap (λ (d : TrackContents). d.on_b) e.here ∙ c.b (sym (ap (λ (d : TrackContents). d.b) e.here) ∙ l);
        }

    freed_twin : FrameHas (contents_at z k t).frame (record { geometry = z.geometry; track = x }) →
        Twins (λ v' w' y _ _ n. Shuts z v' w' y n) (slot_freed contents z t (Some p.slot)) (slot_freed by_plain (marks_of v w z) t (Some 0)) k
    freed_twin frame =
        let e = gone_after in
        let n : Held = record k { slots = held_after k.slots (FreeSlot p.slot) (tt {0}) } in
        both_free (may_free z (with_patch z t None) true t p.slot slot_there slots_still slot_gone k.slots c.but.ground.slots)
        (twin_ends (with_patch_twin v w z t None)
        (record {
          order = record {
            sure = closed_sure (with_patch z t None) n closing_patch (ap (λ (d : TrackContents). d.patch) e.here)
                (rw (ap (λ (d : TrackContents). d.frame) e.here) frame);
            told = closing_patch.told;
          };
          plain = refl;
          stays = record { geometry = refl; cylinders = refl; half = refl };
        }))

  unpatched_by : (z : DeviceStore) (k : Held) → Closing z k → FrameHas (contents_at z k t).frame (record { geometry = z.geometry; track = x }) →
      (p : Option Stored) → patch_at z t ≡ p →
      Twins (λ v' w' y _ _ n. Shuts z v' w' y n) (slot_freed contents z t (slot_in contents p))
      (slot_freed by_plain (marks_of v w z) t (slot_in by_plain (option_map patch_mark p))) k
  unpatched_by z k c frame None e =
      twin_done (record { order = record { sure = closed_sure z k c (patch_mark_is z k ∙ e) frame; told = c.told }; plain = refl; stays = stays_same z })
  unpatched_by z k c frame (Some p) e = freed_twin z k c p e frame

  unpatched_twin : (z : DeviceStore) (k : Held) → Closing z k → FrameHas (contents_at z k t).frame (record { geometry = z.geometry; track = x }) →
      Twins (λ v' w' y _ _ n. Shuts z v' w' y n) (unpatched contents z t) (unpatched by_plain (marks_of v w z) t) k
  unpatched_twin z k c frame = rw (patch_twin v w z t) (unpatched_by z k c frame (patch_at z t) refl)

  no_frame : (z : DeviceStore) (k : Held) → is_some (frame_at z t) ≡ false → FrameHas (contents_at z k t).frame (record { geometry = z.geometry; track = x })
  unfolding T.contents_at
  no_frame z k none f e = absurd (let some = ap is_some e in cc)

  -- the frame becomes the new track, or is dropped
  pub write_done_twin : (z : DeviceStore) (k : Held) (bypass : Bool) → Closing z k →
      Twins (λ v' w' y _ _ n. Shuts z v' w' y n) (write_done contents z t (record { geometry = z.geometry; track = x }) bypass)
      (write_done by_plain (marks_of v w z) t (record { geometry = z.geometry; track = x }) bypass) k
  unfolding W.write_done
  write_done_twin z k bypass c =
      on_tests (is_some (frame_at z t)) (is_some (frame_at (marks_of v w z) t)) (has_frame_twin v w z t)
      (λ _. on_test bypass
      (λ _. ask_drop z.device t (framed None (λ f e. absurd (cc))))
      (λ _. ask_clean z.device t (framed (Some (record { image = record { geometry = z.geometry; track = x }; modified = false })) (λ f e. image_is f e))))
      (λ none. unpatched_twin z k c (no_frame z k none))
    where
      image_is : (f : Frame) → Some (record { image = record { geometry = z.geometry; track = x }; modified = false }) ≡ Some f →
          f.image ≡ record { geometry = z.geometry; track = x }
      image_is f e = cc

      framed : (f : Option Frame) → FrameHas f (record { geometry = z.geometry; track = x }) →
          Twins (λ v' w' y _ _ n. Shuts z v' w' y n) (unpatched contents (with_frame z t f) t)
          (unpatched by_plain (with_frame (marks_of v w z) t (option_map frame_mark f)) t) k
      framed f has =
          rw (← (with_frame_twin v w z t f)) (twin_weaker
          (unpatched_twin (with_frame z t f) k (closing_frame z k f c) (rw (frame_is z k f c) has))
          (λ v' w' y _ _ n e. record {
            order = e.order;
            plain = e.plain;
            stays = record {
              geometry = e.stays.geometry;
              cylinders = e.stays.cylinders;
              half = e.stays.half;
            };
          }))
