-- The second part of a write leaves all right, by whose write it is, and the plain volume has a command's edit where it is done; with its twin on marks.
use Rattle.std.proofs.Common.{◌≡◌, ◌≢◌, ◌<◌, ◌==◌, ℕ, Bool, true, false, List, Option, Some, None, set, refl, sym, ap, subst, ◌∙◌, arith}
use Rattle.std.specs.Prelude.{option_map, is_some, if◌then◌else◌}
use Rattle.ckd_types.specs.declared.geometry.Geometry.{Geometry}
use Rattle.ckd_types.specs.declared.record.Edit.{Edit}
use Rattle.ckd_types.specs.declared.record.Track.{Track}
use Rattle.ckd_types.specs.Edit.{apply_edit}
use Rattle.ckd_types.specs.Track.{Fits, track_bytes}
use Rattle.ckd_types.specs.Volume.{track_in}
use Rattle.ckd_write.proofs.Fitting.{edited_fits}
use Rattle.track_image.specs.Image.{Image, edited_image}
use Rattle.track_cache.specs.declared.frames.Frame.{Frame}
use Rattle.device_outside.specs.Both.{both_tell}
use Rattle.device_outside.specs.Interaction.{Done}
use Rattle.device_outside.proofs.BothRules.{on_test}
use Rattle.device_defs.specs.Contents.{Contents, contents, by_plain}
use Rattle.device_defs.specs.Effects.{with_edit}
use Rattle.device_defs.specs.Losses as L
use Rattle.device_defs.specs.Losses.{settled, by_frame, lost_now, without_patch}
use Rattle.device_defs.specs.Marks.{MarksStore, marks_of, frame_mark, half_mark}
use Rattle.device_defs.specs.Second as S
use Rattle.device_defs.specs.Second.{plainly_written, half_closed, finished, second_done, cut_kept, second_absent, second_part}
use Rattle.device_defs.specs.Sound.{DeviceStore, written_on}
use Rattle.device_defs.specs.Store.{
  Origin,
  OfCommand,
  OfCut,
  OfBackground,
  HalfWrite,
  Store,
  tracks_of,
  level_at,
  has_level,
  frame_at,
  is_lost,
  is_loose,
  half_is,
  with_frame,
  with_lost,
}
use Rattle.device_laws.specs.Agrees.{Held, image_in, PatchHas, PatchOf, slot_at}
use Rattle.device_laws.specs.PlainWrites.{SuitsTrack, plain_second, OriginSuits}
use Rattle.device_laws.specs.Twin.{Twins}
use Rattle.device_laws.proofs.Bools.{neither}
use Rattle.device_laws.proofs.ContentChanges.{
  Altered,
  altered_frame,
  altered_lost,
  same_slots,
  sits_still,
  RightBut,
  Sure,
  right_altered,
  shut,
  opens_write,
  altered_then,
  loose_is,
}
use Rattle.device_laws.proofs.PlainVolumes.{put_here}
use Rattle.device_laws.proofs.Sweeps.{is_free, is_alone}
use Rattle.device_laws.proofs.TrackMarks as M
use Rattle.device_laws.proofs.TrackMarks.{track_at, device_is_faithful}
use Rattle.device_laws.proofs.TrackContents as T
use Rattle.device_laws.proofs.TrackContents.{
  TrackContents,
  contents_at,
  FrameHas,
  FrameOf,
  Writes,
  IsRight,
  held_of,
  right_lost,
  keeps_other,
  writes_own,
  not_both,
  lost_case,
  HeldBy,
  Keeps,
}
use Rattle.device_laws.proofs.TwinAsks.{Stays, stays_same, stays_by, stays_image, InOrder, Ordered, right_keeps, SameSize, size_of, size_on}
use Rattle.device_laws.proofs.TwinChanges.{frame_twin, with_frame_twin, without_patch_twin}
use Rattle.device_laws.proofs.TwinDone.{Closing, put_right, edit_right, write_done_twin}
use Rattle.device_laws.proofs.TwinSettled.{AllTold, told_altered, told_debts, settled_pair, settled_told, unpatched, altered_unpatched, unpatched_slots}
use Rattle.device_laws.proofs.TwinWalks.{Pair, pair_weaker, twin_done, twin_ends, twin_then, twin_always}
use Rattle.device_laws.proofs.TwinWrites.{Written, sided_same, second_twin}
use Rattle.device_laws.proofs.Writes.{write_second_keeps_others}

pub record Seconds (u : List Track) (s : DeviceStore) (origin : Origin) (t : ℕ) (v w : List Track) (z : DeviceStore) (a b : Bool) (k : Held) : Type 0 where
  pub order : Ordered v w z k
  pub same : a ≡ b
  pub plain : v ≡ plain_second origin a u t
  pub size : SameSize s z

-- settling a track that isn't loose
pub settled_ends : (v w : List Track) (z : DeviceStore) (k : Held) (t : ℕ) → t < tracks_of z → Sure v w z k → AllTold z k → is_loose z t ≡ false →
    Pair (λ v' w' y. (Ordered v' w' y k) × ((v' ≡ v) × (Stays z y))) (settled contents z t) (settled by_plain (marks_of v w z) t)
settled_ends v w z k t lt sure told firm =
    pair_weaker
    (settled_pair None k v w z t lt sure (told_debts None z k told) (λ e. absurd (cc)))
    (λ v' w' e. (
      record { sure = e.but; told = settled_told None k v w z t lt sure (told_debts None z k told) (λ e. absurd (cc)) told firm },
      (e.plain, stays_by z k (settled contents z t) k e.base),
    ))

pub plainly_is : (v w : List Track) (s : DeviceStore) (t : ℕ) (origin : Origin) → plainly_written (marks_of v w s) t origin ≡ written_on (image_in s v t) origin
plainly_is v w s t (OfCommand bypass e) = refl
plainly_is v w s t (OfCut bypass) = refl
plainly_is v w s t OfBackground = refl

-- The half write is closed

closed_slots : (z : DeviceStore) (kept : Bool) (q : ℕ) → slot_at (half_closed z) kept q ≡ slot_at z kept q
closed_slots z true q = refl
closed_slots z false q = refl

closed_contents : (z : DeviceStore) (k : Held) (q : ℕ) → contents_at (half_closed z) k q ≡ contents_at z k q
unfolding T.contents_at
closed_contents z k q = refl

closed_right : (hw : HalfWrite Image) (v w : List Track) (z : DeviceStore) (k : Held) → z.half ≡ Some hw → RightBut (Some hw.track) v w z k →
    RightBut (Some hw.track) v w (half_closed z) k
closed_right hw v w z k is b = record {
  ground = record {
    sizes = record { are = b.ground.sizes.are };
    plain = b.ground.plain;
    firm = b.ground.firm;
    same = b.ground.same;
    apart = λ q e. refl;
    patches = b.ground.patches;
    long = b.ground.long;
    slots = same_slots z (half_closed z) k.slots (closed_slots z) b.ground.slots;
  };
  right = λ q lt ne.
      rw (closed_contents z k q) (right_at q (λ e. ne (ap Some (sym e))) (b.right q lt ne));
}
  where
    right_at : (q : ℕ) → q ≢ hw.track → IsRight z.geometry q z.half (contents_at z k q) (image_in z v q) (image_in z w q) →
        IsRight z.geometry q None (contents_at z k q) (image_in z v q) (image_in z w q)
    right_at q off =
        lost_case (HeldBy z.geometry q (contents_at z k q) (image_in z v q) (image_in z w q) z.half)
        (Keeps z.geometry q (contents_at z k q) (image_in z v q) (image_in z w q)) (contents_at z k q).lost (contents_at z k q).lost (λ e. e)
        (λ r. keeps_other z.geometry q hw (contents_at z k q) (image_in z v q) (image_in z w q)
        (let other : (hw.track == q) ≡ false = grind arith in other)
        (subst (λ (n : Option (HalfWrite Image)). HeldBy z.geometry q (contents_at z k q) (image_in z v q) (image_in z w q) n) is r))

closed_told : (z : DeviceStore) (k : Held) → AllTold z k → AllTold (half_closed z) k
unfolding T.contents_at
closed_told z k told = told

-- a track that is level on no side and has no frame is lost
settles_by : {X : Type 0} (lent lost level half : Bool) (s x : X) → lent ≡ false → lost ≡ false → level ≡ false → half ≡ false →
    (if lent then s else if lost then s else if level then s else if half then s else x) ≡ x
settles_by false false false false s x a b c d = refl
settles_by true lost level half s x a b c d = absurd (cc)
settles_by false true level half s x a b c d = absurd (cc)
settles_by false false true half s x a b c d = absurd (cc)
settles_by false false false true s x a b c d = absurd (cc)

settles_lost : {F P H R : Type 0} (c : Contents F P H R) (s : Store F P H) (t : ℕ) → is_some s.lent ≡ false → is_lost s t ≡ false → has_level s t ≡ false →
    frame_at s t ≡ None → half_is s.half t ≡ false → settled c s t ≡ lost_now c s t
unfolding L.settled
settles_lost {F = F} c s t free there off none half =
    ap (λ (o : Option F). if is_some s.lent then s else if is_lost s t then s else if has_level s t then s else by_frame c s t o) none
    ∙ settles_by (is_some s.lent) (is_lost s t) (has_level s t) (half_is s.half t) s (lost_now c s t) free there off half

module _ (u w0 : List Track) (s : DeviceStore) (h : Held) (hw : HalfWrite Image) (is_half : s.half ≡ Some hw) (lt : hw.track < tracks_of s)
    (there : (contents_at s h hw.track).lost ≡ false) (o : InOrder u w0 s h) (suits : OriginSuits s.geometry (track_in u hw.track) hw.origin) where
  abbrev t : ℕ
  t = hw.track

  abbrev r : List ℕ
  r = track_bytes hw.image.track

  own_half : (hw.track == hw.track) ≡ true
  own_half = grind arith

  half_own : half_is s.half t ≡ true
  half_own = ap (λ (n : Option (HalfWrite Image)). half_is n t) is_half ∙ own_half

  firm : is_loose s t ≡ false
  firm = by_case (is_loose s t) refl
    where
      by_case : (b : Bool) → is_loose s t ≡ b → b ≡ false
      by_case true e = absurd (let f = o.sure.ground.apart t e in let g = half_own in cc)
      by_case false e = refl

  writes : Writes (contents_at s h t) (image_in s u t) hw
  writes =
      writes_own s.geometry t hw (contents_at s h t) (image_in s u t) (image_in s w0 t) own_half
      (held_of s.geometry t (Some hw) (contents_at s h t) (image_in s u t) (image_in s w0 t) there
      (subst (λ (n : Option (HalfWrite Image)). IsRight s.geometry t n (contents_at s h t) (image_in s u t) (image_in s w0 t)) is_half
      (o.sure.right t lt (λ e. absurd (cc)))))

  begins : Written u s h t r u w0 s h
  begins = record {
    mid = record {
      but = opens_write t u w0 s h o.sure;
      told = o.told;
      plain = refl;
      stays = stays_same s;
      paired = refl;
      sided = sided_same (contents_at s h t);
    };
    a = writes.a;
    b = writes.b;
  }

  abbrev Ends : List Track → List Track → DeviceStore → Bool → Bool → Held → Type 0
  Ends v w z a b k = Seconds u s hw.origin t v w z a b k

  -- behind the write of side B
  module _ (v w : List Track) (z : DeviceStore) (k : Held) (d : Written u s h t r v w z k) where
    below : t < tracks_of z
    below = let same = d.mid.stays.cylinders in omega arith

    firm_now : is_loose z t ≡ false
    firm_now = loose_is z k t ∙ d.mid.sided.loose ∙ sym (loose_is s h t) ∙ firm

    but : RightBut (Some t) v w (half_closed z) k
    but = closed_right hw v w z k (d.mid.stays.half ∙ is_half) d.mid.but

    plain_is : image_in z v t ≡ image_in s u t
    plain_is = stays_image s z v t d.mid.stays ∙ ap (λ (l : List Track). image_in s l t) d.mid.plain

    firm_is : track_in w t ≡ track_in v t
    firm_is = d.mid.but.ground.same t below firm_now

    -- a track as it is, whose new image is the plain one
    closing_plain : hw.image ≡ image_in s u t → Closing t v w (track_in v t) (half_closed z) k
    closing_plain same = record {
      but = but;
      told = closed_told z k d.mid.told;
      below = below;
      off = refl;
      plain = refl;
      firm = firm_is;
      home = d.mid.but.ground.plain.homes t below;
      fits = d.mid.but.ground.plain.fits t below;
      a = λ l. ap (λ (c : TrackContents). c.on_a) (closed_contents z k t) ∙ d.a (sym (ap (λ (c : TrackContents). c.a) (closed_contents z k t)) ∙ l)
          ∙ bytes_is;
      b = λ l. ap (λ (c : TrackContents). c.on_b) (closed_contents z k t) ∙ d.b (sym (ap (λ (c : TrackContents). c.b) (closed_contents z k t)) ∙ l)
          ∙ bytes_is;
    }
      where
        bytes_is : track_bytes hw.image.track ≡ track_bytes (track_in v t)
        bytes_is = ap (λ (i : Image). track_bytes i.track) (same ∙ sym plain_is)

    finished_plain : (bypass : Bool) → hw.image ≡ image_in s u t → plain_second hw.origin true u t ≡ u →
        Twins Ends (finished contents (half_closed z) t hw.image bypass) (finished by_plain (half_closed (marks_of v w z)) t hw.image bypass) k
    finished_plain bypass same stays =
        rw (← (plain_is ∙ sym same)) (twin_then _ _ (write_done_twin t v w (track_in v t) (half_closed z) k bypass (closing_plain same))
        (λ v' w' y _ _ n f. twin_done (record {
          order = f.order;
          same = refl;
          plain = f.plain ∙ d.mid.plain ∙ sym stays;
          size = size_on (size_of d.mid.stays) (size_of f.stays);
        })))

    -- a command's edit takes effect
    module _ (bypass : Bool) (e : Edit) (image : hw.image ≡ edited_image e (image_in s u t)) (suit : SuitsTrack s.geometry (track_in u t) e) where
      abbrev n : Track
      n = apply_edit e (track_in v t)

      image_now : hw.image ≡ record { geometry = z.geometry; track = n }
      image_now = image ∙ ap (edited_image e) (sym plain_is)

      fits : Fits z.geometry n
      fits =
          edited_fits z.geometry (track_in v t) e (d.mid.but.ground.plain.fits t below)
          (rw d.mid.stays.geometry (rw d.mid.plain suit.suits)) suit.ranges

      edited_contents : (q : ℕ) → contents_at (with_edit (half_closed z) t e) k q ≡ contents_at z k q
      unfolding T.contents_at
      edited_contents q = refl

      edited_told : AllTold (with_edit (half_closed z) t e) k
      unfolding T.contents_at
      edited_told = d.mid.told

      closing_edit : Closing t (set v t n) (set w t n) n (with_edit (half_closed z) t e) k
      closing_edit = record {
        but = edit_right t (set v t n) (set w t n) (half_closed z) k e (put_right t v w (half_closed z) k n below but (d.mid.but.ground.plain.homes t below) fits);
        told = edited_told;
        below = below;
        off = refl;
        plain = put_here v t n (let long = d.mid.but.ground.plain.tracks in omega arith);
        firm = put_here w t n (let long = d.mid.but.ground.firm.tracks in omega arith);
        home = d.mid.but.ground.plain.homes t below;
        fits = fits;
        a = λ l. ap (λ (c : TrackContents). c.on_a) (edited_contents t) ∙ d.a (sym (ap (λ (c : TrackContents). c.a) (edited_contents t)) ∙ l) ∙ bytes_is;
        b = λ l. ap (λ (c : TrackContents). c.on_b) (edited_contents t) ∙ d.b (sym (ap (λ (c : TrackContents). c.b) (edited_contents t)) ∙ l) ∙ bytes_is;
      }
        where
          bytes_is : track_bytes hw.image.track ≡ track_bytes (apply_edit e (track_in v t))
          bytes_is = ap (λ (i : Image). track_bytes i.track) image_now

      edit_twin : plain_second hw.origin true u t ≡ set u t (apply_edit e (track_in u t)) →
          Twins Ends (second_done contents (half_closed z) t hw.image (OfCommand bypass e)) (second_done by_plain (half_closed (marks_of v w z)) t hw.image
          (OfCommand bypass e)) k
      edit_twin after =
          rw image_now (both_tell (λ _.
          twin_then _ _ (write_done_twin t (set v t n) (set w t n) n (with_edit (half_closed z) t e) k bypass closing_edit)
          (λ v' w' y _ _ m f. twin_done (record {
            order = f.order;
            same = refl;
            plain = f.plain ∙ ap (λ (l : List Track). set l t (apply_edit e (track_in l t))) d.mid.plain ∙ sym after;
            size = size_on (size_of d.mid.stays) (size_of f.stays);
          }))))

    done_by : (origin : Origin) → hw.origin ≡ origin → hw.image ≡ written_on (image_in s u t) origin → OriginSuits s.geometry (track_in u t) origin →
        Twins Ends (second_done contents (half_closed z) t hw.image origin) (second_done by_plain (half_closed (marks_of v w z)) t hw.image origin) k
    done_by (OfCommand bypass e) is image suit = edit_twin bypass e image suit (ap (λ (x : Origin). plain_second x true u t) is)
    done_by (OfCut bypass) is image suit = finished_plain bypass image (ap (λ (x : Origin). plain_second x true u t) is)
    done_by OfBackground is image suit = finished_plain false image (ap (λ (x : Origin). plain_second x true u t) is)

    -- No side has it

    levels_off : has_level z t ≡ false → ((contents_at (half_closed z) k t).a ≡ false) × ((contents_at (half_closed z) k t).b ≡ false)
    unfolding T.contents_at
    levels_off e = neither (level_at z.a t) (level_at z.b t) e

    absent_sure : (c : TrackContents) (y : DeviceStore) → contents_at y k t ≡ c → RightBut (Some t) v w y k → Stays (half_closed z) y → c.a ≡ false → c.b ≡ false →
        FrameHas c.frame (image_in z v t) → PatchHas c.patch (image_in z v t) → Sure v w y k
    absent_sure c y is b stays a no_b frame patch =
        shut t v w y k b
        (rw is (right_keeps y.geometry t y.half c (image_in y v t) (image_in y w t) (ap (λ (m : Option (HalfWrite Image)). half_is m t) stays.half)
        (record {
          frame = λ f l. frame f l ∙ sym (ap (λ (g : Geometry). record { geometry = g; track = track_in v t }) stays.geometry);
          a = λ l. absurd (not_both c.a a l);
          b = λ l. absurd (not_both c.b no_b l);
          patch = rw stays.geometry (rw firm_is (patch, patch));
        })))

    absent_ends : (y : DeviceStore) (m : MarksStore) → marks_of v w y ≡ m → Sure v w y k → AllTold y k → Stays (half_closed z) y → is_loose y t ≡ false →
        plain_second hw.origin false u t ≡ u →
        Twins Ends (Done (settled contents y t) false) (Done (settled by_plain m t) false) k
    absent_ends y m is sure told stays loose after =
        let f = settled_ends v w y k t (let same = stays.cylinders in let lt' = below in omega arith) sure told loose in
        rw (← is) (twin_ends f.marks (record {
          order = f.is.0;
          same = refl;
          plain = f.is.1.0 ∙ d.mid.plain ∙ sym after;
          size = size_on (size_of d.mid.stays) (size_on (size_of stays) (size_of f.is.1.1));
        }))

    frame_was : (f : Frame) → (contents_at (half_closed z) k t).frame ≡ Some f → (contents_at s h t).frame ≡ Some f
    frame_was f e = sym d.mid.sided.frame ∙ sym (ap (λ (c : TrackContents). c.frame) (closed_contents z k t)) ∙ e

    patch_was : (contents_at (half_closed z) k t).patch ≡ (contents_at s h t).patch
    patch_was = ap (λ (c : TrackContents). c.patch) (closed_contents z k t) ∙ d.mid.sided.patch

    kept_ends : has_level z t ≡ false → FrameHas (contents_at s h t).frame (image_in s u t) → PatchHas (contents_at s h t).patch (image_in s u t) →
        plain_second hw.origin false u t ≡ u →
        Twins Ends (Done (settled contents (half_closed z) t) false) (Done (settled by_plain (half_closed (marks_of v w z)) t) false) k
    kept_ends none frame patch after =
        let levels = levels_off none in
        absent_ends (half_closed z) (half_closed (marks_of v w z)) refl
        (absent_sure (contents_at (half_closed z) k t) (half_closed z) refl but (stays_same (half_closed z)) levels.0 levels.1
        (λ f e. frame f (frame_was f e) ∙ sym plain_is)
        (rw patch_was (subst (λ (i : Image). PatchHas (contents_at s h t).patch i) (sym plain_is) patch)))
        (closed_told z k d.mid.told) (stays_same (half_closed z)) firm_now after

    -- the frame of a command that was cut has the new track then, and its patch goes
    module _ (f : Frame) (image : hw.image ≡ image_in s u t) (none : has_level z t ≡ false) where
      abbrev fresh : Frame
      fresh = record { image = hw.image; modified = f.modified }

      abbrev framed : DeviceStore
      framed = with_frame (half_closed z) t (Some fresh)

      cut_altered : Altered (half_closed z) k (without_patch contents framed t) k t (unpatched (record (contents_at (half_closed z) k t) { frame = Some fresh }))
      cut_altered =
          let g = altered_frame (half_closed z) k t below but.ground.sizes (Some fresh) in
          let e = altered_unpatched framed k t below g.sizes in
          altered_then unpatched g e

      cut_right : RightBut (Some t) v w (without_patch contents framed t) k
      cut_right =
          let c = unpatched (record (contents_at (half_closed z) k t) { frame = Some fresh }) in
          let still = sits_still v w (half_closed z) k t (contents_at (half_closed z) k t) below but.ground refl refl in
          right_altered (Some t) v w (half_closed z) k (without_patch contents framed t) k t c but cut_altered
          (record { same = still.same; patch = λ p e. absurd (cc); apart = λ e. refl })
          (unpatched_slots (half_closed z) k (without_patch contents framed t) k t c cut_altered refl refl refl but.ground.slots) (λ ne. absurd (ne refl))

      fresh_is : (g : Frame) → Some fresh ≡ Some g → g.image ≡ image_in z v t
      fresh_is g e = (let same : g.image ≡ hw.image = cc in same) ∙ image ∙ sym plain_is

      loose_cut : is_loose (without_patch contents framed t) t ≡ false
      loose_cut =
          loose_is (without_patch contents framed t) k t ∙ ap (λ (c : TrackContents). c.loose) cut_altered.here
          ∙ ap (λ (c : TrackContents). c.loose) (closed_contents z k t) ∙ sym (loose_is z k t) ∙ firm_now

      cut_ends : plain_second hw.origin false u t ≡ u →
          Twins Ends (Done (settled contents (without_patch contents framed t) t) false)
          (Done (settled by_plain (without_patch by_plain (with_frame (half_closed (marks_of v w z)) t (Some f.modified)) t) t) false) k
      cut_ends after =
          let levels = levels_off none in
          let c = unpatched (record (contents_at (half_closed z) k t) { frame = Some fresh }) in
          absent_ends (without_patch contents framed t) (without_patch by_plain (with_frame (half_closed (marks_of v w z)) t (Some f.modified)) t)
          (without_patch_twin v w framed t ∙ ap (λ (m : MarksStore). without_patch by_plain m t) (with_frame_twin v w (half_closed z) t (Some fresh)))
          (absent_sure c (without_patch contents framed t) cut_altered.here cut_right (stays_by (half_closed z) k
          (without_patch contents framed t) k cut_altered.base)
          levels.0 levels.1 fresh_is (λ p e. absurd (cc)))
          (told_altered (half_closed z) k (without_patch contents framed t) k t c (closed_told z k d.mid.told) cut_altered refl)
          (stays_by (half_closed z) k (without_patch contents framed t) k cut_altered.base) loose_cut after

    -- nothing is left of it
    gone_altered : Altered (half_closed z) k (lost_now contents (half_closed z) t) k t (unpatched (record (contents_at (half_closed z) k t) { lost = true }))
    gone_altered =
        let g = altered_lost (half_closed z) k t below but.ground.sizes in
        let e = altered_unpatched (with_lost (half_closed z) t) k t below g.sizes in
        altered_then unpatched g e

    gone_order : Ordered v w (lost_now contents (half_closed z) t) k
    gone_order =
        let c = unpatched (record (contents_at (half_closed z) k t) { lost = true }) in
        let y = lost_now contents (half_closed z) t in
        let still = sits_still v w (half_closed z) k t (contents_at (half_closed z) k t) below but.ground refl refl in
        let b = right_altered (Some t) v w (half_closed z) k y k t c but gone_altered
        (record { same = still.same; patch = λ p e. absurd (cc); apart = λ e. refl })
        (unpatched_slots (half_closed z) k y k t c gone_altered refl refl refl but.ground.slots) (λ ne. absurd (ne refl)) in
        record {
          sure = shut t v w y k b
              (rw gone_altered.here (right_lost y.geometry t y.half c (image_in y v t) (image_in y w t) refl));
          told = told_altered (half_closed z) k y k t c (closed_told z k d.mid.told) gone_altered refl;
        }

    lost_mark : is_lost z t ≡ false
    unfolding T.contents_at
    lost_mark = d.mid.sided.lost ∙ there

    gone_ends : is_some z.lent ≡ false → frame_at z t ≡ None → has_level z t ≡ false → plain_second hw.origin false u t ≡ u →
        Twins Ends (Done (settled contents (half_closed z) t) false) (Done (settled by_plain (half_closed (marks_of v w z)) t) false) k
    gone_ends free e none after =
        let stays = stays_by (half_closed z) k (lost_now contents (half_closed z) t) k gone_altered.base in
        rw (settles_lost contents (half_closed z) t free lost_mark none e refl)
        (rw (settles_lost by_plain (half_closed (marks_of v w z)) t free lost_mark none (frame_twin v w z t ∙ ap (option_map frame_mark) e) refl)
        (twin_ends (without_patch_twin v w (with_lost (half_closed z) t) t) (record {
          order = gone_order;
          same = refl;
          plain = d.mid.plain ∙ sym after;
          size = size_on (size_of d.mid.stays) (size_of stays);
        })))

    cut_by : is_some z.lent ≡ false → (o' : Option Frame) → frame_at z t ≡ o' → hw.image ≡ image_in s u t → has_level z t ≡ false →
        plain_second hw.origin false u t ≡ u →
        Twins Ends (Done (settled contents (cut_kept contents (half_closed z) t hw.image o') t) false)
        (Done (settled by_plain (cut_kept by_plain (half_closed (marks_of v w z)) t hw.image (option_map frame_mark o')) t) false) k
    cut_by free None e image none after = gone_ends free e none after
    cut_by free (Some f) e image none after = cut_ends f image none after

    absent_by : is_some z.lent ≡ false → (origin : Origin) → hw.origin ≡ origin → hw.image ≡ written_on (image_in s u t) origin →
        FrameOf origin (contents_at s h t).frame (image_in s u t) → PatchOf origin (contents_at s h t).patch (image_in s u t) →
        has_level z t ≡ false →
        Twins Ends (second_absent contents (half_closed z) t hw.image origin) (second_absent by_plain (half_closed (marks_of v w z)) t hw.image origin) k
    absent_by free (OfCommand bypass e) is image frame patch none = kept_ends none frame patch (ap (λ (x : Origin). plain_second x false u t) is)
    absent_by free (OfCut bypass) is image frame patch none =
        rw (frame_twin v w z t) (cut_by free (frame_at z t) refl image none (ap (λ (x : Origin). plain_second x false u t) is))
    absent_by free OfBackground is image frame patch none = kept_ends none frame patch (ap (λ (x : Origin). plain_second x false u t) is)

  there_mark : (track_at contents s t).lost ≡ false
  unfolding M.track_at T.contents_at
  there_mark = there

  -- while this half write is open
  pub second_part_twin : Twins Ends (second_part contents s hw) (second_part by_plain (marks_of u w0 s) (half_mark hw)) h
  unfolding S.second_part
  second_part_twin =
      let image : plainly_written (marks_of u w0 s) t hw.origin ≡ hw.image = plainly_is u w0 s t hw.origin ∙ sym writes.image in
      rw image (twin_then _ _ (twin_always (second_twin u s h t r lt firm (is_alone s o.well.here) u w0 s h begins (is_alone s o.well.here))
      (write_second_keeps_others contents device_is_faithful t s lt there_mark r o.well))
      (λ v w z _ _ k d. on_test (has_level z t)
      (λ _. done_by v w z k d.0 hw.origin refl writes.image suits)
      (λ none. absent_by v w z k d.0 (is_free z d.1.others.here) hw.origin refl writes.image writes.frame writes.patch none)))
