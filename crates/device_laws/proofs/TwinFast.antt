-- Fast and provisional writes leave all right: the frame is the edited track, and each level side has it with the patch, or what it goes back to.
use Rattle.std.proofs.Common.{◌≡◌, ◌≢◌, ◌<◌, ℕ, Bool, true, false, List, Option, Some, None, set, length, refl, sym, ap, subst, ◌∙◌, arith, cond}
use Rattle.std.proofs.lemmas.List.{append-nil}
use Rattle.std.specs.Prelude.{option_map, if◌then◌else◌}
use Rattle.ckd_types.specs.declared.geometry.Geometry.{Geometry}
use Rattle.ckd_types.specs.declared.record.Edit.{Edit}
use Rattle.ckd_types.specs.declared.record.Record.{Record}
use Rattle.ckd_types.specs.declared.record.Track.{Track}
use Rattle.ckd_types.specs.Edit.{apply_edit}
use Rattle.ckd_types.specs.Geometry.{cchh_of}
use Rattle.ckd_types.specs.Track.{Fits}
use Rattle.ckd_types.specs.Volume.{track_in}
use Rattle.ckd_write.proofs.Fitting.{edited_fits}
use Rattle.track_image.specs.Image.{Image, edited_image}
use Rattle.track_cache.specs.declared.frames.Frame.{Frame}
use Rattle.nv_store.specs.declared.patches.Stored.{Stored}
use Rattle.nv_store.specs.Fit.{is_fit}
use Rattle.nv_store.specs.Patch.{IsPatch, no_edits, added, applied, patched_image}
use Rattle.nv_store.proofs.Again.{applied_again}
use Rattle.nv_store.proofs.Fits.{fit_says}
use Rattle.nv_store.proofs.InOrder.{added_is_patch}
use Rattle.nv_store.proofs.OneMore.{one_more}
use Rattle.device_defs.specs.Choosing.{patch_with, fast_written, provisionally_written}
use Rattle.device_defs.specs.Contents.{contents, by_plain, patched_by, image_read}
use Rattle.device_defs.specs.Effects.{with_edit, with_loose_edit, loosened}
use Rattle.device_defs.specs.Losses.{slot_in}
use Rattle.device_defs.specs.Marks.{MarksStore, marks_of, patch_mark, slot_mark}
use Rattle.device_defs.specs.Sound.{DeviceStore}
use Rattle.device_defs.specs.Store.{tracks_of, patch_at, is_lost, is_loose, half_is, with_frame, with_patch}
use Rattle.device_laws.specs.Agrees.{Held, image_in, PatchHas, PatchFits, slot_at, HasSlots}
use Rattle.device_laws.specs.PlainWrites.{SuitsTrack}
use Rattle.device_laws.proofs.Bools.{some_is}
use Rattle.device_laws.proofs.ContentChanges as C
use Rattle.device_laws.proofs.ContentChanges.{
  base_of,
  Altered,
  altered_frame,
  altered_patch,
  altered_loose,
  slot_of,
  slot_is,
  by_track,
  unseen_slots,
  sits_still,
  RightBut,
  Sure,
  right_altered,
  shut,
  opens_write,
  beside_right,
  altered_then,
}
use Rattle.device_laws.proofs.PlainVolumes.{put_here, put_elsewhere, put_volume}
use Rattle.device_laws.proofs.TrackContents as T
use Rattle.device_laws.proofs.TrackContents.{TrackContents, contents_at, FrameHas, Keeps, none_fits}
use Rattle.device_laws.proofs.TwinAsks.{Ordered, keeps_at, right_keeps, beside_order}
use Rattle.device_laws.proofs.TwinChanges.{patch_twin, with_frame_twin, with_patch_twin}
use Rattle.device_laws.proofs.TwinChoices.{NewBy}
use Rattle.device_laws.proofs.TwinDone.{put_right}
use Rattle.device_laws.proofs.TwinSettled.{told_altered}
use Rattle.device_laws.proofs.TwinSlots.{new_slots}
use Rattle.device_defs.specs.declared.answers.Choice.TheVariants.{Fast}
use Rattle.device_laws.proofs.EachTrack.{each_track}

-- One more edit

none_applied : (i : Image) → is_fit i.geometry i.track.records ≡ true → applied no_edits i ≡ Some i
none_applied i fits =
    ap (λ (b : Bool). cond b (Some (patched_image no_edits i)) None) (ap (is_fit i.geometry) (append-nil i.track.records) ∙ fits)
    ∙ ap (λ (y : List Record). Some (record i { track = record i.track { records = y } })) (append-nil i.track.records)

-- a patch is held, or there is a slot for a new one
abbrev pub HasPlace : Option Stored → Option ℕ → Type 0
HasPlace (Some p) slot = Unit {0}
HasPlace None (Some k) = Unit {0}
HasPlace None None = ⊥

one_edit_more : (p : Option Stored) (slot : Option ℕ) (e : Edit) (o : Option Image) (i : Image) → HasPlace p slot → ((q : Stored) → p ≡ Some q →
    IsPatch q.patch) →
    Fits i.geometry i.track → SuitsTrack i.geometry i.track e → patched_by p o ≡ Some i →
    patched_by (patch_with contents e slot p) o ≡ Some (edited_image e i)
one_edit_more p slot e None i place is fits suits gave = absurd (cc)
one_edit_more None None e (Some j) i place is fits suits gave = absurd place
one_edit_more None (Some k) e (Some j) i place is fits suits gave =
    let same : j ≡ i = some_is j i gave in
    ap (applied (added no_edits e)) same
    ∙ one_more no_edits e i i (record { behind = refl }) (none_applied i ((fit_says i.geometry i.track).1 fits).1) suits.suits suits.ranges
one_edit_more (Some q) None e (Some j) i place is fits suits gave = one_more q.patch e j i (is q refl) gave suits.suits suits.ranges
one_edit_more (Some q) (Some k) e (Some j) i place is fits suits gave = one_more q.patch e j i (is q refl) gave suits.suits suits.ranges

pub patched_has : (p : Option Stored) (i : Image) → PatchHas p i → patched_by p (Some i) ≡ Some i
patched_has None i f = refl
patched_has (Some q) i f = f q refl

gives_some : (p : Option Stored) (q : Stored) (o : Option Image) (i : Image) → p ≡ Some q → patched_by p o ≡ Some i → patched_by (Some q) o ≡ Some i
gives_some p q o i e f = ap (λ (r : Option Stored). patched_by r o) (sym e) ∙ f

patch_still : (p : Option Stored) (slot : Option ℕ) (e : Edit) → ((q : Stored) → p ≡ Some q → IsPatch q.patch) → (n : Stored) →
    patch_with contents e slot p ≡ Some n → IsPatch n.patch
patch_still None None e is n f = absurd (cc)
patch_still None (Some k) e is n f = rw (← (some_is _ n f)) (added_is_patch e no_edits.kept no_edits.replaced no_edits.behind refl)
patch_still (Some q) None e is n f =
    subst (λ (s : Stored). IsPatch s.patch) (some_is _ n f) (added_is_patch e q.patch.kept q.patch.replaced q.patch.behind (is q refl).behind)
patch_still (Some q) (Some k) e is n f =
    subst (λ (s : Stored). IsPatch s.patch) (some_is _ n f) (added_is_patch e q.patch.kept q.patch.replaced q.patch.behind (is q refl).behind)

slot_with : (p : Option Stored) (e : Edit) (slot : Option ℕ) →
    option_map patch_mark (patch_with contents e slot p) ≡ patch_with by_plain e (option_map slot_mark slot) (option_map patch_mark p)
slot_with None e None = refl
slot_with (Some p) e None = refl
slot_with None e (Some k) = refl
slot_with (Some p) e (Some k) = refl

module _ (v w : List Track) (s : DeviceStore) (h : Held) (t : ℕ) (e : Edit) (lt : t < tracks_of s) (there : is_lost s t ≡ false)
    (off : half_is s.half t ≡ false)
    (suits : SuitsTrack s.geometry (track_in v t) e) (o : Ordered v w s h) where
  abbrev x : TrackContents
  x = contents_at s h t

  abbrev n : Track
  n = apply_edit e (track_in v t)

  abbrev i : Image
  i = edited_image e (image_in s v t)

  abbrev new : Frame
  new = record { image = edited_image e (image_in s v t); modified = true }

  kept : Keeps s.geometry t x (image_in s v t) (image_in s w t)
  kept = keeps_at v w s h t o.sure lt there off

  home : n.home ≡ cchh_of t
  home = o.sure.ground.plain.homes t lt

  fits : Fits s.geometry n
  fits = edited_fits s.geometry (track_in v t) e (o.sure.ground.plain.fits t lt) suits.suits suits.ranges

  frame_new : FrameHas (Some new) i
  frame_new f q = ap (λ (g : Frame). g.image) (sym (some_is new f q))

  -- The fast write

  module _ (slot : Option ℕ) (firm : is_loose s t ≡ false) (place : HasPlace (patch_at s t) slot) (fresh : NewBy s (Fast slot) h.slots) where
    abbrev patch : Option Stored
    patch = patch_with contents e slot (patch_at s t)

    abbrev both : DeviceStore
    both = with_patch (with_frame s t (Some new)) t patch

    both_altered : Altered s h both h t (record x { frame = Some new; patch = patch })
    both_altered =
        let f = altered_frame s h t lt o.sure.ground.sizes (Some new) in
        let g = altered_patch (with_frame s t (Some new)) h t lt f.sizes patch in
        altered_then (λ (c : TrackContents). record c { patch = patch }) f g

    patch_is : x.patch ≡ patch_at s t
    unfolding T.contents_at
    patch_is = refl

    was_patch : (p : Stored) → patch_at s t ≡ Some p → IsPatch p.patch
    was_patch p q = o.sure.ground.patches t p q

    others : (kept : Bool) (q : ℕ) → q ≢ t → slot_at both kept q ≡ slot_at s kept q
    others kept q ne = slot_is both h kept q ∙ ap (slot_of kept) (both_altered.elsewhere q ne) ∙ sym (slot_is s h kept q)

    freed_same : slot_at both false t ≡ slot_at s false t
    freed_same = slot_is both h false t ∙ ap (slot_of false) both_altered.here ∙ sym (slot_is s h false t)

    slots_by : (p : Option Stored) (k : Option ℕ) → patch_at s t ≡ p → slot ≡ k → HasPlace p k → NewBy s (Fast k) h.slots → HasSlots both h.slots
    slots_by p (Some k) q is place fresh =
        new_slots s both t k
        (slot_is both h true t ∙ ap (slot_of true) both_altered.here
        ∙ ap (λ (m : Option ℕ). slot_in contents (patch_with contents e m (patch_at s t))) is) freed_same others h.slots fresh o.sure.ground.slots
    slots_by None None q is place fresh = absurd place
    slots_by (Some p) None q is place fresh =
        unseen_slots s h both h (λ kept r. by_track s h both h t (record x { frame = Some new; patch = patch }) kept both_altered
        (same_by kept) r) refl o.sure.ground.slots
      where
        same_by : (kept : Bool) → slot_of kept (record x { frame = Some new; patch = patch }) ≡ slot_of kept x
        same_by true =
            ap (λ (m : Option ℕ). slot_in contents (patch_with contents e m (patch_at s t))) is
            ∙ ap (λ (m : Option Stored). slot_in contents (patch_with contents e None m)) q ∙ ap (slot_in contents) (sym q)
            ∙ ap (slot_in contents) (sym patch_is)
        same_by false = refl

    firm_same : image_in s w t ≡ image_in s v t
    firm_same = ap (λ (l : Track). record { geometry = s.geometry; track = l }) (o.sure.ground.same t lt firm)

    gives : (level : Bool) (bytes : List ℕ) → (level ≡ true → patched_by x.patch (image_read s.geometry t bytes) ≡ Some (image_in s w t)) → level ≡ true →
        patched_by patch (image_read s.geometry t bytes) ≡ Some i
    gives level bytes was on =
        one_edit_more (patch_at s t) slot e (image_read s.geometry t bytes) (image_in s v t) place was_patch (o.sure.ground.plain.fits t lt) suits
        (ap (λ (m : Option Stored). patched_by m (image_read s.geometry t bytes)) (sym patch_is) ∙ was on ∙ ap Some firm_same)

    -- the patch changes nothing of the edited track
    fits_new : PatchHas patch i
    fits_new p is =
        let old = image_in s v t in
        let was : PatchHas (patch_at s t) old = subst (λ (o : Option Stored). PatchHas o old) patch_is kept.patch.0 in
        let gave = one_edit_more (patch_at s t) slot e (Some old) old place was_patch (o.sure.ground.plain.fits t lt) suits
        (patched_has (patch_at s t) old was) in
        applied_again p.patch old i (patch_still (patch_at s t) slot e was_patch p is) (gives_some patch p (Some old) i is gave)

    fast_right : RightBut (Some t) (set v t n) (set w t n) both h
    fast_right =
        let b = put_right t v w s h n lt (opens_write t v w s h o.sure) home fits in
        right_altered (Some t) (set v t n) (set w t n) s h both h t (record x { frame = Some new; patch = patch }) b both_altered
        (record {
          same = λ l. put_here w t n (let long = o.sure.ground.firm.tracks in omega arith)
              ∙ sym (put_here v t n (let long = o.sure.ground.plain.tracks in omega arith));
          patch = patch_still (patch_at s t) slot e was_patch;
          apart = (sits_still v w s h t x lt o.sure.ground refl refl).apart;
        })
        (slots_by (patch_at s t) slot refl refl place fresh) (λ ne. absurd (ne refl))

    fast_sure : Sure (set v t n) (set w t n) both h
    fast_sure =
        shut t (set v t n) (set w t n) both h fast_right
        (rw both_altered.here (rw (put_here v t n (let long = o.sure.ground.plain.tracks in omega arith))
        (rw (put_here w t n (let long = o.sure.ground.firm.tracks in omega arith))
        (right_keeps s.geometry t s.half (record x { frame = Some new; patch = patch }) i i off
        (record { frame = frame_new; a = gives x.a x.on_a kept.a; b = gives x.b x.on_b kept.b; patch = (fits_new, fits_new) })))))

    pub fast_order : Ordered (set v t n) (set w t n) (fast_written contents s t i e slot) h
    unfolding T.contents_at C.base_of
    fast_order = record {
      sure = beside_right fast_sure;
      told = told_altered s h both h t (record x { frame = Some new; patch = patch }) o.told both_altered refl;
    }

  pub fast_twin_is : (slot : Option ℕ) →
      marks_of (set v t n) (set w t n) (fast_written contents s t i e slot) ≡ fast_written by_plain (marks_of v w s) t i e (option_map slot_mark slot)
  fast_twin_is slot =
      let z = with_frame s t (Some new) in
      let p = patch_with contents e slot (patch_at s t) in
      ap (λ (m : MarksStore). with_edit m t e)
      (with_patch_twin v w z t p
      ∙ ap (λ (m : MarksStore). with_patch m t (option_map patch_mark p)) (with_frame_twin v w s t (Some new))
      ∙ ap (λ (q : Option (Unit {0})). with_patch (with_frame (marks_of v w s) t (Some true)) t q)
      (slot_with (patch_at s t) e slot ∙ ap (patch_with by_plain e (option_map slot_mark slot)) (sym (patch_twin v w s t))))

  -- The provisional write

  loose_is : (z : DeviceStore) → is_loose z t ≡ (contents_at z h t).loose
  unfolding T.contents_at
  loose_is z = refl

  bare_fits : patch_at s t ≡ None → PatchFits x.patch i (image_in s w t)
  unfolding T.contents_at
  bare_fits bare = none_fits (patch_at s t) i (image_in s w t) bare

  loose_put : (z : DeviceStore) → patch_at s t ≡ None → Altered s h z h t (record x { frame = Some new; loose = true }) → Ordered (set v t n) w z h
  loose_put z bare f =
      let b = opens_write t v w s h o.sure in
      let c = record x { frame = Some new; loose = true } in
      let long : t < length v = let same = o.sure.ground.plain.tracks in omega arith in
      let put : RightBut (Some t) v w z h =
      right_altered (Some t) v w s h z h t c b f
      (record { same = λ l. absurd (cc); patch = (sits_still v w s h t x lt o.sure.ground refl refl).patch; apart = λ l. off })
      (unseen_slots s h z h (λ kept q. by_track s h z h t c kept f (slots_same kept) q) refl o.sure.ground.slots) (λ ne. absurd (ne refl)) in
      record {
        sure = shut t (set v t n) w z h (moved z f put)
            (rw f.here (C.same_right s h z h f.base (set v t n) w t c c refl (rw (put_here v t n long)
            (right_keeps s.geometry t s.half c i (image_in s w t) off (record { frame = frame_new; a = kept.a; b = kept.b; patch = bare_fits bare })))));
        told = told_altered s h z h t c o.told f refl;
      }
    where
      slots_same : (kept : Bool) → slot_of kept (record x { frame = Some new; loose = true }) ≡ slot_of kept x
      slots_same true = refl
      slots_same false = refl

      loose_now : (z : DeviceStore) → (contents_at z h t).loose ≡ true → (is_loose z t ≡ (contents_at z h t).loose) → is_loose z t ≡ false → ⊥
      loose_now z l is f = absurd (cc)

      moved : (z : DeviceStore) → Altered s h z h t (record x { frame = Some new; loose = true }) → RightBut (Some t) v w z h →
          RightBut (Some t) (set v t n) w z h
      moved z f b = record {
        ground = record {
          sizes = b.ground.sizes;
          plain = put_volume z.geometry z.cylinders v t n b.ground.plain (let same = C.same_cylinders s h z h f.base in omega arith) home
              (subst (λ (g : Geometry). Fits g n) (sym (C.same_geometry s h z h f.base)) fits);
          firm = b.ground.firm;
          same = each_track (λ q. q < tracks_of z → is_loose z q ≡ false → track_in w q ≡ track_in (set v t n) q) t
              (λ below l. absurd (loose_now z (ap (λ (d : TrackContents). d.loose) f.here) (loose_is z) l))
              (λ q ne below l. b.ground.same q below l ∙ sym (put_elsewhere v t n q ne));
          apart = b.ground.apart;
          patches = b.ground.patches;
          long = b.ground.long;
          slots = b.ground.slots;
        };
        right = λ q below ne.
            rw (put_elsewhere v t n q (λ l. ne (ap Some (sym l)))) (b.right q below ne);
      }

  again_altered : is_loose s t ≡ true → Altered s h (with_frame s t (Some new)) h t (record x { frame = Some new; loose = true })
  unfolding T.contents_at
  again_altered loose =
      let f = altered_frame s h t lt o.sure.ground.sizes (Some new) in
      record {
        sizes = f.sizes;
        base = f.base;
        elsewhere = f.elsewhere;
        here = f.here ∙ ap (λ (b : Bool). record (contents_at s h t) { frame = Some new; loose = b }) loose;
      }

  first_altered : Altered s h (with_frame (loosened s t) t (Some new)) h t (record x { frame = Some new; loose = true })
  unfolding T.contents_at C.base_of
  first_altered =
      let g = altered_loose s h t lt o.sure.ground.sizes true in
      let z = loosened s t in
      let f = altered_frame z h t lt (record { are = g.sizes.are }) (Some new) in
      record {
        sizes = f.sizes;
        base = f.base;
        elsewhere = λ q ne. f.elsewhere q ne ∙ g.elsewhere q ne;
        here = f.here ∙ ap (λ (c : TrackContents). record c { frame = Some new }) g.here;
      }

  loose_edit : (z : DeviceStore) → Ordered (set v t n) w z h → Ordered (set v t n) w (with_loose_edit z t e) h
  loose_edit z i = beside_order i

  by_loose : (b : Bool) → is_loose s t ≡ b → patch_at s t ≡ None → Ordered (set v t n) w (with_loose_edit (with_frame (if b then s else loosened s t) t
      (Some new)) t e) h
  by_loose true loose bare = loose_edit (with_frame s t (Some new)) (loose_put (with_frame s t (Some new)) bare (again_altered loose))
  by_loose false loose bare = loose_edit (with_frame (loosened s t) t (Some new)) (loose_put (with_frame (loosened s t) t (Some new)) bare first_altered)

  -- of a track without a patch
  pub provisional_order : patch_at s t ≡ None → Ordered (set v t n) w (provisionally_written contents s t i e) h
  provisional_order bare = by_loose (is_loose s t) refl bare

  provisional_by : (b : Bool) → marks_of (set v t n) w (with_loose_edit (with_frame (if b then s else loosened s t) t (Some new)) t e)
      ≡ with_loose_edit (with_frame (if b then marks_of v w s else loosened (marks_of v w s) t) t (Some true)) t e
  provisional_by true = ap (λ (m : MarksStore). with_loose_edit m t e) (with_frame_twin v w s t (Some new))
  provisional_by false = ap (λ (m : MarksStore). with_loose_edit m t e) (with_frame_twin v w (loosened s t) t (Some new))

  pub provisional_twin_is : marks_of (set v t n) w (provisionally_written contents s t i e) ≡ provisionally_written by_plain (marks_of v w s) t i e
  provisional_twin_is = provisional_by (is_loose s t)
