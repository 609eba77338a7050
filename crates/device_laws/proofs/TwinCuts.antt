-- What cuts a running program leaves all right, with its twin on marks: a half write of its command counts as done.
use Rattle.std.proofs.Common.{◌≡◌, ◌≢◌, ◌<◌, ◌==◌, ℕ, Bool, true, false, List, Option, Some, None, set, refl, sym, ap, subst, ◌∙◌, arith}
use Rattle.std.specs.Prelude.{option_map}
use Rattle.ckd_types.specs.declared.geometry.Geometry.{Geometry}
use Rattle.ckd_types.specs.declared.record.Edit.{Edit}
use Rattle.ckd_types.specs.declared.record.Track.{Track}
use Rattle.ckd_types.specs.Edit.{apply_edit}
use Rattle.ckd_types.specs.Track.{Fits}
use Rattle.ckd_types.specs.Volume.{track_in}
use Rattle.ckd_write.proofs.Fitting.{edited_fits}
use Rattle.track_image.specs.Image.{Image}
use Rattle.device_outside.specs.Both.{both_tell}
use Rattle.device_defs.specs.Contents.{contents, by_plain}
use Rattle.device_defs.specs.Cutting.{origin_cut, half_cut}
use Rattle.device_defs.specs.Effects.{with_edit}
use Rattle.device_defs.specs.Marks.{marks_of, half_mark}
use Rattle.device_defs.specs.Second.{plainly_written}
use Rattle.device_defs.specs.Sound.{DeviceStore, written_on}
use Rattle.device_defs.specs.Store.{Origin, OfCommand, OfCut, OfBackground, HalfWrite, tracks_of, half_is}
use Rattle.device_laws.specs.Agrees.{Held, image_in, slot_at}
use Rattle.device_laws.specs.InOrder.{plain_cut}
use Rattle.device_laws.specs.PlainWrites.{SuitsTrack, OriginSuits, plain_second}
use Rattle.device_laws.specs.Twin.{Twins}
use Rattle.device_laws.proofs.ContentChanges.{same_slots, RightBut, opens_write}
use Rattle.device_laws.proofs.PlainVolumes.{put_here}
use Rattle.device_laws.proofs.TrackContents as T
use Rattle.device_laws.proofs.TrackContents.{
  TrackContents,
  contents_at,
  Writes,
  HeldBy,
  IsRight,
  right_by,
  held_of,
  keeps_other,
  other_keeps,
  writes_own,
  own_writes,
  lost_case,
}
use Rattle.device_laws.proofs.TwinAsks.{InOrder}
use Rattle.device_laws.proofs.TwinDone.{put_right}
use Rattle.device_laws.proofs.TwinLosses.{Loses}
use Rattle.device_laws.proofs.TwinSecond.{plainly_is}
use Rattle.device_laws.proofs.TwinSettled.{AllTold}
use Rattle.device_laws.proofs.TwinWalks.{twin_done, twin_ends}
use Rattle.device_laws.proofs.EachTrack.{each_track}

some_is : (p q : ℕ) → Some p ≡ Some q → p ≡ q
some_is p q e = cc

-- a track that the half write isn't of
other_right : (g : Geometry) (q : ℕ) (half : Option (HalfWrite Image)) (hw : HalfWrite Image) (origin : Origin) (x : TrackContents) (plain firm : Image) →
    half ≡ Some hw → (hw.track == q) ≡ false → IsRight g q half x plain firm → IsRight g q (Some (record hw { origin = origin })) x plain firm
other_right g q half hw origin x plain firm is off r =
    lost_case (HeldBy g q x plain firm half) (HeldBy g q x plain firm (Some (record hw { origin = origin }))) x.lost x.lost (λ e. e)
    (λ k. other_keeps g q (record hw { origin = origin }) x plain firm off
    (keeps_other g q hw x plain firm off (subst (λ (o : Option (HalfWrite Image)). HeldBy g q x plain firm o) is k))) r

same_place : (t : ℕ) → (t == t) ≡ true
same_place t = grind arith

other_place : (t q : ℕ) → q ≢ t → (t == q) ≡ false
other_place t q ne = grind arith

module _ (v w : List Track) (s : DeviceStore) (h : Held) (o : InOrder v w s h) where
  same_now : {u : List Track} → u ≡ v → Loses u v w s h
  same_now e = record { order = record { sure = o.sure; told = o.told }; plain = sym e }

  module _ (hw : HalfWrite Image) (is : s.half ≡ Some hw) (lt : hw.track < tracks_of s) (there : (contents_at s h hw.track).lost ≡ false) where
    abbrev t : ℕ
    t = hw.track

    abbrev c : TrackContents
    c = contents_at s h t

    writes : Writes c (image_in s v t) hw
    writes =
        writes_own s.geometry t hw c (image_in s v t) (image_in s w t) (same_place t)
        (subst (λ (half : Option (HalfWrite Image)). HeldBy s.geometry t c (image_in s v t) (image_in s w t) half) is
        (held_of s.geometry t s.half c (image_in s v t) (image_in s w t) there (o.sure.right t lt (λ e. absurd (cc)))))

    module _ (bypass : Bool) (e : Edit) (io : hw.origin ≡ OfCommand bypass e) (suits : SuitsTrack s.geometry (track_in v t) e) where
      abbrev x : Track
      x = apply_edit e (track_in v t)

      abbrev cut : HalfWrite Image
      cut = record hw { origin = OfCut bypass }

      abbrev z : DeviceStore
      z = record (with_edit s t e) { half = Some cut }

      fits : Fits s.geometry x
      fits = edited_fits s.geometry (track_in v t) e (o.sure.ground.plain.fits t lt) suits.suits suits.ranges

      put : RightBut (Some t) (set v t x) (set w t x) s h
      put = put_right t v w s h x lt (opens_write t v w s h o.sure) (o.sure.ground.plain.homes t lt) fits

      image_now : hw.image ≡ image_in s (set v t x) t
      image_now =
          writes.image
          ∙ ap (λ (origin : Origin). written_on (image_in s v t) origin) io
          ∙ ap (λ (l : Track). record { geometry = s.geometry; track = l })
          (sym (put_here v t x (let long = o.sure.ground.plain.tracks in omega arith)))

      own_right : IsRight s.geometry t (Some cut) c (image_in s (set v t x) t) (image_in s (set w t x) t)
      own_right =
          right_by s.geometry t (Some cut) c (image_in s (set v t x) t) (image_in s (set w t x) t)
          (own_writes s.geometry t cut c (image_in s (set v t x) t) (image_in s (set w t x) t) (same_place t)
          (record { image = image_now; a = writes.a; b = writes.b; frame = tt; patch = tt; suits = tt }))

      slots_same : (kept : Bool) (q : ℕ) → slot_at z kept q ≡ slot_at s kept q
      slots_same true q = refl
      slots_same false q = refl

      cut_sure : RightBut None (set v t x) (set w t x) z h
      unfolding T.contents_at
      cut_sure = record {
        ground = record {
          sizes = record { are = put.ground.sizes.are };
          plain = put.ground.plain;
          firm = put.ground.firm;
          same = put.ground.same;
          apart = λ q l. ap (λ (half : Option (HalfWrite Image)). half_is half q) (sym is) ∙ put.ground.apart q l;
          patches = put.ground.patches;
          long = put.ground.long;
          slots = same_slots s z h.slots slots_same put.ground.slots;
        };
        right = λ q below _. each_track (λ p. p < tracks_of s →
            IsRight s.geometry p (Some cut) (contents_at s h p) (image_in s (set v t x) p) (image_in s (set w t x) p)) t (λ _. own_right)
            (λ p ne le. other_right s.geometry p s.half hw (OfCut bypass) (contents_at s h p) (image_in s (set v t x) p) (image_in s (set w t x) p) is
            (other_place t p ne) (put.right p le (λ f. ne (sym (some_is t p f))))) q below;
      }

      cut_told : AllTold z h
      unfolding T.contents_at
      cut_told = o.told

      told_twin : Twins (λ v' w' y _ _ k. Loses (set v t x) v' w' y k) (origin_cut contents s hw (OfCommand bypass e))
          (origin_cut by_plain (marks_of v w s) (half_mark hw) (OfCommand bypass e)) h
      told_twin =
          let image : plainly_written (marks_of v w s) t hw.origin ≡ hw.image = plainly_is v w s t hw.origin ∙ sym writes.image in
          rw image (both_tell (λ _.
          twin_ends {v = set v t x} {w = set w t x} refl (record { order = record { sure = cut_sure; told = cut_told }; plain = refl })))

    by_origin : (origin : Origin) → hw.origin ≡ origin → OriginSuits s.geometry (track_in v t) origin →
        Twins (λ v' w' y _ _ k. Loses (plain_second origin true v t) v' w' y k) (origin_cut contents s hw origin)
        (origin_cut by_plain (marks_of v w s) (half_mark hw) origin) h
    by_origin (OfCommand bypass e) io suits = told_twin bypass e io suits
    by_origin (OfCut bypass) io suits = twin_done (same_now refl)
    by_origin OfBackground io suits = twin_done (same_now refl)

  pub cut_by : (half : Option (HalfWrite Image)) → s.half ≡ half → ((i : HalfWrite Image) → half ≡ Some i → i.track < tracks_of s) →
      ((i : HalfWrite Image) → half ≡ Some i → (contents_at s h i.track).lost ≡ false) →
      ((i : HalfWrite Image) → half ≡ Some i → OriginSuits s.geometry (track_in v i.track) i.origin) →
      Twins (λ v' w' y _ _ k. Loses (plain_cut half v) v' w' y k) (half_cut contents s half)
      (half_cut by_plain (marks_of v w s) (option_map half_mark half)) h
  cut_by (Some hw) is lt there suits = by_origin hw is (lt hw refl) (there hw refl) hw.origin refl (suits hw refl)
  cut_by None is lt there suits = twin_done (same_now refl)
