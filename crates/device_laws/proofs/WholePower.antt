-- The loss of power leaves a device in order, whatever its tracks keep and whatever half write is open; with its twin on marks.
use Rattle.std.proofs.Common.{◌≡◌, ◌≢◌, ◌<◌, ◌==◌, ℕ, Bool, true, false, List, [], Option, Some, None, refl, sym, ap, subst, ◌∙◌, arith}
use Rattle.std.specs.Prelude.{option_map, if◌then◌else◌}
use Rattle.ckd_types.specs.declared.geometry.Geometry.{Geometry}
use Rattle.ckd_types.specs.declared.record.Track.{Track}
use Rattle.ckd_types.specs.Track.{track_bytes}
use Rattle.ckd_types.specs.Volume.{track_in}
use Rattle.plain_defs.specs.declared.journal.Act.{Act}
use Rattle.plain_defs.specs.History.{lost_power}
use Rattle.plain_defs.specs.PlainState.{fresh_paths}
use Rattle.loss_model.specs.declared.Loss.TheVariants as losses
use Rattle.track_image.specs.Image.{Image}
use Rattle.nv_store.specs.declared.patches.Stored.{Stored}
use Rattle.device_outside.specs.Interaction.{Done, and_then}
use Rattle.device_defs.specs.Contents.{contents, by_plain, patched_by, image_read}
use Rattle.device_defs.specs.Cutting as U
use Rattle.device_defs.specs.Cutting.{is_of_command, counts_one_by, origin_cut, half_cut, half_ended, half_lost, loose_gone, powerless, powered_off, power}
use Rattle.device_defs.specs.Device.{event_begun}
use Rattle.device_defs.specs.Effects.{gone_back}
use Rattle.device_defs.specs.Events.{with_loss}
use Rattle.device_defs.specs.Losses.{over, without_frame, without_patch, settled}
use Rattle.device_defs.specs.Marks.{MarksStore, marks_of, half_mark}
use Rattle.device_defs.specs.Second.{half_closed}
use Rattle.device_defs.specs.Sound.{DeviceStore, written_on}
use Rattle.device_defs.specs.Store.{Origin, OfCommand, OfCut, OfBackground, HalfWrite, tracks_of, has_loose}
use Rattle.device_laws.specs.Agrees.{Held, image_in, slot_at, PatchHas, PatchOf, IsGround}
use Rattle.device_laws.specs.InOrder.{IsInOrder}
use Rattle.device_laws.specs.Whole.{WholeDevice, marks_device, WholeTwins, Leaves, BehindPower}
use Rattle.device_laws.proofs.TwinFast.{patched_has}
use Rattle.device_laws.proofs.Bools.{some_is}
use Rattle.device_laws.proofs.Always.{Always, always_done, always_tell}
use Rattle.device_laws.proofs.ContentChanges as C
use Rattle.device_laws.proofs.ContentChanges.{Altered, ground_altered, same_tracks, same_right, same_slots, sits_still, RightBut}
use Rattle.device_laws.proofs.FailedCall.{IsWell}
use Rattle.device_laws.proofs.Powers.{off_keeps}
use Rattle.device_laws.proofs.TrackContents as T
use Rattle.device_laws.proofs.TrackContents.{TrackContents, contents_at, Writes, IsRight, right_by, right_lost, held_of, keeps_other, writes_own, none_fits}
use Rattle.device_laws.proofs.TrackMarks.{device_is_faithful}
use Rattle.device_laws.proofs.TwinCacheLost.{bare, Swept, swept_pair, begun_with, begins}
use Rattle.device_laws.proofs.TwinChanges.{without_patch_twin}
use Rattle.device_laws.proofs.TwinDone.{read_back}
use Rattle.device_laws.proofs.TwinLaws.{in_order, is_in_order, cut_leaves_order}
use Rattle.device_laws.proofs.TwinLosses.{counted_loss}
use Rattle.device_laws.proofs.TwinSettled.{AllTold, told_altered, unpatched, altered_unpatched, unpatched_slots}
use Rattle.device_laws.proofs.TwinWalks.{Pair, pair_weaker, twin_always}
use Rattle.device_laws.proofs.WholeParts.{counts_same}
use Rattle.device_laws.proofs.WholeTwins.{whole_ends, store_then, quiet_twin, begun_order}
use Rattle.device_laws.proofs.EachTrack.{each_track}

-- A half write that was cut isn't a command's any more

abbrev IsCut : Option (HalfWrite Image) → Type 0
IsCut o = (i : HalfWrite Image) → o ≡ Some i → is_of_command i.origin ≡ false

cut_by : (s : DeviceStore) (hw : HalfWrite Image) (origin : Origin) → s.half ≡ Some hw → hw.origin ≡ origin →
    Always (origin_cut contents s hw origin) (λ z _. IsCut z.half × (has_loose z ≡ has_loose s))
cut_by s hw (OfCommand bypass e) is own =
    always_tell (λ _. always_done
    (λ i f. subst (λ (j : HalfWrite Image). is_of_command j.origin ≡ false) (some_is (record hw { origin = OfCut bypass }) i f) refl, refl))
cut_by s hw (OfCut bypass) is own =
    always_done (λ i f. subst (λ (j : HalfWrite Image). is_of_command j.origin ≡ false) (some_is hw i (sym is ∙ f)) (ap is_of_command own), refl)
cut_by s hw OfBackground is own =
    always_done (λ i f. subst (λ (j : HalfWrite Image). is_of_command j.origin ≡ false) (some_is hw i (sym is ∙ f)) (ap is_of_command own), refl)

cut_is : (s : DeviceStore) (o : Option (HalfWrite Image)) → s.half ≡ o → Always (half_cut contents s o) (λ z _. IsCut z.half × (has_loose z ≡ has_loose s))
cut_is s None e = always_done (λ i f. absurd (cc), refl)
cut_is s (Some hw) e = cut_by s hw hw.origin e refl

plain_written : (i : Image) (origin : Origin) → is_of_command origin ≡ false → written_on i origin ≡ i
plain_written i (OfCommand bypass e) f = absurd (cc)
plain_written i (OfCut bypass) f = refl
plain_written i OfBackground f = refl

read_none : (o : Option Image) (i : Image) → patched_by None o ≡ Some i → o ≡ Some i
read_none None i e = e
read_none (Some j) i e = e

-- Its acts and its queue aren't among what its tracks keep

pub acts_swept : (h : Held) (u w : List Track) (y : DeviceStore) (acts : List Act) (queue : List ℕ) → Swept h u y 0 u w y →
    Swept h u (record y { acts = acts; queue = queue }) 0 u w (record y { acts = acts; queue = queue })
unfolding T.contents_at C.base_of
acts_swept h u w y acts queue x = record {
  off = record {
    ground = record {
      sizes = record { are = x.off.ground.sizes.are };
      plain = x.off.ground.plain;
      firm = x.off.ground.firm;
      same = x.off.ground.same;
      apart = x.off.ground.apart;
      patches = x.off.ground.patches;
      long = x.off.ground.long;
      slots = same_slots y (record y { acts = acts; queue = queue }) h.slots slots_same x.off.ground.slots;
    };
    right = λ q lt ne. absurd (ne (omega arith));
  };
  later = x.later;
  firm = x.firm;
  told = x.told;
  base = refl;
  plain = refl;
}
  where
    slots_same : (kept : Bool) (q : ℕ) → slot_at (record y { acts = acts; queue = queue }) kept q ≡ slot_at y kept q
    slots_same true q = refl
    slots_same false q = refl

-- An open half write ends

module _ (h : Held) (u w : List Track) (y : DeviceStore) (x : Swept h u y 0 u w y) (hw : HalfWrite Image) (is : y.half ≡ Some hw)
    (lt : hw.track < tracks_of y) where
  abbrev t : ℕ
  t = hw.track

  abbrev g : Geometry
  g = y.geometry

  abbrev i : Image
  i = image_in y u hw.track

  abbrev c : TrackContents
  c = bare (contents_at y h hw.track)

  own : (hw.track == hw.track) ≡ true
  own = grind arith

  writes : c.lost ≡ false → Writes c i hw
  writes there =
      writes_own g t hw c i i own
      (held_of g t (Some hw) c i i there (subst (λ (o : Option (HalfWrite Image)). IsRight g t o c i i) is (x.later t lt (omega arith))))

  -- what is written is the plain track, which a side has with such a patch
  read : (p : Option Stored) (bytes : List ℕ) → PatchHas p i → hw.image ≡ i → bytes ≡ track_bytes hw.image.track →
      patched_by p (image_read g t bytes) ≡ Some i
  read p bytes f image e =
      let back = read_none (image_read g t (track_bytes (track_in u t))) i
      (read_back g t (track_in u t) (x.off.ground.plain.fits t lt) (x.off.ground.plain.homes t lt)) in
      ap (λ (l : List ℕ). patched_by p (image_read g t l)) (e ∙ ap (λ (j : Image). track_bytes j.track) image)
      ∙ ap (patched_by p) back
      ∙ patched_has p i f

  background_right : hw.origin ≡ OfBackground → IsRight g t None c i i
  background_right origin = by_lost c.lost refl
    where
      by_lost : (l : Bool) → c.lost ≡ l → IsRight g t None c i i
      by_lost true e = right_lost g t None c i i e
      by_lost false e =
          let k = writes e in
          let f : PatchHas c.patch i = subst (λ (o : Origin). PatchOf o c.patch i) origin k.patch in
          let image : hw.image ≡ i = k.image ∙ ap (written_on i) origin in
          right_by g t None c i i
          (record {
            frame = λ j l. absurd (cc);
            a = λ l. read c.patch c.on_a f image (k.a l);
            b = λ l. read c.patch c.on_b f image (k.b l);
            patch = (f, f);
          })

  abbrev d : TrackContents
  d = bare (unpatched (contents_at y h hw.track))

  cut_right : is_of_command hw.origin ≡ false → IsRight g t None d i i
  cut_right cut = by_lost c.lost refl
    where
      by_lost : (l : Bool) → c.lost ≡ l → IsRight g t None d i i
      by_lost true e = right_lost g t None d i i e
      by_lost false e =
          let k = writes e in
          let image : hw.image ≡ i = k.image ∙ plain_written i hw.origin cut in
          right_by g t None d i i
          (record {
            frame = λ j l. absurd (cc);
            a = λ l. read None c.on_a (λ p f. absurd (cc)) image (k.a l);
            b = λ l. read None c.on_b (λ p f. absurd (cc)) image (k.b l);
            patch = none_fits None i i refl;
          })

  other_right : (q : ℕ) → q < tracks_of y → q ≢ hw.track →
      IsRight g q None (bare (contents_at y h q)) (image_in y u q) (image_in y u q)
  other_right q below off = by_lost (contents_at y h q).lost refl
    where
      j : Image
      j = image_in y u q

      r : IsRight g q (Some hw) (bare (contents_at y h q)) (image_in y u q) (image_in y u q)
      r = subst (λ (o : Option (HalfWrite Image)). IsRight g q o (bare (contents_at y h q)) (image_in y u q) (image_in y u q)) is
          (x.later q below (omega arith))

      other : (hw.track == q) ≡ false
      other = grind arith

      by_lost : (l : Bool) → (contents_at y h q).lost ≡ l → IsRight g q None (bare (contents_at y h q)) (image_in y u q) (image_in y u q)
      by_lost true e = right_lost g q None (bare (contents_at y h q)) (image_in y u q) (image_in y u q) e
      by_lost false e =
          right_by g q None (bare (contents_at y h q)) (image_in y u q) (image_in y u q)
          (keeps_other g q hw (bare (contents_at y h q)) (image_in y u q) (image_in y u q) other
          (held_of g q (Some hw) (bare (contents_at y h q)) (image_in y u q) (image_in y u q) e r))

  closed_slots : (kept : Bool) (q : ℕ) → slot_at (half_closed y) kept q ≡ slot_at y kept q
  closed_slots true q = refl
  closed_slots false q = refl

  closed_ground : IsGround u w (half_closed y) h
  closed_ground = record {
    sizes = record { are = x.off.ground.sizes.are };
    plain = x.off.ground.plain;
    firm = x.off.ground.firm;
    same = x.off.ground.same;
    apart = λ q e. refl;
    patches = x.off.ground.patches;
    long = x.off.ground.long;
    slots = same_slots y (half_closed y) h.slots closed_slots x.off.ground.slots;
  }

  closed_contents : (q : ℕ) → contents_at (half_closed y) h q ≡ contents_at y h q
  unfolding T.contents_at
  closed_contents q = refl

  closed_told : AllTold (half_closed y) h
  unfolding T.contents_at
  closed_told = x.told

  background_swept : hw.origin ≡ OfBackground → Swept h u (half_closed y) 0 u w (half_closed y)
  background_swept origin = record {
    off = record { ground = closed_ground; right = λ q below ne. absurd (ne (omega arith)) };
    later = λ q below le.
        rw (closed_contents q) (each_track (λ p. p < tracks_of y → IsRight g p None (bare (contents_at y h p)) (image_in y u p) (image_in y u p)) t
        (λ _. background_right origin) (λ p off below. other_right p below off) q below);
    firm = λ q below le. ap (λ (k : TrackContents). k.loose) (closed_contents q) ∙ x.firm q below le;
    told = closed_told;
    base = refl;
    plain = refl;
  }

  abbrev z : DeviceStore
  z = without_patch contents (half_closed y) hw.track

  z_altered : Altered (half_closed y) h z h t (unpatched (contents_at (half_closed y) h t))
  z_altered = altered_unpatched (half_closed y) h t lt closed_ground.sizes

  cut_ground : IsGround u w z h
  cut_ground =
      let e = z_altered in
      let k = unpatched (contents_at (half_closed y) h t) in
      let still = sits_still u w (half_closed y) h t (contents_at (half_closed y) h t) lt closed_ground refl refl in
      ground_altered u w (half_closed y) h z h t k closed_ground e (record { same = still.same; patch = λ p f. absurd (cc); apart = λ f. refl })
      (unpatched_slots (half_closed y) h z h t k e refl refl refl closed_ground.slots)

  still_there : (q : ℕ) → q < tracks_of z → q < tracks_of y
  still_there q below = let same = same_tracks (half_closed y) h z h z_altered.base in omega arith

  cut_swept : is_of_command hw.origin ≡ false → Swept h u z 0 u w z
  cut_swept cut = record {
    off = record { ground = cut_ground; right = λ q below ne. absurd (ne (omega arith)) };
    later = λ q below le. each_track
        (λ p. p < tracks_of y → IsRight z.geometry p z.half (bare (contents_at z h p)) (image_in z u p) (image_in z u p)) t
        (λ _. same_right (half_closed y) h z h z_altered.base u u t (bare (unpatched (contents_at (half_closed y) h t))) (bare (contents_at z h t))
        (ap bare z_altered.here) (rw (closed_contents t) (cut_right cut)))
        (λ p off there. same_right (half_closed y) h z h z_altered.base u u p (bare (contents_at (half_closed y) h p)) (bare (contents_at z h p))
        (ap bare (z_altered.elsewhere p off)) (rw (closed_contents p) (other_right p there off)))
        q (still_there q below);
    firm = λ q below le. each_track (λ p. p < tracks_of y → (contents_at z h p).loose ≡ false) t
        (λ _. ap (λ (k : TrackContents). k.loose) z_altered.here ∙ ap (λ (k : TrackContents). k.loose) (closed_contents t) ∙ x.firm t lt (omega arith))
        (λ p off there. ap (λ (k : TrackContents). k.loose) (z_altered.elsewhere p off)
        ∙ ap (λ (k : TrackContents). k.loose) (closed_contents p) ∙ x.firm p there (omega arith)) q (still_there q below);
    told = told_altered (half_closed y) h z h t (unpatched (contents_at (half_closed y) h t)) closed_told z_altered refl;
    base = refl;
    plain = refl;
  }

-- what the sweep begins with
record Begins (h : Held) (u w : List Track) (s y : DeviceStore) : Type 0 where
  swept : Swept h u y 0 u w y
  tracks : tracks_of y ≡ tracks_of s

ended_by : (h : Held) (u w : List Track) (y : DeviceStore) (x : Swept h u y 0 u w y) (hw : HalfWrite Image) (origin : Origin) → y.half ≡ Some hw →
    hw.origin ≡ origin → hw.track < tracks_of y → is_of_command origin ≡ false → Begins h u w y (half_ended contents y hw origin)
ended_by h u w y x hw (OfCommand bypass e) is own lt cut = absurd (cc)
ended_by h u w y x hw (OfCut bypass) is own lt cut = record {
  swept = cut_swept h u w y x hw is lt (ap is_of_command own);
  tracks = same_tracks (half_closed y) h (without_patch contents (half_closed y) hw.track) h (z_altered h u w y x hw is lt).base;
}
ended_by h u w y x hw OfBackground is own lt cut = record { swept = background_swept h u w y x hw is lt own; tracks = refl }

half_by : (h : Held) (u w : List Track) (y : DeviceStore) (x : Swept h u y 0 u w y) (o : Option (HalfWrite Image)) → y.half ≡ o → IsCut o →
    ((i : HalfWrite Image) → o ≡ Some i → i.track < tracks_of y) → Begins h u w y (half_lost contents y o)
half_by h u w y x None is cut within = record { swept = x; tracks = refl }
half_by h u w y x (Some hw) is cut within = ended_by h u w y x hw hw.origin is refl (within hw refl) (cut hw refl)

ended_marks : (u w : List Track) (y : DeviceStore) (hw : HalfWrite Image) (origin : Origin) →
    marks_of u w (half_ended contents y hw origin) ≡ half_ended by_plain (marks_of u w y) (half_mark hw) origin
ended_marks u w y hw (OfCommand bypass e) = without_patch_twin u w (half_closed y) hw.track
ended_marks u w y hw (OfCut bypass) = without_patch_twin u w (half_closed y) hw.track
ended_marks u w y hw OfBackground = refl

half_marks : (u w : List Track) (y : DeviceStore) (o : Option (HalfWrite Image)) →
    marks_of u w (half_lost contents y o) ≡ half_lost by_plain (marks_of u w y) (option_map half_mark o)
half_marks u w y None = refl
half_marks u w y (Some hw) = ended_marks u w y hw hw.origin

-- All together

module _ (v w : List Track) (s : DeviceStore) (h : Held) (sure : RightBut None v w s h) (told : AllTold s h) (cut : IsCut s.half)
    (within : (i : HalfWrite Image) → s.half ≡ Some i → i.track < tracks_of s) where
  abbrev gone : Bool → DeviceStore
  gone any = if any then gone_back s else s

  gone_swept : (any : Bool) → has_loose s ≡ any → Swept h (if any then w else v) (gone any) 0 (if any then w else v) w (gone any)
  gone_swept true e = acts_swept h w w (begun_with true s) s.acts s.queue (begins v w s h sure told true e)
  gone_swept false e = acts_swept h v w (begun_with false s) s.acts s.queue (begins v w s h sure told false e)

  gone_half : (any : Bool) → (gone any).half ≡ s.half
  gone_half true = refl
  gone_half false = refl

  gone_tracks : (any : Bool) → tracks_of (gone any) ≡ tracks_of s
  gone_tracks true = refl
  gone_tracks false = refl

  gone_marks : (any : Bool) → marks_of (if any then w else v) w (gone any) ≡ (if any then gone_back (marks_of v w s) else marks_of v w s)
  gone_marks true = refl
  gone_marks false = refl

  abbrev u : List Track
  u = if has_loose s then w else v

  abbrev y : DeviceStore
  y = record (half_lost contents (loose_gone contents s) s.half) { queue = [] }

  begun : Begins h u w s y
  begun =
      let any = has_loose s in
      let b = half_by h u w (gone any) (gone_swept any refl) s.half (gone_half any) cut
      (λ i e. let lt = within i e in let same = gone_tracks any in omega arith) in
      let q = half_lost contents (gone any) s.half in
      record { swept = acts_swept h u w q q.acts [] b.swept; tracks = b.tracks ∙ gone_tracks any }

  begun_marks : marks_of u w y ≡ record (half_lost by_plain (loose_gone by_plain (marks_of v w s)) (marks_of v w s).half) { queue = [] }
  begun_marks =
      let any = has_loose s in
      ap (λ (m : MarksStore). record m { queue = [] })
      (half_marks u w (gone any) s.half ∙ ap (λ (m : MarksStore). half_lost by_plain m (option_map half_mark s.half)) (gone_marks any))

  powerless_pair : IsWell contents (powerless contents s) → Pair (λ v' w' z. IsInOrder v' w' z h × (v' ≡ u)) (powerless contents s)
      (powerless by_plain (marks_of v w s))
  powerless_pair well =
      let n = tracks_of s in
      rw (← begun_marks) (pair_weaker (swept_pair h u w y begun.swept n (let same = begun.tracks in omega arith))
      (λ v' w' x.
      let z = over n (λ t z. settled contents (without_frame z t) t) y in (
        is_in_order v' w' z h
            (record {
              sure = record {
                ground = x.off.ground;
                right = λ q lt ne. x.off.right q lt
                    (λ most. absurd (let same = same_tracks y h z h x.base in let more = begun.tracks in omega arith));
              };
              told = x.told;
            }) well,
        x.plain,
      )))

-- As an event

pub power_whole : (v w : List Track) (d : WholeDevice) (h : Held) → IsInOrder v w d.store h →
    WholeTwins (Leaves (BehindPower v d.store)) (power contents d) (power by_plain (marks_device v w d)) h
unfolding U.power
power_whole v w d h i =
    let z : WholeDevice = event_begun d in
    let order = begun_order v w d.store h i in
    quiet_twin v w d h (λ x. and_then (half_cut contents x.store x.store.half) (λ s _. Done (powered_off contents x s) (tt {0})))
    (λ x. and_then (half_cut by_plain x.store x.store.half) (λ s _. Done (powered_off by_plain x s) (tt {0})))
    (store_then _ _ (twin_always (cut_leaves_order v w z.store h order (λ hw is. (order.opened hw is).suits)) (cut_is z.store z.store.half refl))
    (λ v' w' s _ _ k f.
    let l = with_loss s losses.Cache in
    let o = in_order v' w' s k f.0.order in
    let ordered = counted_loss v' w' s k losses.Cache (record { sure = o.sure; told = o.told }) in
    let x = powerless_pair v' w' l k ordered.sure ordered.told f.1.0 f.0.order.within (off_keeps contents device_is_faithful s o.well).well in
    let off = λ (m : MarksStore) (n : ℕ). record (marks_device v' w' z) { store = m; paths = fresh_paths; history = lost_power z.history n; chain = None } in
    whole_ends x.plain x.firm (powered_off contents z s)
    (ap (λ (m : MarksStore). off m (counts_one_by z.store.half)) x.marks
    ∙ ap (λ (n : ℕ). off (powerless by_plain (with_loss (marks_of v' w' s) losses.Cache)) n) (sym (counts_same z.store.half)))
    (record {
      order = x.is.0;
      same = refl;
      is = λ none. x.is.1 ∙ ap (λ (b : Bool). if b then w' else v') (f.1.1 ∙ none) ∙ f.0.plain;
    })))
