-- Before the first write of a loose track it becomes firm; behind a first part a half write is opened. Both leave all right.
use Rattle.std.proofs.Common.{◌≡◌, ◌≢◌, ◌<◌, ◌==◌, ◌&&◌, not, ℕ, Bool, true, false, List, Option, Some, None, is_some, set, refl, sym, ap, subst, ◌∙◌, arith}
use Rattle.std.specs.Prelude.{option_map, if◌then◌else◌}
use Rattle.ckd_types.specs.declared.paths.Side.TheVariants.{A, B}
use Rattle.ckd_types.specs.declared.record.Track.{Track}
use Rattle.ckd_types.specs.Track.{track_bytes}
use Rattle.ckd_types.specs.Volume.{track_in}
use Rattle.nv_store.specs.declared.patches.Stored.{Stored}
use Rattle.track_image.specs.Image.{Image}
use Rattle.track_cache.specs.declared.frames.Frame.{Frame}
use Rattle.device_outside.specs.Both.{both_tell}
use Rattle.device_outside.specs.Interaction.{Done, Tell}
use Rattle.device_outside.specs.Keeper.{Firm}
use Rattle.device_outside.proofs.BothRules.{on_test}
use Rattle.device_defs.specs.Contents.{contents, by_plain}
use Rattle.device_defs.specs.Effects.{hardened}
use Rattle.device_defs.specs.Losses.{stale_everywhere, framed_image}
use Rattle.device_defs.specs.Marks.{MarksStore, marks_of, frame_mark}
use Rattle.device_defs.specs.Sound.{DeviceStore, written_on}
use Rattle.device_defs.specs.Store.{Origin, OfCommand, OfCut, OfBackground, HalfWrite, tracks_of, frame_at, is_lost, is_loose, half_is, with_stale, with_frame}
use Rattle.device_defs.specs.Writing.{firm_first, half_opened, cleaned, write_opened}
use Rattle.device_laws.specs.Agrees.{Held, image_in, PatchHas, PatchFits, slot_at}
use Rattle.device_laws.specs.PlainWrites.{OriginSuits}
use Rattle.device_laws.specs.Twin.{Twins}
use Rattle.device_laws.proofs.Bools.{and_not_true, some_is}
use Rattle.device_laws.proofs.ContentChanges as C
use Rattle.device_laws.proofs.ContentChanges.{
  base_of,
  Altered,
  altered_loose,
  altered_stale_a,
  altered_stale_b,
  altered_frame,
  slot_of,
  by_track,
  same_slots,
  unseen_slots,
  sits_still,
  RightBut,
  Sure,
  right_altered,
  shut,
  opens_write,
  similar_right,
  altered_then,
}
use Rattle.device_laws.proofs.PlainVolumes.{put_here, put_elsewhere, put_volume}
use Rattle.device_laws.proofs.Sweeps.{is_alone}
use Rattle.device_laws.proofs.TrackContents as T
use Rattle.device_laws.proofs.TrackContents.{
  TrackContents,
  contents_at,
  FrameHas,
  FrameOf,
  Keeps,
  IsRight,
  right_by,
  own_writes,
  other_keeps,
  not_both,
  patch_of,
  lost_case,
  HeldBy,
}
use Rattle.device_laws.proofs.TrackMarks as M
use Rattle.device_laws.proofs.TrackMarks.{marks, is_good, track_at}
use Rattle.device_laws.proofs.TwinAsks.{ask_clean, Stays, stays_same, stays_off, InOrder, Ordered, keeps_at, right_keeps, SameSize}
use Rattle.device_laws.proofs.TwinChanges.{frame_twin, with_frame_twin}
use Rattle.device_laws.proofs.TwinSettled.{AllTold, told_altered}
use Rattle.device_laws.proofs.TwinWalks.{Pair, twin_done, twin_ends}
use Rattle.device_laws.proofs.EachTrack.{each_track}

-- The track of a loose frame becomes firm

pub loose_good : (f : Option Bool) (p l h v : Bool) → is_good (marks f p l true h v) ≡ true → (is_some f ≡ true) × (l ≡ false)
loose_good (Some true) false false false true e = (refl, refl)
loose_good (Some true) false false false false e = absurd (cc)
loose_good (Some true) true false false v e = absurd (cc)
loose_good (Some false) p false false true e = absurd (by_patch p e)
  where
    by_patch : (p : Bool) → is_good (marks (Some false) p false true false true) ≡ true → ⊥
    by_patch true e = absurd (cc)
    by_patch false e = absurd (cc)
loose_good (Some false) p false false false e = absurd (cc)
loose_good f p false true v e = absurd (cc)
loose_good None true true h v e = absurd (cc)
loose_good None false true h v e = absurd (cc)
loose_good (Some m) p true h v e = absurd (cc)
loose_good None p false false true e = absurd (by_patch p e)
  where
    by_patch : (p : Bool) → is_good (marks None p false true false true) ≡ true → ⊥
    by_patch true e = absurd (cc)
    by_patch false e = absurd (cc)
loose_good None p false false false e = absurd (cc)

pub record Firms (u : List Track) (s : DeviceStore) (t : ℕ) (v w : List Track) (z : DeviceStore) (a b : Bool) (k : Held) : Type 0 where
  pub order : Ordered v w z k
  pub plain : v ≡ u
  pub stays : Stays s z
  pub firm : is_loose z t ≡ false
  pub same : a ≡ b

module _ (v w : List Track) (s : DeviceStore) (h : Held) (t : ℕ) (lt : t < tracks_of s) (off : half_is s.half t ≡ false) (o : InOrder v w s h)
    (loose : is_loose s t ≡ true) where
  abbrev x : TrackContents
  x = contents_at s h t

  abbrev firm_now : List Track
  firm_now = set w t (track_in v t)

  facts : (is_some (track_at contents s t).frame ≡ true) × (is_lost s t ≡ false)
  unfolding M.track_at
  facts =
      let m = track_at contents s t in
      loose_good m.frame m.patched m.lost m.half m.level (subst (λ (b : Bool). is_good
      (marks m.frame m.patched m.lost b m.half m.level) ≡ true) loose (o.well.good t lt))

  kept : Keeps s.geometry t x (image_in s v t) (image_in s w t)
  kept = keeps_at v w s h t o.sure lt facts.1 off

  frame_said : (f : Option Frame) → frame_at s t ≡ f → framed_image contents s t f ≡ framed_image by_plain (marks_of v w s) t (option_map frame_mark f)
  unfolding T.contents_at M.track_at
  frame_said (Some f) e = kept.frame f e
  frame_said None e = absurd (let some = facts.0 in let mark : M.frame_mark contents (frame_at s t) ≡ None = ap (M.frame_mark contents) e in cc)

  said : framed_image contents s t (frame_at s t) ≡ framed_image by_plain (marks_of v w s) t (frame_at (marks_of v w s) t)
  said = frame_said (frame_at s t) refl ∙ ap (framed_image by_plain (marks_of v w s) t) (sym (frame_twin v w s t))

  put : RightBut (Some t) v firm_now s h
  put =
      let b = opens_write t v w s h o.sure in record {
        ground = record {
          sizes = b.ground.sizes;
          plain = b.ground.plain;
          firm = put_volume s.geometry s.cylinders w t (track_in v t) b.ground.firm lt (b.ground.plain.homes t lt) (b.ground.plain.fits t lt);
          same = each_track (λ q. q < tracks_of s → is_loose s q ≡ false → track_in firm_now q ≡ track_in v q) t
              (λ below e. put_here w t (track_in v t) (let same = o.sure.ground.firm.tracks in omega arith))
              (λ q ne below e. put_elsewhere w t (track_in v t) q ne ∙ o.sure.ground.same q below e);
          apart = b.ground.apart;
          patches = b.ground.patches;
          long = b.ground.long;
          slots = b.ground.slots;
        };
        right = λ q below ne.
            rw (put_elsewhere w t (track_in v t) q (λ e. ne (ap Some (sym e)))) (b.right q below ne);
      }

  firm_altered : Altered s h (hardened s t) h t (record x { loose = false })
  unfolding T.contents_at C.base_of
  firm_altered = let g = altered_loose s h t lt o.sure.ground.sizes false in
      record { sizes = record { are = g.sizes.are }; base = g.base; elsewhere = g.elsewhere; here = g.here }

  off_a : Altered s h (with_stale (hardened s t) A t true) h t (record x { loose = false; a = s.a.up && not true })
  off_a =
      let f = firm_altered in
      let g = altered_stale_a (hardened s t) h t lt f.sizes true in
      altered_then (λ (c : TrackContents). record c { a = s.a.up && not true }) f g

  firms : (z : DeviceStore) (c : TrackContents) → Altered s h z h t c → c.frame ≡ x.frame → c.patch ≡ x.patch → c.freed ≡ x.freed → c.debt ≡ x.debt →
      c.loose ≡ false →
      c.a ≡ false → c.b ≡ false → Stays s z → is_loose z t ≡ false → Firms v s t v firm_now z true true h
  firms z c e frame patch freed debt firm a b stays loose_now =
      let here : track_in firm_now t ≡ track_in v t = put_here w t (track_in v t) (let same = o.sure.ground.firm.tracks in omega arith) in
      let still = sits_still v w s h t x lt o.sure.ground refl refl in
      let but = right_altered (Some t) v firm_now s h z h t c put e
      (record { same = λ l. here; patch = λ p l. still.patch p (sym patch ∙ l); apart = λ l. absurd (not_both c.loose firm l) })
      (unseen_slots s h z h (λ kept q. by_track s h z h t c kept e (slots_by kept) q) refl o.sure.ground.slots) (λ ne. absurd (ne refl)) in
      record {
        order = record {
          sure = shut t v firm_now z h but
              (right_keeps z.geometry t z.half (contents_at z h t) (image_in z v t) (image_in z firm_now t) (stays_off s z t stays off)
              (rw e.here (record {
                frame = λ f l. kept.frame f (sym frame ∙ l) ∙ sym (ap (λ (g : _). record { geometry = g; track = track_in v t }) stays.geometry);
                a = λ l. absurd (not_both c.a a l);
                b = λ l. absurd (not_both c.b b l);
                patch = firm_fits z c patch stays;
              })));
          told = told_altered s h z h t c o.told e debt;
        };
        plain = refl;
        stays = stays;
        firm = loose_now;
        same = refl;
      }
    where
      slots_by : (kept : Bool) → slot_of kept c ≡ slot_of kept x
      slots_by true = ap (λ (p : Option _). slot_of true (record x { patch = p })) patch
      slots_by false = freed

      firm_fits : (z : DeviceStore) (c : TrackContents) → c.patch ≡ x.patch → Stays s z → PatchFits c.patch (image_in z v t) (image_in z firm_now t)
      firm_fits z c patch stays =
          let here : track_in firm_now t ≡ track_in v t = put_here w t (track_in v t) (let same = o.sure.ground.firm.tracks in omega arith) in
          rw patch (rw stays.geometry (rw here (kept.patch.0, kept.patch.0)))

  loose_gone : (z : DeviceStore) (c : TrackContents) → Altered s h z h t c → c.loose ≡ false → is_loose z t ≡ false
  unfolding T.contents_at
  loose_gone z c e f = ap (λ (d : TrackContents). d.loose) e.here ∙ f

  b_down : s.paired ≡ false → x.b ≡ false
  unfolding T.contents_at
  b_down e = rw (is_alone s o.well.here e) refl

  stale_pair : (p : Bool) → s.paired ≡ p → Pair (λ v' w' z. Firms v s t v' w' z true true h)
      (if p then with_stale (with_stale (hardened s t) A t true) B t true else with_stale (hardened s t) A t true)
      (if p then with_stale (with_stale (hardened (marks_of v w s) t) A t true) B t true else with_stale (hardened (marks_of v w s) t) A t true)
  stale_pair true is =
      let f = off_a in
      let y = with_stale (hardened s t) A t true in
      let g = altered_stale_b y h t lt f.sizes true in
      let z = with_stale y B t true in
      let c = record x { loose = false; a = s.a.up && not true; b = s.b.up && not true } in
      let e : Altered s h z h t c = altered_then (λ (d : TrackContents). record d { b = s.b.up && not true }) f g in
      record {
        plain = v;
        firm = firm_now;
        marks = refl;
        is = firms z c e refl refl refl refl refl (and_not_true s.a.up) (and_not_true s.b.up)
            (record { geometry = refl; cylinders = refl; half = refl }) (loose_gone z c e refl);
      }
  stale_pair false is =
      let e = off_a in
      let z = with_stale (hardened s t) A t true in
      let c = record x { loose = false; a = s.a.up && not true } in
      record {
        plain = v;
        firm = firm_now;
        marks = refl;
        is = firms z c e refl refl refl refl refl (and_not_true s.a.up) (b_down is)
            (record { geometry = refl; cylinders = refl; half = refl }) (loose_gone z c e refl);
      }

  loose_twin : Twins (λ v' w' z a b k. Firms v s t v' w' z a b k)
      (Tell (Firm s.device t (framed_image contents s t (frame_at s t))) (λ _. Done (stale_everywhere (hardened s t) t) true))
      (Tell (Firm s.device t (framed_image by_plain (marks_of v w s) t (frame_at (marks_of v w s) t)))
      (λ _. Done (stale_everywhere (hardened (marks_of v w s) t) t) true)) h
  loose_twin =
      let e = stale_pair s.paired refl in
      rw (← said) (both_tell (λ r. twin_ends e.marks e.is))

pub firm_twin : (v w : List Track) (s : DeviceStore) (h : Held) (t : ℕ) → t < tracks_of s → half_is s.half t ≡ false → InOrder v w s h →
    Twins (λ v' w' z a b k. Firms v s t v' w' z a b k) (firm_first contents s t) (firm_first by_plain (marks_of v w s) t) h
firm_twin v w s h t lt off o =
    on_test (is_loose s t)
    (λ loose. loose_twin v w s h t lt off o loose)
    (λ firm. twin_done (record { order = record { sure = o.sure; told = o.told }; plain = refl; stays = stays_same s; firm = firm; same = refl }))

-- A half write is opened, where none is

frame_of : (origin : Origin) (f : Option Frame) (i : Image) → FrameHas f i → FrameOf origin f i
frame_of (OfCommand bypass e) f i k = k
frame_of (OfCut bypass) f i k = tt
frame_of OfBackground f i k = k

module _ (t : ℕ) (v w : List Track) (i : Image) (origin : Origin) where
  pub record Opening (z : DeviceStore) (k : Held) : Type 0 where
    pub but : RightBut (Some t) v w z k
    pub told : AllTold z k
    pub below : t < tracks_of z
    pub none : z.half ≡ None
    pub firm : is_loose z t ≡ false
    pub image : i ≡ written_on (image_in z v t) origin
    pub a : (contents_at z k t).a ≡ true → (contents_at z k t).on_a ≡ track_bytes i.track
    pub b : (contents_at z k t).b ≡ true → (contents_at z k t).on_b ≡ track_bytes i.track
    pub frame : FrameHas (contents_at z k t).frame (image_in z v t)
    pub patch : PatchHas (contents_at z k t).patch (image_in z v t)
    pub suits : OriginSuits z.geometry (track_in v t) origin

  pub record Opens (v' w' : List Track) (z : DeviceStore) (s : DeviceStore) (k : Held) : Type 0 where
    pub order : Ordered v' w' z k
    pub plain : v' ≡ v
    pub size : SameSize s z

  same_contents : (z : DeviceStore) (k : Held) (q : ℕ) → contents_at (half_opened contents z t i origin) k q ≡ contents_at z k q
  unfolding T.contents_at
  same_contents z k q = refl

  half_slots : (z : DeviceStore) (kept : Bool) (q : ℕ) → slot_at (half_opened contents z t i origin) kept q ≡ slot_at z kept q
  half_slots z true q = refl
  half_slots z false q = refl

  other_half : (q : ℕ) → q ≢ t → (t == q) ≡ false
  other_half q ne = grind arith

  own_half : (t == t) ≡ true
  own_half = grind arith

  loose_off : (z : DeviceStore) (q : ℕ) → is_loose z t ≡ false → is_loose z q ≡ true → q ≢ t
  loose_off z q firm loose at = absurd (let f : is_loose z t ≡ true = subst (λ (p : ℕ). is_loose z p ≡ true) at loose in cc)

  opens_sure : (z : DeviceStore) (k : Held) → Opening z k → Sure v w (half_opened contents z t i origin) k
  opens_sure z k o = record {
    ground = record {
      sizes = record { are = o.but.ground.sizes.are };
      plain = o.but.ground.plain;
      firm = o.but.ground.firm;
      same = o.but.ground.same;
      apart = λ q loose. other_half q (loose_off z q o.firm loose);
      patches = o.but.ground.patches;
      long = o.but.ground.long;
      slots = same_slots z (half_opened contents z t i origin) k.slots (half_slots z) o.but.ground.slots;
    };
    right = λ q lt ne. each_track (λ p. p < tracks_of z →
        IsRight z.geometry p (Some open_now) (contents_at (half_opened contents z t i origin) k p) (image_in z v p) (image_in z w p)) t
        (λ _. rw (same_contents z k t) (right_by z.geometry t (Some open_now) (contents_at z k t) (image_in z v t) (image_in z w t)
        (own_writes z.geometry t open_now (contents_at z k t) (image_in z v t) (image_in z w t) own_half
        (record {
          image = o.image;
          a = o.a;
          b = o.b;
          frame = frame_of origin (contents_at z k t).frame (image_in z v t) o.frame;
          patch = patch_of origin (contents_at z k t).patch (image_in z v t) o.patch;
          suits = o.suits;
        }))))
        (λ p ne le. rw (same_contents z k p) (some_lost p (o.but.right p le (λ e. ne (sym (some_is t p e)))) ne)) q lt;
  }
    where
      open_now : HalfWrite Image
      open_now = record { track = t; origin = origin; image = i }

      some_lost : (q : ℕ) → IsRight z.geometry q z.half (contents_at z k q) (image_in z v q) (image_in z w q) → q ≢ t →
          IsRight z.geometry q (Some open_now) (contents_at z k q) (image_in z v q) (image_in z w q)
      some_lost q r off =
          lost_case (HeldBy z.geometry q (contents_at z k q) (image_in z v q) (image_in z w q) z.half)
          (HeldBy z.geometry q (contents_at z k q) (image_in z v q) (image_in z w q) (Some open_now)) (contents_at z k q).lost (contents_at z k q).lost
          (λ e. e)
          (λ h. other_keeps z.geometry q open_now (contents_at z k q) (image_in z v q) (image_in z w q) (other_half q off)
          (subst (λ (n : Option (HalfWrite Image)). HeldBy z.geometry q (contents_at z k q) (image_in z v q) (image_in z w q) n) o.none h)) r

  told_half : (z : DeviceStore) (k : Held) → AllTold z k → AllTold (half_opened contents z t i origin) k
  unfolding T.contents_at
  told_half z k told = told

  cleaned_has : (f : Option Frame) (j : Image) → FrameHas f j → FrameHas (cleaned contents f) j
  cleaned_has None j k g e = absurd (cc)
  cleaned_has (Some f) j k g e = let same : g.image ≡ f.image = cc in same ∙ k f refl

  frame_at_is : (z : DeviceStore) (k : Held) → (contents_at z k t).frame ≡ frame_at z t
  unfolding T.contents_at
  frame_at_is z k = refl

  cleaned_opening : (z : DeviceStore) (k : Held) → Opening z k → Opening (with_frame z t (cleaned contents (frame_at z t))) k
  cleaned_opening z k o =
      let f = cleaned contents (frame_at z t) in
      let e = altered_frame z k t o.below o.but.ground.sizes f in
      let y = record (contents_at z k t) { frame = f } in
      record {
        but = similar_right o.but e o.below (record { loose = refl; patch = refl; freed = refl }) refl (λ ne. absurd (ne refl));
        told = told_altered z k (with_frame z t f) k t y o.told e refl;
        below = o.below;
        none = o.none;
        firm = o.firm;
        image = o.image;
        a = λ l. ap (λ (d : TrackContents). d.on_a) e.here ∙ o.a (sym (ap (λ (d : TrackContents). d.a) e.here) ∙ l);
        b = λ l. ap (λ (d : TrackContents). d.on_b) e.here ∙ o.b (sym (ap (λ (d : TrackContents). d.b) e.here) ∙ l);
        frame = rw (ap (λ (d : TrackContents). d.frame) e.here)
            (cleaned_has (frame_at z t) (image_in z v t) (subst (λ (g : Option Frame). FrameHas g (image_in z v t)) (frame_at_is z k) o.frame));
        patch = subst (λ (p : Option Stored). PatchHas p (image_in z v t)) (sym (ap (λ (d : TrackContents). d.patch) e.here)) o.patch;
        suits = o.suits;
      }

  cleaned_mark : (f : Option Frame) → option_map frame_mark (cleaned contents f) ≡ cleaned by_plain (option_map frame_mark f)
  cleaned_mark None = refl
  cleaned_mark (Some f) = refl

  opens_end : (z : DeviceStore) (k : Held) → Opening z k → Opens v w (half_opened contents z t i origin) z k
  opens_end z k o = record { order = record { sure = opens_sure z k o; told = told_half z k o.told }; plain = refl; size = (refl, refl) }

  pub opened_twin : (z : DeviceStore) (k : Held) (was_loose : Bool) → Opening z k →
      Twins (λ v' w' y _ _ n. Opens v' w' y z n) (write_opened contents z t i origin was_loose) (write_opened by_plain (marks_of v w z) t i origin was_loose) k
  opened_twin z k was_loose o =
      on_test was_loose
      (λ _. ask_clean z.device t
      (let c = cleaned_opening z k o in
      let f = cleaned contents (frame_at z t) in
      let e = opens_end (with_frame z t f) k c in
      twin_ends (ap (λ (m : MarksStore). half_opened by_plain m t i origin)
      (with_frame_twin v w z t f ∙ ap (λ (g : Option Bool). with_frame (marks_of v w z) t g)
      (cleaned_mark (frame_at z t) ∙ ap (cleaned by_plain) (sym (frame_twin v w z t)))))
      (record { order = e.order; plain = refl; size = (refl, refl) })))
      (λ _. twin_done (opens_end z k o))
