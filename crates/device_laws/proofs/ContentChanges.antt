-- What each change of a store does to the contents of each track: those of one track, and nothing elsewhere.
use Rattle.std.proofs.Common.{◌≡◌, ◌≢◌, ◌<◌, ◌*◌, ◌&&◌, not, ℕ, Bool, true, false, List, Option, Some, None, length, refl, sym, ap, subst, ◌∙◌, arith}
use Rattle.std.proofs.lemmas.List.{get_or-set_same, get_or-set_other, length-set}
use Rattle.ckd_types.specs.declared.geometry.Geometry.{Geometry}
use Rattle.ckd_types.specs.declared.paths.Side.{Side}
use Rattle.ckd_types.specs.declared.paths.Side.TheVariants.{A, B}
use Rattle.ckd_types.specs.declared.record.Track.{Track}
use Rattle.ckd_types.specs.Volume.{IsVolume, track_in}
use Rattle.track_image.specs.Image.{Image}
use Rattle.track_cache.specs.declared.frames.Frame.{Frame}
use Rattle.nv_store.specs.declared.patches.Stored.{Stored}
use Rattle.nv_store.specs.Patch.{IsPatch}
use Rattle.device_outside.specs.After.{holds_of, with_held}
use Rattle.device_defs.specs.declared.owed.Owed.{Owed}
use Rattle.device_defs.specs.Between.{HasSizes}
use Rattle.device_defs.specs.Contents.{contents}
use Rattle.device_defs.specs.Losses.{slot_in}
use Rattle.device_defs.specs.Sound.{DeviceStore}
use Rattle.device_defs.specs.Store.{
  HalfWrite,
  tracks_of,
  side_of,
  patch_at,
  is_lost,
  is_loose,
  half_is,
  with_stale,
  with_frame,
  with_patch,
  with_lost,
  with_loose,
  with_owed,
}
use Rattle.device_laws.specs.Agrees.{Held, image_in, PatchFits, slot_at, HasSlots, IsGround, Agrees}
use Rattle.device_laws.specs.InOrder.{IsOpen}
use Rattle.device_laws.proofs.TrackContents as T
use Rattle.device_laws.proofs.TrackContents.{TrackContents, contents_at, IsRight, Opened, right_is_held, held_is_right}
use Rattle.device_laws.proofs.EachTrack.{each_track}
use Rattle.device_laws.proofs.Bools.{some_is}
use Rattle.device_defs.specs.declared.counts.Counts.{Counts}
use Rattle.plain_defs.specs.declared.journal.Act.{Act}

-- what no change of one track touches
pub record Base : Type 0 where
  pub geometry : Geometry
  pub cylinders : ℕ
  pub half : Option (HalfWrite Image)
  pub up_a : Bool
  pub up_b : Bool
  pub paired : Bool
  pub long_a : ℕ
  pub long_b : ℕ

unfoldable pub base_of : DeviceStore → Held → Base
base_of s h = record {
  geometry = s.geometry;
  cylinders = s.cylinders;
  half = s.half;
  up_a = s.a.up;
  up_b = s.b.up;
  paired = s.paired;
  long_a = length h.a;
  long_b = length h.b;
}

pub record Altered (s : DeviceStore) (h : Held) (z : DeviceStore) (k : Held) (t : ℕ) (x : TrackContents) : Type 0 where
  pub sizes : HasSizes z
  pub base : base_of z k ≡ base_of s h
  pub elsewhere : (q : ℕ) → q ≢ t → contents_at z k q ≡ contents_at s h q
  pub here : contents_at z k t ≡ x

pub unaltered : (s : DeviceStore) (h : Held) (t : ℕ) → HasSizes s → Altered s h s h t (contents_at s h t)
unaltered s h t sizes = record { sizes = sizes; base = refl; elsewhere = λ q ne. refl; here = refl }

-- one after another, of the same track
pub altered_then : {s z y : DeviceStore} {h k n : Held} {t : ℕ} {x : TrackContents} (f : TrackContents → TrackContents) → Altered s h z k t x →
    Altered z k y n t (f (contents_at z k t)) → Altered s h y n t (f x)
altered_then f e g = record {
  sizes = g.sizes;
  base = g.base ∙ e.base;
  elsewhere = λ q ne. g.elsewhere q ne ∙ e.elsewhere q ne;
  here = g.here ∙ ap f e.here;
}

module _ (s : DeviceStore) (h : Held) (t : ℕ) (lt : t < tracks_of s) (sizes : HasSizes s) where
  pub altered_frame : (f : Option Frame) → Altered s h (with_frame s t f) h t (record (contents_at s h t) { frame = f })
  unfolding T.contents_at base_of
  altered_frame f = record {
    sizes = record { are = simp length-set sizes.are };
    base = refl;
    elsewhere = λ q ne. grind (arith, get_or-set_other);
    here = let e : length s.frames ≡ tracks_of s = cc (sizes.are) in grind (arith, get_or-set_same);
  }

  pub altered_patch : (p : Option Stored) → Altered s h (with_patch s t p) h t (record (contents_at s h t) { patch = p })
  unfolding T.contents_at base_of
  altered_patch p = record {
    sizes = record { are = simp length-set sizes.are };
    base = refl;
    elsewhere = λ q ne. grind (arith, get_or-set_other);
    here = let e : length s.patches ≡ tracks_of s = cc (sizes.are) in grind (arith, get_or-set_same);
  }

  pub altered_lost : Altered s h (with_lost s t) h t (record (contents_at s h t) { lost = true })
  unfolding T.contents_at base_of
  altered_lost = record {
    sizes = record { are = simp length-set sizes.are };
    base = refl;
    elsewhere = λ q ne. grind (arith, get_or-set_other);
    here = let e : length s.lost ≡ tracks_of s = cc (sizes.are) in grind (arith, get_or-set_same);
  }

  pub altered_loose : (b : Bool) → Altered s h (with_loose s t b) h t (record (contents_at s h t) { loose = b })
  unfolding T.contents_at base_of
  altered_loose b = record {
    sizes = record { are = simp length-set sizes.are };
    base = refl;
    elsewhere = λ q ne. grind (arith, get_or-set_other);
    here = let e : length s.loose ≡ tracks_of s = cc (sizes.are) in grind (arith, get_or-set_same);
  }

  pub altered_owed : (o : Owed) → Altered s h (with_owed s t o) h t (record (contents_at s h t) { freed = o.freed; debt = o.firm })
  unfolding T.contents_at base_of
  altered_owed o = record {
    sizes = record { are = simp length-set sizes.are };
    base = refl;
    elsewhere = λ q ne. grind (arith, get_or-set_other);
    here = let e : length s.owed ≡ tracks_of s = cc (sizes.are) in grind (arith, get_or-set_same);
  }

  pub altered_stale_a : (b : Bool) → Altered s h (with_stale s A t b) h t (record (contents_at s h t) { a = s.a.up && not b })
  unfolding T.contents_at base_of
  altered_stale_a b = record {
    sizes = record { are = simp length-set sizes.are };
    base = refl;
    elsewhere = λ q ne. grind (arith, get_or-set_other);
    here = let e : length s.a.stale ≡ tracks_of s = cc (sizes.are) in grind (arith, get_or-set_same);
  }

  pub altered_stale_b : (b : Bool) → Altered s h (with_stale s B t b) h t (record (contents_at s h t) { b = s.b.up && not b })
  unfolding T.contents_at base_of
  altered_stale_b b = record {
    sizes = record { are = simp length-set sizes.are };
    base = refl;
    elsewhere = λ q ne. grind (arith, get_or-set_other);
    here = let e : length s.b.stale ≡ tracks_of s = cc (sizes.are) in grind (arith, get_or-set_same);
  }

  -- a side is written
  pub altered_on_a : (r : List ℕ) → length h.a ≡ tracks_of s → Altered s h s (with_held h A t r) t (record (contents_at s h t) { on_a = r })
  unfolding T.contents_at base_of
  altered_on_a r long = record {
    sizes = sizes;
    base = ap (λ (n : ℕ). record (base_of s h) { long_a = n }) (length-set h.a t r);
    elsewhere = λ q ne. grind (arith, get_or-set_other);
    here = grind (arith, get_or-set_same);
  }

  pub altered_on_b : (r : List ℕ) → length h.b ≡ tracks_of s → Altered s h s (with_held h B t r) t (record (contents_at s h t) { on_b = r })
  unfolding T.contents_at base_of
  altered_on_b r long = record {
    sizes = sizes;
    base = ap (λ (n : ℕ). record (base_of s h) { long_b = n }) (length-set h.b t r);
    elsewhere = λ q ne. grind (arith, get_or-set_other);
    here = grind (arith, get_or-set_same);
  }

-- a change that is seen in no track
pub record Unseen (s : DeviceStore) (h : Held) (z : DeviceStore) (k : Held) : Type 0 where
  pub sizes : HasSizes z
  pub base : base_of z k ≡ base_of s h
  pub same : (q : ℕ) → contents_at z k q ≡ contents_at s h q
  pub slots : k.slots ≡ h.slots

-- Base

module _ (s : DeviceStore) (h : Held) (z : DeviceStore) (k : Held) (e : base_of z k ≡ base_of s h) where
  pub same_geometry : z.geometry ≡ s.geometry
  unfolding base_of
  same_geometry = ap (λ (b : Base). b.geometry) e

  pub same_cylinders : z.cylinders ≡ s.cylinders
  unfolding base_of
  same_cylinders = ap (λ (b : Base). b.cylinders) e

  pub same_tracks : tracks_of z ≡ tracks_of s
  same_tracks = ap (λ (n : ℕ). n * 15) same_cylinders

  pub same_half : z.half ≡ s.half
  unfolding base_of
  same_half = ap (λ (b : Base). b.half) e

  pub same_up_a : z.a.up ≡ s.a.up
  unfolding base_of
  same_up_a = ap (λ (b : Base). b.up_a) e

  pub same_up_b : z.b.up ≡ s.b.up
  unfolding base_of
  same_up_b = ap (λ (b : Base). b.up_b) e

  same_long_a : length k.a ≡ length h.a
  unfolding base_of
  same_long_a = ap (λ (b : Base). b.long_a) e

  same_long_b : length k.b ≡ length h.b
  unfolding base_of
  same_long_b = ap (λ (b : Base). b.long_b) e

  same_long : ((side : Side) → (side_of s side).up ≡ true → length (holds_of h side) ≡ tracks_of s) → (side : Side) → (side_of z side).up ≡ true →
      length (holds_of k side) ≡ tracks_of z
  same_long f A up = same_long_a ∙ f A (sym same_up_a ∙ up) ∙ sym same_tracks
  same_long f B up = same_long_b ∙ f B (sym same_up_b ∙ up) ∙ sym same_tracks

  pub same_volume : (v : List Track) → IsVolume s.geometry s.cylinders v → IsVolume z.geometry z.cylinders v
  same_volume v x = subst (λ (g : Geometry). IsVolume g z.cylinders v) (sym same_geometry) (subst (λ (n : ℕ). IsVolume s.geometry n v) (sym same_cylinders) x)

  pub same_right : (v w : List Track) (q : ℕ) (x y : TrackContents) → y ≡ x → IsRight s.geometry q s.half x (image_in s v q) (image_in s w q) →
      IsRight z.geometry q z.half y (image_in z v q) (image_in z w q)
  same_right v w q x y is r = rw is (rw same_half (rw same_geometry r))

-- Slots

abbrev pub slot_of : Bool → TrackContents → Option ℕ
slot_of true x = slot_in contents x.patch
slot_of false x = x.freed

pub slot_is : (s : DeviceStore) (h : Held) (kept : Bool) (q : ℕ) → slot_at s kept q ≡ slot_of kept (contents_at s h q)
unfolding T.contents_at
slot_is s h true q = refl
slot_is s h false q = refl

pub same_slots : (s z : DeviceStore) (o : Option (List ℕ)) → ((kept : Bool) (q : ℕ) → slot_at z kept q ≡ slot_at s kept q) → HasSlots s o → HasSlots z o
same_slots s z None e x = tt
same_slots s z (Some mine) e x = record {
  own = λ kept t slot f. x.own kept t slot (sym (e kept t) ∙ f);
  apart = λ kept other t q slot f g. x.apart kept other t q slot (sym (e kept t) ∙ f) (sym (e other q) ∙ g);
}

pub unseen_slots : (s : DeviceStore) (h : Held) (z : DeviceStore) (k : Held) → ((kept : Bool) (q : ℕ) →
    slot_of kept (contents_at z k q) ≡ slot_of kept (contents_at s h q)) →
    k.slots ≡ h.slots → HasSlots s h.slots → HasSlots z k.slots
unseen_slots s h z k e same x = rw same (same_slots s z h.slots (λ kept q. slot_is z k kept q ∙ e kept q ∙ sym (slot_is s h kept q)) x)

-- by whether it is the track
pub by_track : (s : DeviceStore) (h : Held) (z : DeviceStore) (k : Held) (t : ℕ) (x : TrackContents) (kept : Bool) → Altered s h z k t x →
    slot_of kept x ≡ slot_of kept (contents_at s h t) → (q : ℕ) → slot_of kept (contents_at z k q) ≡ slot_of kept (contents_at s h q)
by_track s h z k t x kept e same =
    each_track (λ q. slot_of kept (contents_at z k q) ≡ slot_of kept (contents_at s h q)) t (ap (slot_of kept) e.here ∙ same)
    (λ q ne. ap (slot_of kept) (e.elsewhere q ne))

-- Ground

pub loose_is : (s : DeviceStore) (h : Held) (q : ℕ) → is_loose s q ≡ (contents_at s h q).loose
unfolding T.contents_at
loose_is s h q = refl

pub patch_is : (s : DeviceStore) (h : Held) (q : ℕ) → patch_at s q ≡ (contents_at s h q).patch
unfolding T.contents_at
patch_is s h q = refl

-- what is known of a changed track, beside what it holds
pub record Sits (v w : List Track) (half : Option (HalfWrite Image)) (t : ℕ) (x : TrackContents) : Type 0 where
  pub same : x.loose ≡ false → track_in w t ≡ track_in v t
  pub patch : (p : Stored) → x.patch ≡ Some p → IsPatch p.patch
  pub apart : x.loose ≡ true → half_is half t ≡ false

pub ground_altered : (v w : List Track) (s : DeviceStore) (h : Held) (z : DeviceStore) (k : Held) (t : ℕ) (x : TrackContents) →
    IsGround v w s h → Altered s h z k t x → Sits v w s.half t x → HasSlots z k.slots → IsGround v w z k
ground_altered v w s h z k t x g e sits slots = record {
  sizes = e.sizes;
  plain = same_volume s h z k e.base v g.plain;
  firm = same_volume s h z k e.base w g.firm;
  same = λ q lt f. each_track (λ p. p < tracks_of s → (contents_at z k p).loose ≡ false → track_in w p ≡ track_in v p) t
      (λ _ l. sits.same (rw e.here at l)) (λ p ne le l. g.same p le (loose_is s h p ∙ (rw (e.elsewhere p ne) at l)))
      q (let same = same_tracks s h z k e.base in omega arith) (sym (loose_is z k q) ∙ f);
  apart = λ q f. ap (λ (o : Option (HalfWrite Image)). half_is o q) (same_half s h z k e.base)
      ∙ each_track (λ p. (contents_at z k p).loose ≡ true → half_is s.half p ≡ false) t (λ l. sits.apart (rw e.here at l))
      (λ p ne l. g.apart p (loose_is s h p ∙ (rw (e.elsewhere p ne) at l))) q (sym (loose_is z k q) ∙ f);
  patches = λ q p f. each_track (λ r. (contents_at z k r).patch ≡ Some p → IsPatch p.patch) t (λ l. sits.patch p (rw e.here at l))
      (λ r ne l. g.patches r p (patch_is s h r ∙ (rw (e.elsewhere r ne) at l))) q (sym (patch_is z k q) ∙ f);
  long = same_long s h z k e.base g.long;
  slots = slots;
}

-- of a track as it was
pub sits_still : (v w : List Track) (s : DeviceStore) (h : Held) (t : ℕ) (x : TrackContents) → t < tracks_of s → IsGround v w s h →
    x.loose ≡ (contents_at s h t).loose → x.patch ≡ (contents_at s h t).patch → Sits v w s.half t x
sits_still v w s h t x lt g loose patch = record {
  same = λ e. g.same t lt (loose_is s h t ∙ sym loose ∙ e);
  patch = λ p e. g.patches t p (patch_is s h t ∙ sym patch ∙ e);
  apart = λ e. g.apart t (loose_is s h t ∙ sym loose ∙ e);
}

-- Right

-- all tracks are right but those that are exempt
pub record RightOff (exempt : ℕ → Type 0) (v w : List Track) (s : DeviceStore) (h : Held) : Type 0 where
  pub ground : IsGround v w s h
  pub right : (q : ℕ) → q < tracks_of s → (exempt q → ⊥) → IsRight s.geometry q s.half (contents_at s h q) (image_in s v q) (image_in s w q)

-- the one that is being written
abbrev pub Being : Option ℕ → ℕ → Type 0
Being writing q = writing ≡ Some q

abbrev pub RightBut : Option ℕ → List Track → List Track → DeviceStore → Held → Type 0
RightBut writing = RightOff (Being writing)

abbrev pub Sure : List Track → List Track → DeviceStore → Held → Type 0
Sure = RightBut None

opened_at : (v : List Track) (s : DeviceStore) (q : ℕ) (i : HalfWrite Image) → IsOpen v s i → i.track ≡ q → Opened s q (image_in s v q) i
opened_at v s q i o at =
    subst (λ (t : ℕ). Opened s t (image_in s v t) i) at (record { patch = o.patch; suits = o.suits })

pub agrees_sure : (v w : List Track) (s : DeviceStore) (h : Held) → Agrees v w s h →
    ((q : ℕ) → q < tracks_of s → is_lost s q ≡ false → half_is s.half q ≡ false → PatchFits (patch_at s q) (image_in s v q) (image_in s w q)) →
    ((i : HalfWrite Image) → s.half ≡ Some i → IsOpen v s i) → Sure v w s h
agrees_sure v w s h a patched opened = record {
  ground = a.ground;
  right = λ q lt ne. held_is_right s h q (image_in s v q) (image_in s w q) (patched q lt) (λ i e at. opened_at v s q i (opened i e) at) (a.held q lt);
}

pub sure_agrees : (v w : List Track) (s : DeviceStore) (h : Held) → Sure v w s h → Agrees v w s h
sure_agrees v w s h a = record { ground = a.ground; held = λ q lt. right_is_held s h q (image_in s v q) (image_in s w q) (a.right q lt (λ e. absurd (cc))) }

pub off_altered : (exempt : ℕ → Type 0) (v w : List Track) (s : DeviceStore) (h : Held) (z : DeviceStore) (k : Held) (t : ℕ) (x : TrackContents) →
    RightOff exempt v w s h → Altered s h z k t x → Sits v w s.half t x → HasSlots z k.slots →
    ((exempt t → ⊥) → IsRight s.geometry t s.half x (image_in s v t) (image_in s w t)) → RightOff exempt v w z k
off_altered exempt v w s h z k t x b e sits slots here = record {
  ground = ground_altered v w s h z k t x b.ground e sits slots;
  right = λ q lt. each_track
      (λ p. p < tracks_of s → (exempt p → ⊥) → IsRight z.geometry p z.half (contents_at z k p) (image_in z v p) (image_in z w p)) t
      (λ _ ne. same_right s h z k e.base v w t x (contents_at z k t) e.here (here ne))
      (λ p off le ne. same_right s h z k e.base v w p (contents_at s h p) (contents_at z k p) (e.elsewhere p off) (b.right p le ne))
      q (let same = same_tracks s h z k e.base in omega arith);
}

pub right_altered : (writing : Option ℕ) (v w : List Track) (s : DeviceStore) (h : Held) (z : DeviceStore) (k : Held) (t : ℕ) (x : TrackContents) →
    RightBut writing v w s h → Altered s h z k t x → Sits v w s.half t x → HasSlots z k.slots →
    (writing ≢ Some t → IsRight s.geometry t s.half x (image_in s v t) (image_in s w t)) → RightBut writing v w z k
right_altered writing = off_altered (Being writing)

-- a track that is as loose as it was, with the same patch and the same slot owed
pub record Similar (x y : TrackContents) : Type 0 where
  pub loose : y.loose ≡ x.loose
  pub patch : y.patch ≡ x.patch
  pub freed : y.freed ≡ x.freed

similar_slots : (x y : TrackContents) → Similar x y → (kept : Bool) → slot_of kept y ≡ slot_of kept x
similar_slots x y e true = ap (slot_in contents) e.patch
similar_slots x y e false = e.freed

pub similar_right : {exempt : ℕ → Type 0} {v w : List Track} {s : DeviceStore} {h : Held} {z : DeviceStore} {k : Held} {t : ℕ} {y : TrackContents} →
    RightOff exempt v w s h → Altered s h z k t y → t < tracks_of s → Similar (contents_at s h t) y → k.slots ≡ h.slots →
    ((exempt t → ⊥) → IsRight s.geometry t s.half (contents_at s h t) (image_in s v t) (image_in s w t) →
    IsRight s.geometry t s.half y (image_in s v t) (image_in s w t)) → RightOff exempt v w z k
similar_right {exempt} {v} {w} {s} {h} {z} {k} {t} {y} b e lt same slots here =
    off_altered exempt v w s h z k t y b e (sits_still v w s h t y lt b.ground same.loose same.patch)
    (unseen_slots s h z k (λ kept q. by_track s h z k t y kept e (similar_slots (contents_at s h t) y same kept) q) slots b.ground.slots)
    (λ ne. here ne (b.right t lt ne))

-- a change that is seen in no track
pub unseen_right : (writing : Option ℕ) (v w : List Track) (s : DeviceStore) (h : Held) (z : DeviceStore) (k : Held) → RightBut writing v w s h →
    Unseen s h z k →
    RightBut writing v w z k
unseen_right writing v w s h z k b e = record {
  ground = record {
    sizes = e.sizes;
    plain = same_volume s h z k e.base v b.ground.plain;
    firm = same_volume s h z k e.base w b.ground.firm;
    same = λ q lt f. b.ground.same q (let same = same_tracks s h z k e.base in omega arith)
        (loose_is s h q ∙ sym (ap (λ (y : TrackContents). y.loose) (e.same q)) ∙ sym (loose_is z k q) ∙ f);
    apart = λ q f. ap (λ (o : Option (HalfWrite Image)). half_is o q) (same_half s h z k e.base)
        ∙ b.ground.apart q (loose_is s h q ∙ sym (ap (λ (y : TrackContents). y.loose) (e.same q)) ∙ sym (loose_is z k q) ∙ f);
    patches = λ q p f. b.ground.patches q p (patch_is s h q ∙ sym (ap (λ (y : TrackContents). y.patch) (e.same q)) ∙ sym (patch_is z k q) ∙ f);
    long = same_long s h z k e.base b.ground.long;
    slots = unseen_slots s h z k (λ kept q. ap (slot_of kept) (e.same q)) e.slots b.ground.slots;
  };
  right = λ q lt ne. same_right s h z k e.base v w q (contents_at s h q) (contents_at z k q) (e.same q)
      (b.right q (let same = same_tracks s h z k e.base in omega arith) ne);
}

-- neither what an event counts, queues and lists nor whether side B is held is of the tracks, and a device keeps no plain volume
pub beside_right : {writing : Option ℕ} {v w : List Track} {s : DeviceStore} {h : Held} {held : Bool} {queue : List ℕ} {plain firm : List Track}
    {acts : List Act} {counts : Counts} → RightBut writing v w s h →
    RightBut writing v w (record s { held = held; queue = queue; plain = plain; firm = firm; acts = acts; counts = counts }) h
unfolding T.contents_at base_of
beside_right {writing} {v} {w} {s} {h} {held} {queue} {plain} {firm} {acts} {counts} b =
    unseen_right writing v w s h (record s { held = held; queue = queue; plain = plain; firm = firm; acts = acts; counts = counts }) h b
    (record { sizes = record { are = b.ground.sizes.are }; base = refl; same = λ q. refl; slots = refl })

-- one track more is right: it is not being written any more
pub shut : (t : ℕ) (v w : List Track) (s : DeviceStore) (h : Held) → RightBut (Some t) v w s h →
    IsRight s.geometry t s.half (contents_at s h t) (image_in s v t) (image_in s w t) → Sure v w s h
shut t v w s h b r = record {
  ground = b.ground;
  right = λ q lt _. each_track (λ p. p < tracks_of s → IsRight s.geometry p s.half (contents_at s h p) (image_in s v p) (image_in s w p)) t (λ _. r)
      (λ p ne le. b.right p le (λ e. ne (sym (some_is t p e)))) q lt;
}

pub opens_write : (t : ℕ) (v w : List Track) (s : DeviceStore) (h : Held) → Sure v w s h → RightBut (Some t) v w s h
opens_write t v w s h b = record { ground = b.ground; right = λ q lt ne. b.right q lt (λ e. absurd (cc)) }
