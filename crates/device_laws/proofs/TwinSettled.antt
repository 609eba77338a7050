-- Settling leaves contents right, and does on marks what it does on contents.
use Rattle.std.proofs.Common.{
  ◌≡◌,
  ◌≢◌,
  ◌<◌,
  ℕ,
  Bool,
  true,
  false,
  List,
  Option,
  Some,
  None,
  is_some,
  set,
  length,
  refl,
  sym,
  ap,
  subst,
  ◌∙◌,
  arith,
  ◌⊎◌,
  inl,
  inr,
}
use Rattle.std.proofs.lemmas.Bool.{cases_eq}
use Rattle.std.specs.Prelude.{option_map, if◌then◌else◌}
use Rattle.ckd_types.specs.declared.record.Track.{Track}
use Rattle.ckd_types.specs.Volume.{track_in}
use Rattle.track_image.specs.Image.{Image}
use Rattle.track_cache.specs.declared.frames.Frame.{Frame}
use Rattle.nv_store.specs.declared.patches.Stored.{Stored}
use Rattle.device_outside.specs.Lists.{is_in}
use Rattle.device_defs.specs.declared.owed.Owed.{Owed}
use Rattle.device_defs.specs.Between.{HasSizes}
use Rattle.device_defs.specs.Contents.{contents, by_plain}
use Rattle.device_defs.specs.Effects.{hardened}
use Rattle.device_defs.specs.Losses as L
use Rattle.device_defs.specs.Losses.{owes_modified, hardened_by_loss, gives_up, slot_in, without_patch, lost_now, kept_by_frame, by_frame, settled}
use Rattle.device_defs.specs.Marks.{MarksStore, marks_of, frame_mark, owed_mark}
use Rattle.device_defs.specs.Sound.{DeviceStore}
use Rattle.device_defs.specs.Store.{
  HalfWrite,
  tracks_of,
  has_level,
  level_at,
  frame_at,
  patch_at,
  is_lost,
  is_loose,
  half_is,
  owed_at,
  with_frame,
  with_patch,
  with_lost,
  with_owed,
}
use Rattle.device_laws.specs.Agrees.{Held, image_in, slot_at, AreSlots, HasSlots}
use Rattle.device_laws.proofs.Bools.{neither}
use Rattle.device_laws.proofs.ContentChanges as C
use Rattle.device_laws.proofs.ContentChanges.{
  base_of,
  Altered,
  unaltered,
  altered_frame,
  altered_patch,
  altered_lost,
  altered_loose,
  altered_owed,
  same_half,
  same_tracks,
  slot_of,
  slot_is,
  by_track,
  unseen_slots,
  sits_still,
  Being,
  RightOff,
  RightBut,
  off_altered,
  similar_right,
  altered_then,
}
use Rattle.device_laws.proofs.PlainVolumes.{put_here, put_elsewhere, put_volume}
use Rattle.device_laws.proofs.TrackContents as T
use Rattle.device_laws.proofs.TrackContents.{TrackContents, contents_at, FrameHas, IsRight, right_lost, right_fewer, right_bare}
use Rattle.device_laws.proofs.TwinChanges.{frame_twin, owed_twin, half_twin, with_frame_twin, with_owed_twin, without_patch_twin}
use Rattle.device_laws.proofs.TwinWalks.{Pair, pair_is, pair_if}
use Rattle.device_laws.proofs.EachTrack.{each_track}

-- What the keeper is still to be told

-- a track that became firm in a loss has a frame, and is not being written
pub record OwesOff (exempt : ℕ → Type 0) (z : DeviceStore) (t : ℕ) (x : TrackContents) : Type 0 where
  pub below : t < tracks_of z
  pub lost : x.lost ≡ false
  pub frame : is_some x.frame ≡ true
  pub half : half_is z.half t ≡ false
  pub still : (exempt t → ⊥)

pub record DebtsOff (exempt : ℕ → Type 0) (z : DeviceStore) (h : Held) : Type 0 where
  pub owes : (q : ℕ) → (contents_at z h q).debt ≡ true → OwesOff exempt z q (contents_at z h q)

pub debts_off : (exempt : ℕ → Type 0) (s : DeviceStore) (h : Held) (z : DeviceStore) (k : Held) (t : ℕ) (x : TrackContents) → DebtsOff exempt s h →
    Altered s h z k t x → (x.debt ≡ true → OwesOff exempt s t x) → DebtsOff exempt z k
debts_off exempt s h z k t x d e here = record {
  owes = each_track (λ q. (contents_at z k q).debt ≡ true → OwesOff exempt z q (contents_at z k q)) t
      (λ f. moved t x (contents_at z k t) e.here (here (rw e.here at f)))
      (λ q ne f. moved q (contents_at s h q) (contents_at z k q) (e.elsewhere q ne) (d.owes q (rw (e.elsewhere q ne) at f)));
}
  where
    moved : (q : ℕ) (y u : TrackContents) → u ≡ y → OwesOff exempt s q y → OwesOff exempt z q u
    moved q y u is o = subst (OwesOff exempt z q) (sym is) (record {
      below = let same = same_tracks s h z k e.base in let lt = o.below in omega arith;
      lost = o.lost;
      frame = o.frame;
      half = ap (λ (m : Option (HalfWrite Image)). half_is m q) (same_half s h z k e.base) ∙ o.half;
      still = o.still;
    })

-- nothing is left that the keeper is to be told
abbrev pub AllTold : DeviceStore → Held → Type 0
AllTold s h = (q : ℕ) → (contents_at s h q).debt ≡ false

pub told_altered : (s : DeviceStore) (h : Held) (z : DeviceStore) (k : Held) (t : ℕ) (x : TrackContents) → AllTold s h → Altered s h z k t x →
    x.debt ≡ (contents_at s h t).debt → AllTold z k
told_altered s h z k t x told e same =
    each_track (λ q. (contents_at z k q).debt ≡ false) t (ap (λ (y : TrackContents). y.debt) e.here ∙ same ∙ told t)
    (λ q ne. ap (λ (y : TrackContents). y.debt) (e.elsewhere q ne) ∙ told q)

pub told_off : (exempt : ℕ → Type 0) (s : DeviceStore) (h : Held) → AllTold s h → DebtsOff exempt s h
told_off exempt s h told = record { owes = λ q e. absurd (let f = told q in cc) }

-- Slots that move from a patch to what is owed

module _ (s z : DeviceStore) (t : ℕ) (gone : slot_at z true t ≡ None) (freed : slot_at z false t ≡ slot_at s true t)
    (others : (kept : Bool) (q : ℕ) → q ≢ t → slot_at z kept q ≡ slot_at s kept q) where
  owed_there : (kept : Bool) (slot : ℕ) → slot_at z kept t ≡ Some slot → (kept ≡ false) × (slot_at s true t ≡ Some slot)
  owed_there true slot e = absurd (let f = gone in cc)
  owed_there false slot e = (refl, sym freed ∙ e)

  module _ (mine : List ℕ) (x : AreSlots s mine) where
    own_by : (kept : Bool) (q slot : ℕ) → slot_at z kept q ≡ Some slot → ((q ≡ t) ⊎ (q ≢ t)) → is_in slot mine ≡ true
    own_by kept q slot f (inl at) =
        x.own true t slot (owed_there kept slot (subst (λ (p : ℕ). slot_at z kept p ≡ Some slot) at f)).1
    own_by kept q slot f (inr ne) = x.own kept q slot (sym (others kept q ne) ∙ f)

    apart_by : (kept other : Bool) (q r slot : ℕ) → slot_at z kept q ≡ Some slot → slot_at z other r ≡ Some slot → ((q ≡ t) ⊎ (q ≢ t)) →
        ((r ≡ t) ⊎ (r ≢ t)) → (kept ≡ other) × (q ≡ r)
    apart_by kept other q r slot f g (inl at) (inl is) =
        let a = owed_there kept slot (subst (λ (p : ℕ). slot_at z kept p ≡ Some slot) at f) in
        let b = owed_there other slot (subst (λ (p : ℕ). slot_at z other p ≡ Some slot) is g) in
        (a.0 ∙ sym b.0, at ∙ sym is)
    apart_by kept other q r slot f g (inl at) (inr ne) =
        let a = owed_there kept slot (subst (λ (p : ℕ). slot_at z kept p ≡ Some slot) at f) in
        absurd (ne (sym (x.apart true other t r slot a.1 (sym (others other r ne) ∙ g)).1))
    apart_by kept other q r slot f g (inr ne) (inl is) =
        let b = owed_there other slot (subst (λ (p : ℕ). slot_at z other p ≡ Some slot) is g) in
        absurd (ne (x.apart kept true q t slot (sym (others kept q ne) ∙ f) b.1).1)
    apart_by kept other q r slot f g (inr ne) (inr off) =
        x.apart kept other q r slot (sym (others kept q ne) ∙ f) (sym (others other r off) ∙ g)

  moved_slots : (o : Option (List ℕ)) → HasSlots s o → HasSlots z o
  moved_slots None x = tt
  moved_slots (Some mine) x = record {
    own = λ kept q slot f. own_by mine x kept q slot f (cases_eq q t);
    apart = λ kept other q r slot f g. apart_by mine x kept other q r slot f g (cases_eq q t) (cases_eq r t);
  }

-- A patch is given up with its slot

abbrev pub freed_by : Option Stored → Option ℕ → Option ℕ
freed_by None freed = freed
freed_by (Some p) freed = Some p.slot

abbrev pub unpatched : TrackContents → TrackContents
unpatched x = record x { patch = None; freed = freed_by x.patch x.freed }

module _ (s : DeviceStore) (h : Held) (t : ℕ) (lt : t < tracks_of s) (sizes : HasSizes s) where
  unpatched_by : (p : Option Stored) → patch_at s t ≡ p → Altered s h (gives_up s t (slot_in contents p)) h t
      (record (contents_at s h t) { patch = None; freed = freed_by p (contents_at s h t).freed })
  unfolding T.contents_at
  unpatched_by None e =
      let g = unaltered s h t sizes in
      record { sizes = g.sizes; base = g.base; elsewhere = g.elsewhere; here = ap (λ (o : Option Stored). record (contents_at s h t) { patch = o }) e }
  unpatched_by (Some p) e =
      let g = altered_patch s h t lt sizes None in
      let y = with_patch s t None in
      let k = altered_owed y h t lt g.sizes (record (owed_at y t) { freed = Some p.slot }) in
      altered_then (λ (c : TrackContents). record c { freed = Some p.slot; debt = (owed_at s t).firm }) g k

  pub altered_unpatched : Altered s h (without_patch contents s t) h t (unpatched (contents_at s h t))
  unfolding T.contents_at
  altered_unpatched = unpatched_by (patch_at s t) refl

module _ (s : DeviceStore) (h : Held) (z : DeviceStore) (k : Held) (t : ℕ) (y : TrackContents) (e : Altered s h z k t y) where
  slots_there : (kept : Bool) (q : ℕ) → q ≢ t → slot_at z kept q ≡ slot_at s kept q
  slots_there kept q ne = slot_is z k kept q ∙ ap (slot_of kept) (e.elsewhere q ne) ∙ sym (slot_is s h kept q)

  unpatched_case : (p : Option Stored) → (contents_at s h t).patch ≡ p → y.patch ≡ None → y.freed ≡ freed_by p (contents_at s h t).freed →
      k.slots ≡ h.slots → HasSlots s h.slots → HasSlots z k.slots
  unpatched_case None is none freed same x =
      unseen_slots s h z k (λ kept q. by_track s h z k t y kept e (slots_by kept) q) same x
    where
      slots_by : (kept : Bool) → slot_of kept y ≡ slot_of kept (contents_at s h t)
      slots_by true = ap (slot_in contents) (none ∙ sym is)
      slots_by false = freed
  unpatched_case (Some p) is none freed same x =
      rw same (moved_slots s z t (slot_is z k true t ∙ ap (slot_of true) e.here ∙ ap (slot_in contents) none)
      (slot_is z k false t ∙ ap (slot_of false) e.here ∙ freed ∙ ap (slot_in contents) (sym is) ∙ sym (slot_is s h true t))
      slots_there h.slots x)

  pub unpatched_slots : y.patch ≡ None → y.freed ≡ freed_by (contents_at s h t).patch (contents_at s h t).freed → k.slots ≡ h.slots →
      HasSlots s h.slots → HasSlots z k.slots
  unpatched_slots none freed same x = unpatched_case (contents_at s h t).patch refl none freed same x

-- Settling

-- what it leaves
pub record SettlesOff (exempt : ℕ → Type 0) (h : Held) (u : List Track) (s : DeviceStore) (v w : List Track) (z : DeviceStore) : Type 0 where
  pub but : RightOff exempt v w z h
  pub debts : DebtsOff exempt z h
  pub base : base_of z h ≡ base_of s h
  pub plain : v ≡ u
  pub own : (t : ℕ) → exempt t → contents_at z h t ≡ contents_at s h t

module _ (exempt : ℕ → Type 0) (h : Held) (v w : List Track) (s : DeviceStore) (t : ℕ) (lt : t < tracks_of s) (b : RightOff exempt v w s h)
    (d : DebtsOff exempt s h) (other : (exempt t → ⊥)) where
  abbrev x : TrackContents
  x = contents_at s h t

  stays : SettlesOff exempt h v s v w s
  stays = record { but = b; debts = d; base = refl; plain = refl; own = λ q e. refl }

  -- a change of the track that keeps what is known of it
  changed : (z : DeviceStore) (y : TrackContents) → Altered s h z h t y → y.loose ≡ x.loose → y.patch ≡ x.patch → y.freed ≡ x.freed →
      (IsRight s.geometry t s.half x (image_in s v t) (image_in s w t) → IsRight s.geometry t s.half y (image_in s v t) (image_in s w t)) →
      (y.debt ≡ true → OwesOff exempt s t y) → SettlesOff exempt h v s v w z
  changed z y e loose patch freed right debt = record {
    but = similar_right b e lt (record { loose = loose; patch = patch; freed = freed }) refl (λ _. right);
    debts = debts_off exempt s h z h t y d e debt;
    base = e.base;
    plain = refl;
    own = λ q f. e.elsewhere q (λ at. other (subst exempt at f));
  }

  -- its clean frame is marked
  module _ (f : Frame) (e : frame_at s t ≡ Some f) where
    abbrev marked : Frame
    marked = record { image = f.image; modified = true }

    abbrev y : TrackContents
    y = record x { frame = Some marked }

    modified_altered : Altered s h (owes_modified (with_frame s t (Some marked)) t) h t y
    unfolding T.contents_at
    modified_altered =
        let g = altered_frame s h t lt b.ground.sizes (Some marked) in
        let z = with_frame s t (Some marked) in
        let k = altered_owed z h t lt g.sizes (record (owed_at z t) { modified = true }) in
        altered_then (λ (u : TrackContents). record u { freed = (owed_at s t).freed; debt = (owed_at s t).firm }) g k

    frame_there : x.frame ≡ Some f
    unfolding T.contents_at
    frame_there = e

    same_frame : (i : Image) → FrameHas x.frame i → FrameHas y.frame i
    same_frame i k g is = let was : f.image ≡ i = k f frame_there in ap (λ (u : Frame). u.image) (marked_is g is) ∙ was
      where
        marked_is : (g : Frame) → Some marked ≡ Some g → g ≡ marked
        marked_is g e = cc

    marked_settles : SettlesOff exempt h v s v w (owes_modified (with_frame s t (Some marked)) t)
    marked_settles =
        changed (owes_modified (with_frame s t (Some marked)) t) y modified_altered refl refl refl
        (right_fewer s.geometry t s.half x y (image_in s v t) (image_in s w t)
        (record { lost = λ l. l; frame = same_frame; patch = refl; a = λ l. (l, refl); b = λ l. (l, refl) }))
        (λ debt. let o = d.owes t debt in record { below = lt; lost = o.lost; frame = refl; half = o.half; still = other })

    marked_twin : marks_of v w (owes_modified (with_frame s t (Some marked)) t) ≡ owes_modified (with_frame (marks_of v w s) t (Some true)) t
    marked_twin =
        let z = with_frame s t (Some marked) in
        let o : Owed = record (owed_at s t) { modified = true } in
        with_owed_twin v w z t o
        ∙ ap (λ (m : MarksStore). with_owed m t (owed_mark o)) (with_frame_twin v w s t (Some marked))
        ∙ ap (λ (u : Owed). with_owed (with_frame (marks_of v w s) t (Some true)) t (record u { modified = true })) (sym (owed_twin v w s t))

    kept_pair : (m : Bool) → f.modified ≡ m → Pair (SettlesOff exempt h v s) (if m then s else owes_modified (with_frame s t (Some marked)) t)
        (if m then marks_of v w s else owes_modified (with_frame (marks_of v w s) t (Some true)) t)
    kept_pair true is = pair_is stays
    kept_pair false is = record { plain = v; firm = w; marks = marked_twin; is = marked_settles }

    -- a loose track becomes firm
    abbrev firm_now : List Track
    firm_now = set w t (track_in v t)

    module _ (there : is_lost s t ≡ false) (off : has_level s t ≡ false) (loose : is_loose s t ≡ true) where
      long : t < length w
      long = let same = b.ground.firm.tracks in omega arith

      levels : has_level s t ≡ false → (x.a ≡ false) × (x.b ≡ false)
      unfolding T.contents_at
      levels none = neither (level_at s.a t) (level_at s.b t) none

      firm_image : image_in s firm_now t ≡ image_in s v t
      firm_image = ap (λ (l : Track). record { geometry = s.geometry; track = l }) (put_here w t (track_in v t) long)

      patch_there : (p : Stored) → x.patch ≡ Some p → patch_at s t ≡ Some p
      unfolding T.contents_at
      patch_there p l = l

      put : RightOff exempt v firm_now s h
      put = record {
        ground = record {
          sizes = b.ground.sizes;
          plain = b.ground.plain;
          firm = put_volume s.geometry s.cylinders w t (track_in v t) b.ground.firm lt (b.ground.plain.homes t lt) (b.ground.plain.fits t lt);
          same = each_track (λ q. q < tracks_of s → is_loose s q ≡ false → track_in firm_now q ≡ track_in v q) t
              (λ below e. put_here w t (track_in v t) long) (λ q ne below e. put_elsewhere w t (track_in v t) q ne ∙ b.ground.same q below e);
          apart = b.ground.apart;
          patches = b.ground.patches;
          long = b.ground.long;
          slots = b.ground.slots;
        };
        right = each_track (λ q. q < tracks_of s → (exempt q → ⊥) →
            IsRight s.geometry q s.half (contents_at s h q) (image_in s v q) (image_in s firm_now q)) t
            (λ below ne. right_bare s.geometry t s.half x x (image_in s v t) (image_in s w t) (image_in s firm_now t)
            (record { lost = λ l. l; frame = λ i k. k; a = (levels off).0; b = (levels off).1 }) (inr (refl, firm_image)) (b.right t lt other))
            (λ q away below ne.
            rw (put_elsewhere w t (track_in v t) q away) (b.right q below ne));
      }

      abbrev u : TrackContents
      u = record x { loose = false; debt = true }

      firm_altered : Altered s h (hardened_by_loss s t) h t u
      unfolding T.contents_at C.base_of
      firm_altered =
          let g = altered_loose s h t lt b.ground.sizes false in
          let z = hardened s t in
          let k = altered_owed z h t lt (record { are = g.sizes.are }) (record (owed_at z t) { firm = true }) in
          record {
            sizes = k.sizes;
            base = k.base;
            elsewhere = λ q ne. k.elsewhere q ne ∙ g.elsewhere q ne;
            here = k.here ∙ ap (λ (c : TrackContents). record c { freed = (owed_at s t).freed; debt = true }) g.here;
          }

      lost_not : x.lost ≡ false
      unfolding T.contents_at
      lost_not = there

      firm_settles : SettlesOff exempt h v s v firm_now (hardened_by_loss s t)
      firm_settles =
          let e' = firm_altered in
          let z = hardened_by_loss s t in record {
            but = off_altered exempt v firm_now s h z h t u put e'
                (record { same = λ l. put_here w t (track_in v t) long; patch = λ p l. b.ground.patches t p (patch_there p l); apart = λ l. absurd (cc) })
                (unseen_slots s h z h (λ kept q. by_track s h z h t u kept e' (slots_by kept) q) refl b.ground.slots)
                (λ ne. right_fewer s.geometry t s.half x u (image_in s v t) (image_in s firm_now t)
                (record { lost = λ l. l; frame = λ i k. k; patch = refl; a = λ l. (l, refl); b = λ l. (l, refl) }) (put.right t lt ne));
            debts = debts_off exempt s h z h t u d e'
                (λ l. record { below = lt; lost = lost_not; frame = ap is_some frame_there; half = b.ground.apart t loose; still = other });
            base = e'.base;
            plain = refl;
            own = λ q l. e'.elsewhere q (λ at. other (subst exempt at l));
          }
        where
          slots_by : (kept : Bool) → slot_of kept u ≡ slot_of kept x
          slots_by true = refl
          slots_by false = refl

      firm_twin : marks_of v firm_now (hardened_by_loss s t) ≡ hardened_by_loss (marks_of v w s) t
      firm_twin =
          let z = hardened s t in
          let o : Owed = record (owed_at s t) { firm = true } in
          with_owed_twin v firm_now z t o
          ∙ ap (λ (c : Owed). with_owed (hardened (marks_of v w s) t) t (record c { firm = true })) (sym (owed_twin v w s t))

    framed_choice : is_lost s t ≡ false → has_level s t ≡ false → (c : Bool) → is_loose s t ≡ c →
        Pair (SettlesOff exempt h v s) (if c then hardened_by_loss s t else kept_by_frame contents s t f)
        (if c then hardened_by_loss (marks_of v w s) t else kept_by_frame by_plain (marks_of v w s) t f.modified)
    framed_choice there off true is = record { plain = v; firm = firm_now; marks = firm_twin there off is; is = firm_settles there off is }
    framed_choice there off false is = kept_pair f.modified refl

  -- it is lost, unless a half write is open on it
  lost_altered : Altered s h (lost_now contents s t) h t (unpatched (record x { lost = true }))
  lost_altered =
      let g = altered_lost s h t lt b.ground.sizes in
      let z = with_lost s t in
      let k = altered_unpatched z h t lt g.sizes in
      altered_then unpatched g k

  frame_none : frame_at s t ≡ None → x.frame ≡ None
  unfolding T.contents_at
  frame_none e = e

  not_some : {X : Type 0} (o : Option X) → o ≡ None → is_some o ≡ true → ⊥
  not_some None e f = absurd (cc)
  not_some (Some y) e f = absurd (cc)

  lost_settles : frame_at s t ≡ None → SettlesOff exempt h v s v w (lost_now contents s t)
  lost_settles none =
      let y = unpatched (record x { lost = true }) in
      let z = lost_now contents s t in
      let g = lost_altered in
      let still = sits_still v w s h t x lt b.ground refl refl in
      record {
        but = off_altered exempt v w s h z h t y b g
            (record { same = still.same; patch = λ p e. absurd (cc); apart = still.apart })
            (unpatched_slots s h z h t y g refl refl refl b.ground.slots)
            (λ ne. right_lost s.geometry t s.half y (image_in s v t) (image_in s w t) refl);
        debts = debts_off exempt s h z h t y d g (λ l. absurd (not_some x.frame (frame_none none) (d.owes t l).frame));
        base = g.base;
        plain = refl;
        own = λ q l. g.elsewhere q (λ at. other (subst exempt at l));
      }

  unframed_pair : frame_at s t ≡ None → (c : Bool) → Pair (SettlesOff exempt h v s) (if c then s else lost_now contents s t)
      (if c then marks_of v w s else lost_now by_plain (marks_of v w s) t)
  unframed_pair none true = pair_is stays
  unframed_pair none false = record { plain = v; firm = w; marks = without_patch_twin v w (with_lost s t) t; is = lost_settles none }

  frame_pair : is_lost s t ≡ false → has_level s t ≡ false → (o : Option Frame) → frame_at s t ≡ o →
      Pair (SettlesOff exempt h v s) (by_frame contents s t o) (by_frame by_plain (marks_of v w s) t (option_map frame_mark o))
  frame_pair there off None e = rw (half_twin v w s t) (unframed_pair e (half_is s.half t))
  frame_pair there off (Some f) e = framed_choice f e there off (is_loose s t) refl

  pub settled_off : Pair (SettlesOff exempt h v s) (settled contents s t) (settled by_plain (marks_of v w s) t)
  unfolding L.settled
  settled_off =
      pair_if (is_some s.lent) (λ _. pair_is stays)
      (λ _. pair_if (is_lost s t) (λ _. pair_is stays)
      (λ there. pair_if (has_level s t) (λ _. pair_is stays) (λ off. rw (frame_twin v w s t) (frame_pair there off (frame_at s t) refl))))

  -- of a track that isn't loose nothing is left to tell
  module _ (told : AllTold s h) (firm : is_loose s t ≡ false) where
    told_marked : (f : Frame) (e : frame_at s t ≡ Some f) (m : Bool) →
        AllTold (if m then s else owes_modified (with_frame s t (Some (record { image = f.image; modified = true }))) t) h
    told_marked f e true = told
    told_marked f e false =
        told_altered s h (owes_modified (with_frame s t (Some (record { image = f.image; modified = true }))) t) h t
        (record x { frame = Some (record { image = f.image; modified = true }) }) told (modified_altered f e) refl

    told_framed : (f : Frame) (e : frame_at s t ≡ Some f) (c : Bool) → is_loose s t ≡ c →
        AllTold (if c then hardened_by_loss s t else kept_by_frame contents s t f) h
    told_framed f e true loose = absurd (cc)
    told_framed f e false loose = told_marked f e f.modified

    told_unframed : (c : Bool) → AllTold (if c then s else lost_now contents s t) h
    told_unframed true = told
    told_unframed false = told_altered s h (lost_now contents s t) h t (unpatched (record x { lost = true })) told lost_altered refl

    told_frame : (o : Option Frame) → frame_at s t ≡ o → AllTold (by_frame contents s t o) h
    told_frame None e = told_unframed (half_is s.half t)
    told_frame (Some f) e = told_framed f e (is_loose s t) refl

    told_test : (c : Bool) (z : DeviceStore) → AllTold z h → AllTold (if c then s else z) h
    told_test true z e = told
    told_test false z e = e

    pub settled_told_off : AllTold (settled contents s t) h
    unfolding L.settled
    settled_told_off =
        told_test (is_some s.lent) _ (told_test (is_lost s t) _ (told_test (has_level s t) _ (told_frame (frame_at s t) refl)))

-- Where the one is exempt that is being written

abbrev pub Owes : Option ℕ → DeviceStore → ℕ → TrackContents → Type 0
Owes writing = OwesOff (Being writing)

abbrev pub Debts : Option ℕ → DeviceStore → Held → Type 0
Debts writing = DebtsOff (Being writing)

abbrev pub Settles : Option ℕ → Held → List Track → DeviceStore → List Track → List Track → DeviceStore → Type 0
Settles writing = SettlesOff (Being writing)

pub debts_altered : (writing : Option ℕ) (s : DeviceStore) (h : Held) (z : DeviceStore) (k : Held) (t : ℕ) (x : TrackContents) → Debts writing s h →
    Altered s h z k t x → (x.debt ≡ true → Owes writing s t x) → Debts writing z k
debts_altered writing = debts_off (Being writing)

pub told_debts : (writing : Option ℕ) (s : DeviceStore) (h : Held) → AllTold s h → Debts writing s h
told_debts writing = told_off (Being writing)

pub settled_pair : (writing : Option ℕ) (h : Held) (v w : List Track) (s : DeviceStore) (t : ℕ) → t < tracks_of s → RightBut writing v w s h →
    Debts writing s h → writing ≢ Some t → Pair (Settles writing h v s) (settled contents s t) (settled by_plain (marks_of v w s) t)
settled_pair writing = settled_off (Being writing)

pub settled_told : (writing : Option ℕ) (h : Held) (v w : List Track) (s : DeviceStore) (t : ℕ) → t < tracks_of s → RightBut writing v w s h →
    Debts writing s h → writing ≢ Some t → AllTold s h → is_loose s t ≡ false → AllTold (settled contents s t) h
settled_told writing = settled_told_off (Being writing)
