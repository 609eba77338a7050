-- The loss of the cache leaves all right, with its twin on marks: first no frame counts any more, then each track is settled.
use Rattle.std.proofs.Common.{
  ◌≡◌,
  ◌≢◌,
  ◌<◌,
  ◌≤◌,
  ◌==◌,
  ℕ,
  zero,
  suc,
  Bool,
  true,
  false,
  List,
  [],
  Option,
  Some,
  None,
  is_some,
  refl,
  sym,
  ap,
  subst,
  ◌∙◌,
  arith,
}
use Rattle.std.specs.Prelude.{if◌then◌else◌}
use Rattle.ckd_types.specs.declared.geometry.Geometry.{Geometry}
use Rattle.ckd_types.specs.declared.record.Track.{Track}
use Rattle.loss_model.specs.declared.Loss.TheVariants as losses
use Rattle.track_image.specs.Image.{Image}
use Rattle.track_cache.specs.declared.frames.Frame.{Frame}
use Rattle.track_table.proofs.Places.{empty_places}
use Rattle.plain_defs.specs.declared.journal.Act.TheVariants.{CfwLost}
use Rattle.device_defs.specs.declared.owed.Owed.{Owed}
use Rattle.device_defs.specs.Between.{HasSizes}
use Rattle.device_defs.specs.Contents.{contents, by_plain}
use Rattle.device_defs.specs.Effects.{act_noted, gone_back}
use Rattle.device_defs.specs.Events.{with_loss, losing}
use Rattle.device_defs.specs.Losses as L
use Rattle.device_defs.specs.Losses.{over, without_frame, settled, cache_lost}
use Rattle.device_defs.specs.Marks.{MarksStore, marks_of, owed_mark}
use Rattle.device_defs.specs.Sound.{DeviceStore, written_on}
use Rattle.device_defs.specs.Store.{
  Origin,
  OfCommand,
  OfCut,
  OfBackground,
  HalfWrite,
  Store,
  tracks_of,
  frame_at,
  is_loose,
  has_loose,
  half_is,
  owed_at,
  with_frame,
  with_owed,
}
use Rattle.device_laws.specs.Agrees.{Held, image_in, PatchOf, slot_at}
use Rattle.device_laws.specs.InOrder.{plain_lost}
use Rattle.device_laws.specs.PlainWrites.{OriginSuits}
use Rattle.device_laws.specs.Twin.{Twins}
use Rattle.device_laws.proofs.CacheLost.{none_below, begun_sizes, begun_tracks}
use Rattle.device_laws.proofs.ContentChanges as C
use Rattle.device_laws.proofs.ContentChanges.{
  base_of,
  Altered,
  unaltered,
  altered_frame,
  altered_owed,
  same_tracks,
  same_right,
  same_slots,
  RightOff,
  RightBut,
  similar_right,
  altered_then,
}
use Rattle.device_laws.proofs.TrackContents as T
use Rattle.device_laws.proofs.TrackContents.{
  TrackContents,
  contents_at,
  FrameOf,
  Keeps,
  Writes,
  HeldBy,
  IsRight,
  right_fewer,
  keeps_other,
  other_keeps,
  writes_own,
  own_writes,
  lost_case,
}
use Rattle.device_laws.proofs.TrackMarks.{device_is_faithful}
use Rattle.device_laws.proofs.TwinAsks.{InOrder}
use Rattle.device_laws.proofs.TwinChanges.{owed_twin, with_frame_twin, with_owed_twin, has_frame_twin}
use Rattle.device_laws.proofs.TwinFailed.{told_twin}
use Rattle.device_laws.proofs.TwinLosses.{Loses, counted_loss}
use Rattle.device_laws.proofs.TwinSettled.{AllTold, told_altered, told_off, told_debts, SettlesOff, Settles, settled_off, settled_told_off}
use Rattle.device_laws.proofs.TwinWalks.{Pair, pair_is, pair_on, pair_weaker, twin_weaker}
use Rattle.device_laws.proofs.EachTrack.{each_track}

-- A track without its frame

abbrev pub bare : TrackContents → TrackContents
bare x = record x { frame = None }

bare_frame : (origin : Origin) (i : Image) → FrameOf origin None i
bare_frame (OfCommand bypass e) i = λ f is. absurd (cc)
bare_frame (OfCut bypass) i = tt
bare_frame OfBackground i = λ f is. absurd (cc)

bare_keeps : (g : Geometry) (t : ℕ) (x : TrackContents) (plain firm : Image) → Keeps g t x plain firm → Keeps g t (bare x) firm firm
bare_keeps g t x plain firm k = record { frame = λ f e. absurd (cc); a = k.a; b = k.b; patch = (k.patch.1, k.patch.1) }

bare_writes : (x : TrackContents) (plain firm : Image) (w : HalfWrite Image) → firm ≡ plain → Writes x plain w → Writes (bare x) firm w
bare_writes x plain firm w same k = record {
  image = k.image ∙ ap (λ (i : Image). written_on i w.origin) (sym same);
  a = k.a;
  b = k.b;
  frame = bare_frame w.origin firm;
  patch = subst (λ (i : Image). PatchOf w.origin x.patch i) (sym same) k.patch;
  suits = subst (λ (i : Image). OriginSuits i.geometry i.track w.origin) (sym same) k.suits;
}

-- it is right, and its plain track then is the firm one
bare_held : (g : Geometry) (t : ℕ) (half : Option (HalfWrite Image)) (x : TrackContents) (plain firm : Image) → (half_is half t ≡ true → firm ≡ plain) →
    HeldBy g t x plain firm half → HeldBy g t (bare x) firm firm half
bare_held g t None x plain firm same k = bare_keeps g t x plain firm k
bare_held g t (Some w) x plain firm same k = by_own (w.track == t) refl
  where
    by_own : (b : Bool) → (w.track == t) ≡ b → HeldBy g t (bare x) firm firm (Some w)
    by_own true e = own_writes g t w (bare x) firm firm e (bare_writes x plain firm w (same e) (writes_own g t w x plain firm e k))
    by_own false e = other_keeps g t w (bare x) firm firm e (bare_keeps g t x plain firm (keeps_other g t w x plain firm e k))

bare_right : (g : Geometry) (t : ℕ) (half : Option (HalfWrite Image)) (x : TrackContents) (plain firm : Image) → (half_is half t ≡ true → firm ≡ plain) →
    IsRight g t half x plain firm → IsRight g t half (bare x) firm firm
bare_right g t half x plain firm same r =
    lost_case (HeldBy g t x plain firm half) (HeldBy g t (bare x) firm firm half) x.lost x.lost (λ e. e) (bare_held g t half x plain firm same) r

-- Its frame is given up

module _ (s : DeviceStore) (h : Held) (t : ℕ) (lt : t < tracks_of s) (sizes : HasSizes s) where
  bared_by : (o : Option Frame) → frame_at s t ≡ o →
      Altered s h (if is_some o then with_owed (with_frame s t None) t (record (owed_at s t) { dropped = true }) else s) h t (bare (contents_at s h t))
  unfolding T.contents_at
  bared_by None e =
      let g = unaltered s h t sizes in
      record { sizes = g.sizes; base = g.base; elsewhere = g.elsewhere; here = ap (λ (o : Option Frame). record (contents_at s h t) { frame = o }) e }
  bared_by (Some f) e =
      let g = altered_frame s h t lt sizes None in
      let y = with_frame s t None in
      let k = altered_owed y h t lt g.sizes (record (owed_at y t) { dropped = true }) in
      altered_then (λ (c : TrackContents). record c { freed = (owed_at s t).freed; debt = (owed_at s t).firm }) g k

  pub bared : Altered s h (without_frame s t) h t (bare (contents_at s h t))
  bared = bared_by (frame_at s t) refl

module _ (v w : List Track) (s : DeviceStore) (t : ℕ) where
  bared_marks : (b : Bool) →
      marks_of v w (if b then with_owed (with_frame s t None) t (record (owed_at s t) { dropped = true }) else s)
      ≡ (if b then with_owed (with_frame (marks_of v w s) t None) t (record (owed_at (marks_of v w s) t) { dropped = true }) else marks_of v w s)
  bared_marks true =
      let o : Owed = record (owed_at s t) { dropped = true } in
      with_owed_twin v w (with_frame s t None) t o
      ∙ ap (λ (m : MarksStore). with_owed m t (owed_mark o)) (with_frame_twin v w s t None)
      ∙ ap (λ (u : Owed). with_owed (with_frame (marks_of v w s) t None) t (record u { dropped = true })) (sym (owed_twin v w s t))
  bared_marks false = refl

  pub bared_twin : marks_of v w (without_frame s t) ≡ without_frame (marks_of v w s) t
  bared_twin =
      bared_marks (is_some (frame_at s t))
      ∙ ap (λ (b : Bool). if b then with_owed (with_frame (marks_of v w s) t None) t (record (owed_at (marks_of v w s) t) { dropped = true })
      else marks_of v w s) (sym (has_frame_twin v w s t))

-- Each track in turn

abbrev pub From : ℕ → ℕ → Type 0
From n q = n ≤ q

-- the first n tracks are right, and the others will be without their frames; none is loose
pub record Swept (h : Held) (u : List Track) (y : DeviceStore) (n : ℕ) (v w : List Track) (z : DeviceStore) : Type 0 where
  pub off : RightOff (From n) v w z h
  pub later : (q : ℕ) → q < tracks_of z → n ≤ q → IsRight z.geometry q z.half (bare (contents_at z h q)) (image_in z v q) (image_in z v q)
  pub firm : (q : ℕ) → q < tracks_of z → n ≤ q → (contents_at z h q).loose ≡ false
  pub told : AllTold z h
  pub base : base_of z h ≡ base_of y h
  pub plain : v ≡ u

loose_is : (s : DeviceStore) (h : Held) (q : ℕ) → (contents_at s h q).loose ≡ is_loose s q
unfolding T.contents_at
loose_is s h q = refl

module _ (h : Held) (u : List Track) (y : DeviceStore) (n : ℕ) (v w : List Track) (z : DeviceStore) (lt : n < tracks_of z) (x : Swept h u y n v w z) where
  abbrev c : TrackContents
  c = contents_at z h n

  abbrev a : DeviceStore
  a = without_frame z n

  e : Altered z h a h n (bare c)
  e = bared z h n lt x.off.ground.sizes

  still : tracks_of a ≡ tracks_of z
  still = same_tracks z h a h e.base

  bared_off : RightOff (From n) v w a h
  bared_off = similar_right x.off e lt (record { loose = refl; patch = refl; freed = refl }) refl (λ ne. absurd (ne (omega arith)))

  firm_here : is_loose z n ≡ false
  firm_here = sym (loose_is z h n) ∙ x.firm n lt (omega arith)

  here_right : IsRight a.geometry n a.half (contents_at a h n) (image_in a v n) (image_in a w n)
  here_right =
      same_right z h a h e.base v w n (bare c) (contents_at a h n) e.here (rw (x.off.ground.same n lt firm_here) (x.later n lt (omega arith)))

  one_off : RightOff (From (suc n)) v w a h
  one_off = record {
    ground = bared_off.ground;
    right = λ q below ne. each_track
        (λ p. p < tracks_of a → (From (suc n) p → ⊥) → IsRight a.geometry p a.half (contents_at a h p) (image_in a v p) (image_in a w p)) n
        (λ _ _. here_right) (λ p off le more. bared_off.right p le (λ from. more (beyond p off from))) q below ne;
  }
    where
      beyond : (p : ℕ) → p ≢ n → n ≤ p → suc n ≤ p
      beyond p off le = omega (arith, off)

  bared_told : AllTold a h
  bared_told = told_altered z h a h n (bare c) x.told e refl

  loose_there : is_loose a n ≡ false
  loose_there = sym (loose_is a h n) ∙ ap (λ (k : TrackContents). k.loose) e.here ∙ x.firm n lt (omega arith)

  module _ (v' w' : List Track) (f : SettlesOff (From (suc n)) h v a v' w' (settled contents a n)) where
    abbrev b : DeviceStore
    b = settled contents a n

    same : (q : ℕ) → suc n ≤ q → contents_at b h q ≡ contents_at z h q
    same q le = f.own q le ∙ e.elsewhere q (λ at. omega arith)

    whole : base_of b h ≡ base_of z h
    whole = f.base ∙ e.base

    swept_on : Swept h u y (suc n) v' w' b
    swept_on = record {
      off = f.but;
      later = λ q below le. let lower : q < tracks_of z = let k = same_tracks z h b h whole in omega arith in
          rw f.plain
          (same_right z h b h whole v v q (bare (contents_at z h q)) (bare (contents_at b h q)) (ap bare (same q le)) (x.later q lower (omega arith)));
      firm = λ q below le. let lower : q < tracks_of z = let k = same_tracks z h b h whole in omega arith in
          ap (λ (k : TrackContents). k.loose) (same q le) ∙ x.firm q lower (omega arith);
      told = settled_told_off (From (suc n)) h v w a n (let k = still in omega arith) one_off (told_off (From (suc n)) a h bared_told)
          (λ le. absurd (omega arith)) bared_told loose_there;
      base = whole ∙ x.base;
      plain = f.plain ∙ x.plain;
    }

  one_more : Pair (Swept h u y (suc n)) (settled contents a n) (settled by_plain (without_frame (marks_of v w z) n) n)
  one_more =
      rw (← (bared_twin v w z n)) (pair_weaker
      (settled_off (From (suc n)) h v w a n (let k = still in omega arith) one_off (told_off (From (suc n)) a h bared_told) (λ le. absurd (omega arith)))
      (λ v' w' f. swept_on v' w' f))

pub swept_pair : (h : Held) (u w : List Track) (y : DeviceStore) → Swept h u y 0 u w y → (n : ℕ) → n ≤ tracks_of y →
    Pair (Swept h u y n) (over n (λ t z. settled contents (without_frame z t) t) y)
    (over n (λ t z. settled by_plain (without_frame z t) t) (marks_of u w y))
unfolding L.over
swept_pair h u w y x zero le = pair_is x
swept_pair h u w y x (suc n) le =
    pair_on (λ z. settled contents (without_frame z n) n) (λ z. settled by_plain (without_frame z n) n) (swept_pair h u w y x n (omega arith))
    (λ v' w' s.
    one_more h u y n v' w' (over n (λ t z. settled contents (without_frame z t) t) y)
    (let k = same_tracks y h (over n (λ t z. settled contents (without_frame z t) t) y) h s.base in omega arith) s)

-- The loss begins: data of cache fast write go

abbrev pub begun_with : {F P H : Type 0} → Bool → Store F P H → Store F P H
begun_with b s = record (if b then act_noted (gone_back s) CfwLost else s) { queue = [] }

module _ (v w : List Track) (s : DeviceStore) (h : Held) (sure : RightBut None v w s h) (told : AllTold s h) where
  begun_marks : (b : Bool) → marks_of (if b then w else v) w (begun_with b s) ≡ begun_with b (marks_of v w s)
  begun_marks true = refl
  begun_marks false = refl

  same_there : (q : ℕ) → q < tracks_of s → is_loose s q ≡ false → image_in s w q ≡ image_in s v q
  same_there q lt e = ap (λ (t : Track). record { geometry = s.geometry; track = t }) (sure.ground.same q lt e)

  half_firm : (q : ℕ) (b : Bool) → is_loose s q ≡ b → half_is s.half q ≡ true → is_loose s q ≡ false
  half_firm q true e own = absurd (let f = sure.ground.apart q e in cc)
  half_firm q false e own = e

  gone_right : (q : ℕ) → q < tracks_of s → IsRight s.geometry q s.half (bare (contents_at s h q)) (image_in s w q) (image_in s w q)
  gone_right q lt =
      bare_right s.geometry q s.half (contents_at s h q) (image_in s v q) (image_in s w q)
      (λ own. same_there q lt (half_firm q (is_loose s q) refl own)) (sure.right q lt (λ e. absurd (cc)))

  pub begins : (any : Bool) → has_loose s ≡ any → Swept h (if any then w else v) (begun_with any s) 0 (if any then w else v) w (begun_with any s)
  unfolding T.contents_at C.base_of
  begins true some = record {
    off = record {
      ground = record {
        sizes = begun_sizes contents device_is_faithful s true sure.ground.sizes;
        plain = sure.ground.firm;
        firm = sure.ground.firm;
        same = λ q lt l. refl;
        apart = λ q l. absurd (let f = empty_places (tracks_of s) q false in cc);
        patches = sure.ground.patches;
        long = sure.ground.long;
        slots = same_slots s (begun_with true s) h.slots slots_same sure.ground.slots;
      };
      right = λ q lt ne. absurd (ne (omega arith));
    };
    later = λ q lt le.
        right_fewer s.geometry q s.half (bare (contents_at s h q)) (bare (contents_at (begun_with true s) h q)) (image_in s w q) (image_in s w q)
        (record { lost = λ l. l; frame = λ i k. k; patch = refl; a = λ l. (l, refl); b = λ l. (l, refl) }) (gone_right q lt);
    firm = λ q lt le. empty_places (tracks_of s) q false;
    told = told;
    base = refl;
    plain = refl;
  }
    where
      slots_same : (kept : Bool) (q : ℕ) → slot_at (begun_with true s) kept q ≡ slot_at s kept q
      slots_same true q = refl
      slots_same false q = refl
  begins false some = record {
    off = record {
      ground = record {
        sizes = begun_sizes contents device_is_faithful s false sure.ground.sizes;
        plain = sure.ground.plain;
        firm = sure.ground.firm;
        same = sure.ground.same;
        apart = sure.ground.apart;
        patches = sure.ground.patches;
        long = sure.ground.long;
        slots = same_slots s (begun_with false s) h.slots slots_same sure.ground.slots;
      };
      right = λ q lt ne. absurd (ne (omega arith));
    };
    later = λ q lt le. rw (← (same_there q lt (none_below (tracks_of s) (is_loose s) some q lt))) (gone_right q lt);
    firm = λ q lt le. none_below (tracks_of s) (is_loose s) some q lt;
    told = told;
    base = refl;
    plain = refl;
  }
    where
      slots_same : (kept : Bool) (q : ℕ) → slot_at (begun_with false s) kept q ≡ slot_at s kept q
      slots_same true q = refl
      slots_same false q = refl

  cache_pair : Pair (Swept h (plain_lost s v w) (begun_with (has_loose s) s) (tracks_of s)) (cache_lost contents s)
      (cache_lost by_plain (marks_of v w s))
  unfolding L.cache_lost
  cache_pair =
      let n = tracks_of s in
      let y = begun_with (has_loose s) s in
      rw (← (begun_marks (has_loose s)))
      (swept_pair h (plain_lost s v w) w y (begins (has_loose s) refl) n (let k = begun_tracks contents device_is_faithful s (has_loose s) in omega arith))

-- As a loss

settles_by : (h : Held) (u v w : List Track) (y : DeviceStore) (n : ℕ) (z : DeviceStore) → tracks_of z ≤ n → Swept h u y n v w z → Settles None h u y v w z
settles_by h u v w y n z le x = record {
  but = record { ground = x.off.ground; right = λ q lt ne. x.off.right q lt (λ most. absurd (omega arith)) };
  debts = told_debts None z h x.told;
  base = x.base;
  plain = x.plain;
  own = λ t e. absurd (cc);
}

pub cache_loss_twin : (v w : List Track) (s : DeviceStore) (h : Held) → InOrder v w s h →
    Twins (λ v' w' z _ _ k. Loses (plain_lost s v w) v' w' z k) (losing contents s losses.Cache) (losing by_plain (marks_of v w s) losses.Cache) h
cache_loss_twin v w s h o =
    let y = with_loss s losses.Cache in
    let i = counted_loss v w s h losses.Cache (record { sure = o.sure; told = o.told }) in
    let x = cache_pair v w y h i.sure i.told in
    let z = cache_lost contents y in
    let d = begun_with (has_loose y) y in
    let u = plain_lost s v w in
    let le : tracks_of z ≤ tracks_of s =
    let k = same_tracks d h z h x.is.base in let m = begun_tracks contents device_is_faithful y (has_loose y) in omega arith in
    rw (← x.marks) (twin_weaker (told_twin None h u x.plain x.firm z d (tracks_of s) le (settles_by h u x.plain x.firm d (tracks_of s) z le x.is))
    (λ v' w' a _ _ k f. record { order = record { sure = f.but; told = f.told }; plain = f.plain }))
