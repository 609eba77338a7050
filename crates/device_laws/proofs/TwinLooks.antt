-- The image that a command looks at, hit or missed, is the plain track, and the twin on marks has the same.
use Rattle.std.proofs.Common.{◌≡◌, ◌<◌, ◌+◌, ℕ, Bool, true, false, List, [], Option, Some, None, is_some, refl, sym, ap, ◌∙◌, arith, subst}
use Rattle.std.specs.Prelude.{option_map, if◌then◌else◌, nat_le, nat_lt, length, ◌∷◌, ◌++◌}
use Rattle.ckd_types.specs.declared.paths.Side.{Side}
use Rattle.ckd_types.specs.declared.record.Track.{Track}
use Rattle.ckd_types.specs.Parameters.{is_bypass}
use Rattle.track_image.specs.Image.{Image}
use Rattle.track_cache.specs.declared.frames.Frame.{Frame}
use Rattle.device_outside.specs.Both.{both_try}
use Rattle.device_outside.proofs.BothRules.{on_test}
use Rattle.device_defs.specs.declared.usage.Usage.{Usage}
use Rattle.device_defs.specs.Contents.{contents, by_plain}
use Rattle.device_defs.specs.Image as I
use Rattle.device_defs.specs.Image.{
  Got,
  Imaged,
  Has,
  NoBytes,
  loads,
  is_sequential,
  queued,
  image_of,
  granted,
  loaded,
  ahead,
  delivered,
  missed,
  miss,
  hit,
  clean_image,
  image_by,
  image,
}
use Rattle.device_defs.specs.Marks.{marks_of, frame_mark}
use Rattle.device_defs.specs.Sound.{DeviceStore}
use Rattle.device_defs.specs.Store.{Store, tracks_of, frame_at, is_lost, is_loose, half_is, with_frame, HalfWrite}
use Rattle.device_laws.specs.Agrees.{Held, image_in}
use Rattle.device_laws.specs.Twin.{Twins}
use Rattle.device_laws.proofs.ContentChanges.{altered_frame}
use Rattle.device_laws.proofs.TrackContents as T
use Rattle.device_laws.proofs.TrackContents.{contents_at, right_fewer}
use Rattle.device_laws.proofs.TrackImage.{level_bytes_keeps_good}
use Rattle.device_laws.proofs.TrackMarks as M
use Rattle.device_laws.proofs.TrackMarks.{track_at, device_is_faithful}
use Rattle.device_laws.proofs.TwinAsks.{ask_touch, ask_frame, Stays, stays_same, stays_on, stays_image, InOrder, Ordered, altered_order, beside_order}
use Rattle.device_laws.proofs.TwinChanges.{frame_twin, with_frame_twin}
use Rattle.device_laws.proofs.TwinImage.{Delivers, Looks, filled_twin, not_lost, KeepsWhere, IsOff, keeps_off, bytes_by}
use Rattle.device_laws.proofs.TwinWalks.{twin_done, twin_then, twin_always}
use Rattle.device_laws.proofs.WholeImage.{unframed_is_firm, clean_is_firm, dropped_goes}

-- Staging ahead

abbrev queue_with : Option ℕ → List ℕ → ℕ → List ℕ
queue_with None q t = q
queue_with (Some last) q t = if nat_le t last then (if nat_lt (length q) 64 then q ++ t ∷ [] else q) else q

abbrev queue_ahead : Usage → List ℕ → ℕ → List ℕ
queue_ahead u q t = if is_sequential u.mode then queue_with u.last (queue_with u.last q (t + 1)) (t + 2) else q

module _ {F P H : Type 0} where
  queued_by : (s : Store F P H) (t : ℕ) (a b : Bool) →
      (if a then (if b then record s { queue = s.queue ++ t ∷ [] } else s) else s)
      ≡ record s { queue = if a then (if b then s.queue ++ t ∷ [] else s.queue) else s.queue }
  queued_by s t true true = refl
  queued_by s t true false = refl
  queued_by s t false b = refl

  queued_is : (last : Option ℕ) (s : Store F P H) (t : ℕ) → queued last s t ≡ record s { queue = queue_with last s.queue t }
  queued_is None s t = refl
  queued_is (Some last) s t = queued_by s t (nat_le t last) (nat_lt (length s.queue) 64)

  ahead_by : (u : Usage) (s : Store F P H) (t : ℕ) (b : Bool) →
      (if b then queued u.last (queued u.last s (t + 1)) (t + 2) else s)
      ≡ record s { queue = if b then queue_with u.last (queue_with u.last s.queue (t + 1)) (t + 2) else s.queue }
  ahead_by u s t true =
      queued_is u.last (queued u.last s (t + 1)) (t + 2)
      ∙ ap (λ (y : Store F P H). record y { queue = queue_with u.last y.queue (t + 2) }) (queued_is u.last s (t + 1))
  ahead_by u s t false = refl

  pub ahead_is : (u : Usage) (s : Store F P H) (t : ℕ) → ahead u s t ≡ record s { queue = queue_ahead u s.queue t }
  ahead_is u s t = ahead_by u s t (is_sequential u.mode)

pub queue_order : (v w : List Track) (s : DeviceStore) (h : Held) (q : List ℕ) → Ordered v w s h → Ordered v w (record s { queue = q }) h
queue_order v w s h q o = beside_order o

-- a frame goes
pub unframed_order : (v w : List Track) (s : DeviceStore) (h : Held) (t : ℕ) → t < tracks_of s → Ordered v w s h → Ordered v w (with_frame s t None) h
unframed_order v w s h t lt o =
    let x = contents_at s h t in
    altered_order o (altered_frame s h t lt o.sure.ground.sizes None) lt (record { loose = refl; patch = refl; freed = refl }) refl refl
    (right_fewer s.geometry t s.half x (record x { frame = None }) (image_in s v t) (image_in s w t)
    (record { lost = λ l. l; frame = λ i k f l. absurd (cc); patch = refl; a = λ l. (l, refl); b = λ l. (l, refl) }))

has_is : (i j : Image) → Some (Has i) ≡ Some (Has j) → j ≡ i
has_is i j e = cc

pub track_loose : (s : DeviceStore) (t : ℕ) → (track_at contents s t).loose ≡ is_loose s t
unfolding M.track_at
track_loose s t = refl

frame_mark_is : (s : DeviceStore) (t : ℕ) (o : Option Frame) → frame_at s t ≡ o → (track_at contents s t).frame ≡ M.frame_mark contents o
unfolding M.track_at
frame_mark_is s t o e = ap (M.frame_mark contents) e

-- where it may be loaded only while no half write is open on it
module _ (u : List Track) (y : DeviceStore) (t : ℕ) (u' : Usage) (may : Option (HalfWrite Image) → Type 0) (keeps : KeepsWhere t may)
    (loading : loads u'.mode ≡ true → (o : Option (HalfWrite Image)) → may o → half_is o t ≡ false) where
  abbrev Ends : List Track → List Track → DeviceStore → Option Imaged → Option Imaged → Held → Type 0
  Ends v w z a b k = Looks u y t v w z a b k

  looks_has : (v w : List Track) (s : DeviceStore) (h : Held) (i j : Image) → i ≡ image_in y u t → j ≡ i → Ordered v w s h → v ≡ u → Stays y s →
      Ends v w s (Some (Has i)) (Some (Has j)) h
  looks_has v w s h i j is other o plain stays = record {
    order = o;
    plain = plain;
    stays = stays;
    same = ap (λ (x : Image). Some (Has x)) (sym other);
    image = λ x e. has_is i x e ∙ is;
    bad = λ side e. absurd (cc);
  }

  looks_none : (v w : List Track) (s : DeviceStore) (h : Held) → Ordered v w s h → v ≡ u → Stays y s → Ends v w s None None h
  looks_none v w s h o plain stays = record {
    order = o;
    plain = plain;
    stays = stays;
    same = refl;
    image = λ x e. absurd (cc);
    bad = λ side e. absurd (cc);
  }

  -- Loading, where i is the plain track

  granted_twin : (v w : List Track) (s : DeviceStore) (h : Held) (i : Image) (given : Bool) → i ≡ image_in y u t → i ≡ image_in s v t → t < tracks_of s →
      is_lost s t ≡ false → half_is s.half t ≡ false → Ordered v w s h → v ≡ u → Stays y s →
      Twins Ends (granted contents s t i given) (granted by_plain (marks_of v w s) t i given) h
  granted_twin v w s h i given is here lt there off o plain stays =
      on_test given
      (λ _. twin_then _ _ (filled_twin v w s h t i here lt there off o)
      (λ v' w' z _ _ k f. twin_done (looks_has v' w' z k i i is refl f.order (f.plain ∙ plain) (stays_on y s z stays f.stays))))
      (λ _. twin_done (looks_has v w s h i i is refl o plain stays))

  loaded_twin : (v w : List Track) (s : DeviceStore) (h : Held) (i : Image) → i ≡ image_in y u t → i ≡ image_in s v t → t < tracks_of s →
      is_lost s t ≡ false → may s.half → Ordered v w s h → v ≡ u → Stays y s →
      Twins Ends (loaded contents s t i u'.mode) (loaded by_plain (marks_of v w s) t i u'.mode) h
  loaded_twin v w s h i is here lt there off o plain stays =
      on_test (loads u'.mode)
      (λ on. both_try (ask_frame s.device t (λ given. granted_twin v w s h i given is here lt there (loading on s.half off) o plain stays))
      (twin_done (looks_none v w s h o plain stays)))
      (λ _. twin_done (looks_has v w s h i i is refl o plain stays))

  delivered_twin : (v w : List Track) (s : DeviceStore) (h : Held) (side : Side) (i : Image) → i ≡ image_in y u t → i ≡ image_in s v t →
      t < tracks_of s → is_lost s t ≡ false → may s.half → Ordered v w s h → v ≡ u → Stays y s →
      Twins Ends (delivered contents u' t side s (Some i)) (delivered by_plain u' t side (marks_of v w s) (Some i)) h
  delivered_twin v w s h side i is here lt there off o plain stays =
      let q = queue_ahead u' s.queue t in
      rw (ahead_is u' s t) (rw (ahead_is u' (marks_of v w s) t)
      (loaded_twin v w (record s { queue = q }) h i is here lt there off (queue_order v w s h q o) plain
      (record { geometry = stays.geometry; cylinders = stays.cylinders; half = stays.half })))

  -- Misses

  same_volumes : (v w : List Track) (s : DeviceStore) (h : Held) → Ordered v w s h → t < tracks_of s → is_loose s t ≡ false → image_in s w t ≡ image_in s v t
  same_volumes v w s h o lt firm = ap (λ (x : Track). record { geometry = s.geometry; track = x }) (o.sure.ground.same t lt firm)

  missed_twin : (v w : List Track) (s : DeviceStore) (h : Held) (g : Got (List ℕ)) (m : Got Bool) (r : Option (List ℕ)) (b : Option Bool) →
      Delivers w s t r b → g.side ≡ m.side → g.fault ≡ m.fault → t < tracks_of s → (is_some r ≡ true → is_lost s t ≡ false) → is_loose s t ≡ false →
      may s.half → Ordered v w s h → v ≡ u → Stays y s →
      Twins Ends (missed contents u' t s g r) (missed by_plain u' t (marks_of v w s) m b) h
  missed_twin v w s h g m None None d side fault lt there firm off o plain stays =
      twin_done (record {
        order = o;
        plain = plain;
        stays = stays;
        same = ap (λ (x : Option Side). Some (NoBytes x)) fault;
        image = λ x e. absurd (cc);
        bad = λ side e. absurd (cc);
      })
  missed_twin v w s h g m (Some r) (Some true) d side fault lt there firm off o plain stays =
      let i = image_in s v t in
      let gave : image_of contents s t r ≡ Some i = d.1 ∙ ap Some (same_volumes v w s h o lt firm) in
      let is : i ≡ image_in y u t = ap (λ (x : List Track). image_in s x t) plain ∙ stays_image y s u t stays in
      both_try (rw gave (delivered_twin v w s h m.side i is refl lt (there refl) off o plain stays))
      (twin_done (looks_none v w s h o plain stays))
  missed_twin v w s h g m (Some r) (Some false) d side fault lt there firm off o plain stays = let e : false ≡ true = d.0 in absurd (cc)
  missed_twin v w s h g m None (Some b) d side fault lt there firm off o plain stays = absurd d
  missed_twin v w s h g m (Some r) None d side fault lt there firm off o plain stays = absurd d

  miss_twin : (v w : List Track) (s : DeviceStore) (h : Held) → t < tracks_of s → is_loose s t ≡ false → may s.half →
      InOrder v w s h → v ≡ u → Stays y s → Twins Ends (miss contents s u' t) (miss by_plain (marks_of v w s) u' t) h
  miss_twin v w s h lt firm off o plain stays =
      twin_then _ _ (twin_always (bytes_by v s t may keeps w h o lt off) (level_bytes_keeps_good contents device_is_faithful s t o.well))
      (λ v' w' z g m k f.
      let below : t < tracks_of z = let same = f.1.goes.tracks in omega arith in
      missed_twin v' w' z k g m g.bytes m.bytes f.0.bytes f.0.side f.0.fault below
      (λ e. not_lost z t below f.1.goes.well (f.1.level e))
      (sym (track_loose z t) ∙ f.1.goes.firm t lt (track_loose s t ∙ firm)) (subst may (sym f.0.stays.half) off) f.0.order (f.0.plain ∙ plain)
      (stays_on y s z stays f.0.stays))

  -- Hits

  hit_twin : (v w : List Track) (s : DeviceStore) (h : Held) (f : Frame) (b : Bool) → frame_at s t ≡ Some f → t < tracks_of s → is_lost s t ≡ false →
      may s.half → Ordered v w s h → v ≡ u → Stays y s → Twins Ends (hit contents s t f) (hit by_plain (marks_of v w s) t b) h
  unfolding T.contents_at
  hit_twin v w s h f b e lt there off o plain stays =
      let is : f.image ≡ image_in s v t = (keeps v w s h o.sure lt there off).frame f e in
      twin_done (looks_has v w s h f.image (image_in s v t)
      (is ∙ ap (λ (x : List Track). image_in s x t) plain ∙ stays_image y s u t stays) (sym is) o plain stays)

  clean_twin : (v w : List Track) (s : DeviceStore) (h : Held) (f : Frame) → frame_at s t ≡ Some f → f.modified ≡ false → t < tracks_of s →
      is_lost s t ≡ false → may s.half → InOrder v w s h → v ≡ u → Stays y s →
      Twins Ends (clean_image contents s u' t f) (clean_image by_plain (marks_of v w s) u' t f.modified) h
  clean_twin v w s h f e clean lt there off o plain stays =
      let mark = frame_mark_is s t (Some f) e ∙ ap Some clean in
      let firm : is_loose s t ≡ false = sym (track_loose s t) ∙ clean_is_firm (track_at contents s t) mark (o.well.good t lt) in
      let gone = dropped_goes contents device_is_faithful s t lt o.well mark in
      let order : Ordered v w s h = record { sure = o.sure; told = o.told } in
      let less = unframed_order v w s h t lt order in
      on_test (is_bypass u'.mode)
      (λ _. miss_twin v w s h lt firm off o plain stays)
      (λ _. ask_touch s.device t (λ listed. on_test listed
      (λ _. hit_twin v w s h f f.modified e lt there off order plain stays) (λ _. rw (← (with_frame_twin v w s t None))
      (miss_twin v w (with_frame s t None) h lt firm off (record { sure = less.sure; told = less.told; well = gone.well }) plain
      (record { geometry = stays.geometry; cylinders = stays.cylinders; half = stays.half })))))

  by_frame_twin : (v w : List Track) (s : DeviceStore) (h : Held) (f : Option Frame) → frame_at s t ≡ f → t < tracks_of s →
      is_lost s t ≡ false → may s.half → InOrder v w s h → v ≡ u → Stays y s →
      Twins Ends (image_by contents s u' t f) (image_by by_plain (marks_of v w s) u' t (option_map frame_mark f)) h
  by_frame_twin v w s h None e lt there off o plain stays =
      miss_twin v w s h lt (sym (track_loose s t) ∙ unframed_is_firm (track_at contents s t) (frame_mark_is s t None e) (o.well.good t lt)) off o plain stays
  by_frame_twin v w s h (Some f) e lt there off o plain stays =
      on_test f.modified
      (λ _. hit_twin v w s h f f.modified e lt there off (record { sure = o.sure; told = o.told }) plain stays)
      (λ clean. clean_twin v w s h f e clean lt there off o plain stays)

  pub image_by_twin : (w : List Track) (h : Held) → t < tracks_of y → is_lost y t ≡ false → may y.half → InOrder u w y h →
      Twins Ends (image contents y u' t) (image by_plain (marks_of u w y) u' t) h
  unfolding I.image
  image_by_twin w h lt there off o = rw (frame_twin u w y t) (by_frame_twin u w y h (frame_at y t) refl lt there off o refl (stays_same y))

-- of a track that isn't lost, and that no half write is open on
pub image_twin : (v w : List Track) (s : DeviceStore) (h : Held) (u : Usage) (t : ℕ) → t < tracks_of s → is_lost s t ≡ false → half_is s.half t ≡ false →
    InOrder v w s h → Twins (λ v' w' z a b k. Looks v s t v' w' z a b k) (image contents s u t) (image by_plain (marks_of v w s) u t) h
image_twin v w s h u t lt there off o = image_by_twin v s t u (IsOff t) (keeps_off t) (λ _ _ may. may) w h lt there off o
