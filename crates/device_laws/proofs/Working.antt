-- What a device does by itself keeps good marks good: it recovers, copies, stages or destages a track.
use Rattle.std.proofs.Common.{
  ◌≡◌,
  ◌<◌,
  ◌≤◌,
  zero,
  suc,
  ℕ,
  Bool,
  true,
  false,
  List,
  [],
  ◌∷◌,
  Option,
  Some,
  None,
  is_some,
  length,
  refl,
  sym,
  ap,
  subst,
  ◌∙◌,
  arith,
  ◌⊎◌,
  inl,
  inr,
}
use Rattle.std.proofs.lemmas.Bool.{cases_lt}
use Rattle.std.proofs.lemmas.List.{set_past}
use Rattle.std.specs.Prelude.{if◌then◌else◌, ◌&&◌, ◌||◌, not}
use Rattle.ckd_types.specs.declared.paths.Side.{Side}
use Rattle.ckd_types.specs.declared.paths.Side.TheVariants.{A, B}
use Rattle.track_image.specs.Image.{Image}
use Rattle.track_table.specs.Tracks as T
use Rattle.track_table.specs.Tracks.{least, or_else}
use Rattle.device_outside.specs.Interaction.{Interaction, Done, Ask, Try, and_then}
use Rattle.device_outside.specs.Pool.{WantFrame, SetModified}
use Rattle.device_defs.specs.declared.answers.Did.{Did}
use Rattle.device_defs.specs.declared.answers.Did.TheVariants.{Recovered, Skipped, Destaged}
use Rattle.device_defs.specs.declared.answers.Took.{Took}
use Rattle.device_defs.specs.declared.answers.Took.TheVariants.{Whole, Opened, Unwritten}
use Rattle.device_defs.specs.Background as K
use Rattle.device_defs.specs.Background.{
  copies_to,
  to_copy,
  to_recover,
  is_destaged,
  to_destage,
  saved_by,
  saving,
  saved,
  recovered_image,
  recovered_bytes,
  recover,
  copied,
  copy_read,
  copy_by,
  unfilled,
  staged_image,
  staged_bytes,
  staging_granted,
  stage,
  destage_first,
  stage_first,
  copy_first,
  recover_first,
  work,
  other,
}
use Rattle.device_defs.specs.Contents.{Contents}
use Rattle.device_defs.specs.Image.{Got, read_counted, image_of, framed, filled}
use Rattle.device_defs.specs.Losses.{framed_image}
use Rattle.device_defs.specs.Owed as O
use Rattle.device_defs.specs.Owed.{is_modified, waits, waits_by}
use Rattle.device_defs.specs.Store.{
  Store,
  OfBackground,
  tracks_of,
  stale_at,
  level_at,
  has_level,
  some_up,
  takes_b,
  frame_at,
  patch_at,
  is_lost,
  is_loose,
  with_stale,
  with_frame,
}
use Rattle.device_defs.specs.Writing.{write_counted}
use Rattle.device_laws.specs.InOrder.{AreBelow}
use Rattle.device_laws.proofs.Bools.{and_left, and_right, no_some, not_true, or_left, or_right}
use Rattle.device_laws.proofs.Always.{Always, always_done, always_try, always_ask, always_read, always_write, always_then, always_weaker}
use Rattle.device_laws.proofs.Changes as C
use Rattle.device_laws.proofs.Changes.{Changed, rest_of}
use Rattle.device_laws.proofs.Done.{Keeps, goes_keeps, keeps_on, write_done_keeps_good, opened_keeps_good}
use Rattle.device_laws.proofs.FailedCall.{IsWell, IsSame, Goes, stays, goes_on, goes_same, changed_goes, failed_call_keeps_good}
use Rattle.device_laws.proofs.Others.{opens, changed_stale}
use Rattle.device_laws.proofs.Sweeps.{all_queued}
use Rattle.device_laws.proofs.TrackImage.{Reads, level_bytes_keeps_good, filling_keeps_good}
use Rattle.device_laws.proofs.TrackMarks as M
use Rattle.device_laws.proofs.TrackMarks.{TrackMarks, IsFaithful, is_good, frame_mark, track_at, good_is_near}
use Rattle.device_laws.proofs.WholeImage.{unframed_is_firm}
use Rattle.device_laws.proofs.WriteMarks.{taken_good, level_is_there, patched_is_there, loose_is_there}
use Rattle.device_laws.proofs.Writes.{is_taken, firm_first_keeps_good, write_first_keeps_good}

-- the least one is one
found_in : (a : Option ℕ) (b : Bool) (n t : ℕ) → or_else a (if b then Some n else None) ≡ Some t → (a ≡ Some t) ⊎ ((b ≡ true) × (n ≡ t))
found_in (Some q) b n t e = inl e
found_in None true n t e = inr (refl, cc)
found_in None false n t e = absurd (cc)

pub least_found : (n : ℕ) (p : ℕ → Bool) (t : ℕ) → least n p ≡ Some t → (t < n) × (p t ≡ true)
unfolding T.least
least_found zero p t e = absurd (cc)
least_found (suc n) p t e = by_place (least_found n p t) (found_in (least n p) (p n) n t e)
  where
    by_place : (least n p ≡ Some t → (t < n) × (p t ≡ true)) → ((least n p ≡ Some t) ⊎ ((p n ≡ true) × (n ≡ t))) → (t < suc n) × (p t ≡ true)
    by_place below (inl f) = let g = below f in (let h = g.0 in omega arith, g.1)
    by_place below (inr f) = (let h = f.1 in omega arith, subst (λ (q : ℕ). p q ≡ true) f.1 f.0)

pub found_if : (n : ℕ) (p : ℕ → Bool) (b : Bool) (t : ℕ) → (if b then least n p else None) ≡ Some t → (t < n) × (p t ≡ true)
found_if n p true t e = least_found n p t e
found_if n p false t e = absurd (cc)

or_neither : (x y : Bool) → (x || y) ≡ false → x ≡ false
or_neither true y e = absurd (cc)
or_neither false y e = refl

module _ {F P H R : Type 0} (c : Contents F P H R) (faithful : IsFaithful c) where
  lost_mark : (s : Store F P H) (t : ℕ) (b : Bool) → is_lost s t ≡ b → (track_at c s t).lost ≡ b
  unfolding M.track_at
  lost_mark s t b e = e

  loose_mark : (s : Store F P H) (t : ℕ) (b : Bool) → is_loose s t ≡ b → (track_at c s t).loose ≡ b
  unfolding M.track_at
  loose_mark s t b e = e

  loose_back : (s : Store F P H) (t : ℕ) (b : Bool) → (track_at c s t).loose ≡ b → is_loose s t ≡ b
  unfolding M.track_at
  loose_back s t b e = e

  patch_mark : (s : Store F P H) (t : ℕ) (b : Bool) → is_some (patch_at s t) ≡ b → (track_at c s t).patched ≡ b
  unfolding M.track_at
  patch_mark s t b e = e

  level_mark : (s : Store F P H) (t : ℕ) → has_level s t ≡ true → (track_at c s t).level ≡ true
  unfolding M.track_at
  level_mark s t e = e

  frame_mark_of : (s : Store F P H) (t : ℕ) → frame_at s t ≡ None → (track_at c s t).frame ≡ None
  unfolding M.track_at
  frame_mark_of s t e = ap (frame_mark c) e

  -- A track is written to the volumes

  saved_end : (t : ℕ) (s : Store F P H) (i : Image) (d : Did) (fault failed : Option Side) (was_loose : Bool) (took : Took) → t < tracks_of s →
      IsWell c s → s.half ≡ None → (is_taken took ≡ true → has_level s t ≡ true) → (took ≡ Opened → s.b.up ≡ true) → (track_at c s t).loose ≡ false →
      Always (saved_by c t i d fault was_loose failed s took) (λ y _. Keeps c faithful s y)
  saved_end t s i d fault failed was_loose Whole lt w none level up firm =
      let v = level_mark s t (level refl) in
      always_then (write_done_keeps_good c faithful t s s lt (opens c s t lt w).others (level_is_there (track_at c s t) (w.good t lt) v) firm i false v)
      (λ y _ g. always_done (goes_keeps c faithful s y g))
  saved_end t s i d fault failed was_loose Opened lt w none level up firm =
      let v = level_mark s t (level refl) in
      always_then (opened_keeps_good c faithful t s s i OfBackground was_loose lt (opens c s t lt w).others none
      (level_is_there (track_at c s t) (w.good t lt) v) firm (up refl))
      (λ y _ g. always_done g)
  saved_end t s i d fault failed was_loose Unwritten lt w none level up firm = always_done (goes_keeps c faithful s s (stays c s w))

  saving_keeps : (t : ℕ) (s : Store F P H) (i : Image) (d : Did) (fault : Option Side) → t < tracks_of s → IsWell c s → s.half ≡ None →
      (track_at c s t).lost ≡ false → Always (saving c s t i d fault) (λ y _. Keeps c faithful s y)
  saving_keeps t s i d fault lt w none there =
      always_then (firm_first_keeps_good c faithful s t lt w)
      (λ z was_loose f. let below : t < tracks_of z = let same = f.goes.tracks in omega arith in
      always_then (write_first_keeps_good c faithful t z below (f.lost ∙ there) (c.bytes i) f.goes.well)
      (λ y v g. let all = goes_on c s z y f.goes g.goes in
      always_weaker (saved_end t y i d fault v.fault was_loose v.took (let same = all.tracks in omega arith) g.goes.well (all.half ∙ none) g.level g.opens
      (g.goes.firm t below f.loose))
      (λ x _ h. keeps_on c faithful s y x (goes_keeps c faithful s y all) h)))

  saved_if : (t : ℕ) (s : Store F P H) (i : Image) (d : Did) (fault : Option Side) (ok : Bool) → t < tracks_of s → IsWell c s → s.half ≡ None →
      (track_at c s t).lost ≡ false →
      Always (if ok then and_then (saving c s t i d fault) (λ z e. Done z (Some e)) else Done s None) (λ y _. Keeps c faithful s y)
  saved_if t s i d fault true lt w none there = always_then (saving_keeps t s i d fault lt w none there) (λ y _ g. always_done g)
  saved_if t s i d fault false lt w none there = always_done (goes_keeps c faithful s s (stays c s w))

  pub saved_keeps_good : (t : ℕ) (s : Store F P H) (i : Image) (d : Did) (fault : Option Side) → t < tracks_of s → IsWell c s → s.half ≡ None →
      (track_at c s t).lost ≡ false → Always (saved c s t i d fault) (λ y _. Keeps c faithful s y)
  saved_keeps_good t s i d fault lt w none there = always_try (λ ok. saved_if t s i d fault ok lt w none there)

  -- Recovery

  recovered_by : (t : ℕ) (s : Store F P H) (g : Got R) (i : Option Image) → t < tracks_of s → IsWell c s → s.half ≡ None →
      (track_at c s t).lost ≡ false → Always (recovered_image c t s g i) (λ y _. Keeps c faithful s y)
  recovered_by t s g None lt w none there = always_done (goes_keeps c faithful s s (stays c s w))
  recovered_by t s g (Some i) lt w none there = saved_keeps_good t s i (Recovered t) g.fault lt w none there

  recovered_if : (t : ℕ) (s : Store F P H) (g : Got R) (r : R) (ok : Bool) → t < tracks_of s → IsWell c s → s.half ≡ None →
      (track_at c s t).lost ≡ false → Always (if ok then recovered_image c t s g (image_of c s t r) else Done s None) (λ y _. Keeps c faithful s y)
  recovered_if t s g r true lt w none there = recovered_by t s g (image_of c s t r) lt w none there
  recovered_if t s g r false lt w none there = always_done (goes_keeps c faithful s s (stays c s w))

  recovered_got : (t : ℕ) (s z : Store F P H) (g : Got R) (bytes : Option R) → g.bytes ≡ bytes → t < tracks_of s → s.half ≡ None →
      Reads c faithful t s z g → Always (recovered_bytes c t z g bytes) (λ y _. Keeps c faithful s y)
  recovered_got t s z g None e lt none f = always_done (goes_keeps c faithful s z f.goes)
  recovered_got t s z g (Some r) e lt none f =
      let below : t < tracks_of z = let same = f.goes.tracks in omega arith in
      let there = level_is_there (track_at c z t) (f.goes.well.good t below) (level_mark z t (f.level (ap is_some e))) in
      always_try (λ ok. always_weaker (recovered_if t z g r ok below f.goes.well (f.goes.half ∙ none) there)
      (λ y _ h. keeps_on c faithful s z y (goes_keeps c faithful s z f.goes) h))

  recover_keeps : (t : ℕ) (s : Store F P H) (o : Option F) → t < tracks_of s → IsWell c s → s.half ≡ None → (track_at c s t).lost ≡ false →
      Always (recover c s t o) (λ y _. Keeps c faithful s y)
  recover_keeps t s (Some f) lt w none there = saved_keeps_good t s (framed_image c s t (Some f)) (Recovered t) None lt w none there
  recover_keeps t s None lt w none there =
      always_then (level_bytes_keeps_good c faithful s t w) (λ z g f. recovered_got t s z g g.bytes refl lt none f)

  -- Copying

  read_same : (s : Store F P H) (ok : Bool) → IsWell c s → IsSame c s (read_counted s ok)
  unfolding M.track_at C.rest_of
  read_same s ok w = record { sizes = record { are = w.sizes.are }; rest = refl; marks = λ q. refl }

  write_same : (s : Store F P H) (ok : Bool) → IsWell c s → IsSame c s (write_counted s ok)
  unfolding M.track_at C.rest_of
  write_same s ok w = record { sizes = record { are = w.sizes.are }; rest = refl; marks = λ q. refl }

  -- the other side has the track
  abbrev from_other : Store F P H → Side → ℕ → Bool
  from_other s A t = level_at s.b t
  from_other s B t = level_at s.a t

  level_before : (s : Store F P H) (side : Side) (t : ℕ) → from_other s side t ≡ true → has_level s t ≡ true
  level_before s A t e = or_right (level_at s.a t) (level_at s.b t) e
  level_before s B t e = or_left (level_at s.a t) (level_at s.b t) e

  level_behind : (s : Store F P H) (side : Side) (t : ℕ) → from_other s side t ≡ true → has_level (with_stale s side t false) t ≡ true
  level_behind s A t e = or_right (level_at (with_stale s A t false).a t) (level_at s.b t) e
  level_behind s B t e = or_left (level_at s.a t) (level_at (with_stale s B t false).b t) e

  copied_goes : (t : ℕ) (side : Side) (s : Store F P H) → t < tracks_of s → IsWell c s → from_other s side t ≡ true →
      Goes c s (with_stale s side t false)
  copied_goes t side s lt w from =
      let e = changed_stale c s side t false w.sizes in
      let x = track_at c s t in
      let z = with_stale s side t false in
      let there = level_is_there x (w.good t lt) (level_mark s t (level_before s side t from)) in
      let here = e.here ∙ ap (λ (v : Bool). record x { level = v }) (level_behind s side t from) in
      changed_goes c s z t (record x { level = true }) w (record { sizes = e.sizes; rest = e.rest; elsewhere = e.elsewhere; here = here })
      (taken_good x there (good_is_near x (w.good t lt))) (w.kept t lt) (λ f. f)

  copied_by : (t : ℕ) (side : Side) (s : Store F P H) (ok : Bool) → t < tracks_of s → IsWell c s → from_other s side t ≡ true →
      Always (copied c t side s ok) (λ y _. Goes c s y)
  copied_by t side s true lt w from = always_done (copied_goes t side s lt w from)
  copied_by t side s false lt w from = always_then (failed_call_keeps_good c faithful s side w) (λ y _ g. always_done g)

  copy_got : (t : ℕ) (side : Side) (s : Store F P H) (bytes : Option R) → t < tracks_of s → IsWell c s → from_other s side t ≡ true →
      Always (copy_read c t side s bytes) (λ y _. Goes c s y)
  copy_got t side s None lt w from = always_then (failed_call_keeps_good c faithful s (other side) w) (λ y _ g. always_done g)
  copy_got t side s (Some r) lt w from =
      always_write
      (λ ok. let z = write_counted s ok in
      let g = goes_same c s z w (write_same s ok w) in
      always_weaker (copied_by t side z ok lt g.well (still_from s ok side t from)) (λ y _ h. goes_on c s z y g h))
    where
      still_from : (s : Store F P H) (ok : Bool) (side : Side) (t : ℕ) → from_other s side t ≡ true → from_other (write_counted s ok) side t ≡ true
      still_from s ok A t e = e
      still_from s ok B t e = e

  copy_side : (t : ℕ) (side : Side) (s : Store F P H) → t < tracks_of s → IsWell c s → from_other s side t ≡ true →
      Always (copy_by c s t (Some side)) (λ y _. Goes c s y)
  copy_side t side s lt w from =
      always_read
      (λ bytes. let z = read_counted s (is_some bytes) in
      let g = goes_same c s z w (read_same s (is_some bytes) w) in
      always_weaker (copy_got t side z bytes lt g.well (still_from s (is_some bytes) side t from)) (λ y _ h. goes_on c s z y g h))
    where
      still_from : (s : Store F P H) (ok : Bool) (side : Side) (t : ℕ) → from_other s side t ≡ true → from_other (read_counted s ok) side t ≡ true
      still_from s ok A t e = e
      still_from s ok B t e = e

  to_b : (t : ℕ) (s : Store F P H) (b : Bool) → (takes_b s && stale_at s.b t && level_at s.a t) ≡ b → t < tracks_of s → IsWell c s →
      Always (copy_by c s t (if b then Some B else None)) (λ y _. Goes c s y)
  to_b t s true e lt w = copy_side t B s lt w (and_right _ (level_at s.a t) e)
  to_b t s false e lt w = always_done (stays c s w)

  to_a : (t : ℕ) (s : Store F P H) (b : Bool) → (s.a.up && stale_at s.a t && level_at s.b t) ≡ b → t < tracks_of s → IsWell c s →
      Always (copy_by c s t (if b then Some A else if takes_b s && stale_at s.b t && level_at s.a t then Some B else None)) (λ y _. Goes c s y)
  to_a t s true e lt w = copy_side t A s lt w (and_right _ (level_at s.b t) e)
  to_a t s false e lt w = to_b t s (takes_b s && stale_at s.b t && level_at s.a t) refl lt w

  pub copy_keeps_good : (t : ℕ) (s : Store F P H) → t < tracks_of s → IsWell c s → Always (copy_by c s t (copies_to s t)) (λ y _. Goes c s y)
  copy_keeps_good t s lt w = to_a t s (s.a.up && stale_at s.a t && level_at s.b t) refl lt w

  -- Staging

  pub queue_goes : (s : Store F P H) (l : List ℕ) → AreBelow (tracks_of s) l → IsWell c s → Goes c s (record s { queue = l })
  unfolding M.track_at C.rest_of
  queue_goes s l below w = record {
    well = record {
      sizes = record { are = w.sizes.are };
      here = record { free = w.here.free; alone = w.here.alone; whole = w.here.whole; within = w.here.within; queued = below };
      good = w.good;
      kept = w.kept;
    };
    tracks = refl;
    firm = λ q lt f. f;
    half = refl;
  }

  -- a track that the device hasn't gets no frame
  past_same : (s : Store F P H) (t : ℕ) (f : Option F) → tracks_of s ≤ t → IsWell c s → with_frame s t f ≡ s
  past_same s t f le w =
      let all : length s.frames ≡ tracks_of s = cc (w.sizes.are) in
      ap (λ (l : List (Option F)). record s { frames = l }) (set_past s.frames t f (omega arith))

  filled_past : (s : Store F P H) (t : ℕ) (i : Image) (m : Bool) → tracks_of s ≤ t → IsWell c s → Goes c s (framed c s t i m)
  filled_past s t i m le w = subst (λ (y : Store F P H). Goes c s y) (sym (past_same s t (Some (c.frame i m)) le w)) (stays c s w)

  abbrev fills : Store F P H → ℕ → Image → Bool → Interaction R Image (Store F P H) (Unit {0})
  fills s t i b = if b then Ask (SetModified s.device t) (λ _. Done (framed c s t i true) tt) else Done (framed c s t i false) tt

  filled_if : (s : Store F P H) (t : ℕ) (i : Image) (b : Bool) → tracks_of s ≤ t → IsWell c s → Always (fills s t i b) (λ y _. Goes c s y)
  filled_if s t i true le w = always_ask (λ _. always_done (filled_past s t i true le w))
  filled_if s t i false le w = always_done (filled_past s t i false le w)

  filled_by : (s : Store F P H) (t : ℕ) (i : Image) → ((t < tracks_of s) ⊎ (tracks_of s ≤ t)) → IsWell c s →
      (t < tracks_of s → is_loose s t ≡ false) → has_level s t ≡ true → Always (filled c s t i) (λ y _. Goes c s y)
  filled_by s t i (inl lt) w firm level = always_weaker (filling_keeps_good c faithful s t i lt w (firm lt) level) (λ y _ g. g.goes)
  filled_by s t i (inr le) w firm level = filled_if s t i (is_some (patch_at s t)) le w

  staged_by : (t : ℕ) (s z : Store F P H) (g : Got R) (i : Option Image) → (t < tracks_of s → is_loose s t ≡ false) → has_level z t ≡ true →
      Goes c s z → Always (staged_image c t z g i) (λ y _. Goes c s y)
  staged_by t s z g None firm level f = always_ask (λ _. always_done f)
  staged_by t s z g (Some i) firm level f =
      always_then
      (filled_by z t i (cases_lt t (tracks_of z)) f.well
      (λ lt. let below : t < tracks_of s = let same = f.tracks in omega arith in
      loose_back z t false (f.firm t below (loose_mark s t false (firm below)))) level)
      (λ y _ h. always_done (goes_on c s z y f h))

  staged_if : (t : ℕ) (s z : Store F P H) (g : Got R) (r : R) (ok : Bool) → (t < tracks_of s → is_loose s t ≡ false) → has_level z t ≡ true →
      Goes c s z → Always (if ok then staged_image c t z g (image_of c z t r) else unfilled c z t None) (λ y _. Goes c s y)
  staged_if t s z g r true firm level f = staged_by t s z g (image_of c z t r) firm level f
  staged_if t s z g r false firm level f = always_ask (λ _. always_done f)

  staged_got : (t : ℕ) (s z : Store F P H) (g : Got R) (bytes : Option R) → g.bytes ≡ bytes → (t < tracks_of s → is_loose s t ≡ false) →
      Reads c faithful t s z g → Always (staged_bytes c t z g bytes) (λ y _. Goes c s y)
  staged_got t s z g None e firm f = always_ask (λ _. always_done f.goes)
  staged_got t s z g (Some r) e firm f = always_try (λ ok. staged_if t s z g r ok firm (f.level (ap is_some e)) f.goes)

  given_by : (t : ℕ) (s : Store F P H) (given : Bool) → (t < tracks_of s → is_loose s t ≡ false) → IsWell c s →
      Always (staging_granted c s t given) (λ y _. Goes c s y)
  given_by t s true firm w = always_then (level_bytes_keeps_good c faithful s t w) (λ z g f. staged_got t s z g g.bytes refl firm f)
  given_by t s false firm w = always_done (stays c s w)

  stage_if : (t : ℕ) (s : Store F P H) (ok : Bool) → (t < tracks_of s → is_loose s t ≡ false) → IsWell c s →
      Always (if ok then Ask (WantFrame s.device t) (staging_granted c s t) else Done s None) (λ y _. Goes c s y)
  stage_if t s true firm w = always_ask (λ given. given_by t s given firm w)
  stage_if t s false firm w = always_done (stays c s w)

  stage_by : (t : ℕ) (s : Store F P H) (b : Bool) → (is_some (frame_at s t) || is_lost s t) ≡ b → IsWell c s →
      Always (if b then Done s (Some (Skipped t)) else Try (λ ok. if ok then Ask (WantFrame s.device t) (staging_granted c s t) else Done s None))
      (λ y _. Goes c s y)
  stage_by t s true e w = always_done (stays c s w)
  stage_by t s false e w =
      let none = frame_mark_of s t (no_some (frame_at s t) (or_neither _ (is_lost s t) e)) in
      always_try (λ ok. stage_if t s ok (λ lt. loose_back s t false (unframed_is_firm (track_at c s t) none (w.good t lt))) w)

  pub stage_keeps_good : (t : ℕ) (s : Store F P H) → IsWell c s → Always (stage c s t) (λ y _. Goes c s y)
  stage_keeps_good t s w = stage_by t s (is_some (frame_at s t) || is_lost s t) refl w

  -- The order

  pub destaged_there : (t : ℕ) (s : Store F P H) (b : Bool) → is_loose s t ≡ b → (b || (is_modified c (frame_at s t) && is_some (patch_at s t))) ≡ true →
      t < tracks_of s → IsWell c s → (track_at c s t).lost ≡ false
  destaged_there t s true e f lt w = loose_is_there (track_at c s t) (w.good t lt) (loose_mark s t true e)
  destaged_there t s false e f lt w =
      patched_is_there (track_at c s t) (w.good t lt) (patch_mark s t true (and_right _ (is_some (patch_at s t)) f))

  destage_by : (s : Store F P H) (o : Option ℕ) → ((t : ℕ) → o ≡ Some t → (t < tracks_of s) × (is_destaged c s t ≡ true)) → IsWell c s → s.half ≡ None →
      Always (destage_first c s o) (λ y _. Keeps c faithful s y)
  destage_by s None found w none = always_done (goes_keeps c faithful s s (stays c s w))
  destage_by s (Some t) found w none =
      let f = found t refl in
      saved_keeps_good t s (framed_image c s t (frame_at s t)) (Destaged t) None f.0 w none (destaged_there t s (is_loose s t) refl f.1 f.0 w)

  stage_or : (s : Store F P H) (l : List ℕ) → AreBelow (tracks_of s) l → IsWell c s → s.half ≡ None → Always (stage_first c s l) (λ y _. Keeps c faithful s y)
  stage_or s [] below w none = destage_by s (to_destage c s) (λ t e. found_if (tracks_of s) (is_destaged c s) (some_up s) t e) w none
  stage_or s (t ∷ ts) below w none =
      let z = record s { queue = ts } in
      let g = queue_goes s ts below.1 w in
      always_weaker (stage_keeps_good t z g.well) (λ y _ h. goes_keeps c faithful s y (goes_on c s z y g h))

  copy_or : (s : Store F P H) (o : Option ℕ) → ((t : ℕ) → o ≡ Some t → t < tracks_of s) → IsWell c s → s.half ≡ None →
      Always (copy_first c s o) (λ y _. Keeps c faithful s y)
  copy_or s None found w none = stage_or s s.queue (all_queued s w.here) w none
  copy_or s (Some t) found w none = always_weaker (copy_keeps_good t s (found t refl) w) (λ y _ g. goes_keeps c faithful s y g)

  pub waits_there : (s : Store F P H) (t : ℕ) → waits c s t ≡ true → is_lost s t ≡ false
  unfolding O.waits
  waits_there s t e = not_true (is_lost s t) (and_left (not (is_lost s t)) _ e)

  recover_or : (s : Store F P H) (o : Option ℕ) → ((t : ℕ) → o ≡ Some t → (t < tracks_of s) × (waits c s t ≡ true)) → IsWell c s → s.half ≡ None →
      Always (recover_first c s o) (λ y _. Keeps c faithful s y)
  recover_or s None found w none =
      copy_or s (to_copy s) (λ t e. (least_found (tracks_of s) (λ q. is_some (copies_to s q)) t e).0) w none
  recover_or s (Some t) found w none =
      let f = found t refl in
      recover_keeps t s (frame_at s t) f.0 w none (lost_mark s t false (waits_there s t f.1))

  -- while no half write is open
  pub work_keeps_good : (s : Store F P H) → IsWell c s → s.half ≡ None → Always (work c s) (λ y _. Keeps c faithful s y)
  unfolding K.work
  work_keeps_good s w none = recover_or s (to_recover c s) (λ t e. found_if (tracks_of s) (waits c s) (some_up s) t e) w none
