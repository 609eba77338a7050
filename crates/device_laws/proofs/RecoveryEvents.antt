-- What a whole event does to the tracks that wait: work in the background by its answer, whatever calls fail; and a second part of the background that is
-- done, where no call fails.
use Rattle.std.proofs.Common.{
  ◌≡◌,
  ◌<◌,
  ◌≤◌,
  ◌*◌,
  ℕ,
  Bool,
  true,
  false,
  Option,
  Some,
  None,
  is_some,
  length,
  refl,
  sym,
  ap,
  subst,
  ◌∙◌,
  arith,
  eqb-true,
  ◌⊎◌,
  inl,
  inr,
}
use Rattle.std.proofs.lemmas.Bool.{cases_lt}
use Rattle.std.proofs.lemmas.List.{get_or_past}
use Rattle.std.specs.Prelude.{◌&&◌, not}
use Rattle.track_image.specs.Image.{Image}
use Rattle.device_outside.specs.Interaction.{Interaction, Done}
use Rattle.device_defs.specs.declared.answers.Did.{Did}
use Rattle.device_defs.specs.declared.answers.Did.TheVariants as dids
use Rattle.device_defs.specs.declared.answers.SecondEnd.{SecondEnd}
use Rattle.device_defs.specs.declared.answers.SecondEnd.TheVariants as seconds
use Rattle.device_defs.specs.Contents.{Contents}
use Rattle.device_defs.specs.Device.{Device, with_store, event_begun, event_ended}
use Rattle.device_defs.specs.Events as E
use Rattle.device_defs.specs.Events.{second_ended, second_of, second, background}
use Rattle.device_defs.specs.Owed as O
use Rattle.device_defs.specs.Owed.{is_clean, hear, waits, waiting_count, noted_end}
use Rattle.device_defs.specs.Second as D
use Rattle.device_defs.specs.Second.{half_image_of, half_closed, second_by, second_part}
use Rattle.device_defs.specs.Store.{
  Origin,
  OfCommand,
  OfCut,
  OfBackground,
  HalfWrite,
  Store,
  tracks_of,
  has_level,
  takes_b,
  frame_at,
  patch_at,
  is_lost,
  is_loose,
  half_is,
}
use Rattle.device_defs.specs.Writing as V
use Rattle.device_defs.specs.Writing.{write_second, write_done}
use Rattle.device_laws.proofs.Bools.{not_true}
use Rattle.device_laws.proofs.Always.{Always, always_done, always_then}
use Rattle.device_laws.proofs.FailedCall.{IsWell}
use Rattle.device_laws.proofs.FramesLaws.{clean_bare, clean_is}
use Rattle.device_laws.proofs.Lucky.{Lucky, lucky_done, lucky_write, lucky_then, lucky_if, with_always}
use Rattle.device_laws.proofs.Recoveries.{
  Shelf,
  shelf_of,
  DoneIn,
  SameIn,
  HalfIn,
  DropsWell,
  hear_waits,
  end_shelf,
  DidWaits,
  WorkWaits,
  write_done_waits,
  work_waits,
}
use Rattle.device_laws.proofs.TrackMarks as M
use Rattle.device_laws.proofs.TrackMarks.{IsFaithful, frame_mark}
use Rattle.device_laws.proofs.Unchecked.{lucky_any}

none_behind : (lost patched : Bool) → patched ≡ false → (not lost && patched) ≡ false
none_behind true p e = refl
none_behind false p e = e

lost_off : (lost patched : Bool) → lost ≡ true → (not lost && patched) ≡ false
lost_off true p e = refl
lost_off false p e = absurd (cc)

waits_off : (lost m p l : Bool) → m ≡ false → (not lost && (m && not p && not l)) ≡ true → true ≡ false
waits_off true m p l off e = absurd (cc)
waits_off false true p l off e = off
waits_off false false p l off e = absurd (cc)

module _ {F P H R : Type 0} (c : Contents F P H R) where
  -- Before an event no notice makes a track wait

  -- where a half write is open, as long as its own track waits
  own_is_held : (s : Store F P H) (t : ℕ) (o : Option F) → is_clean c o ≡ true →
      (not (is_lost s t) && O.waits_by c s t o) ≡ true → true ≡ false
  own_is_held s t None clean e = absurd (cc)
  own_is_held s t (Some f) clean e =
      waits_off (is_lost s t) (c.modified f) (is_some (patch_at s t)) (is_loose s t) (not_true (c.modified f) clean) e

  pub well_drops : (s : Store F P H) → IsWell c s → ((h : HalfWrite H) → s.half ≡ Some h → waits c s h.track ≡ true) → DropsWell c (shelf_of s)
  unfolding M.track_at O.waits
  well_drops s w own q clean = by_place (cases_lt q (tracks_of s)) where
    long : length s.frames ≡ tracks_of s
    long = cc (w.sizes.are)

    by_half : q < tracks_of s → is_lost s q ≡ false → (o : Option (HalfWrite H)) → s.half ≡ o → (b : Bool) → half_is o q ≡ b →
        (not (is_lost s q) && is_some (patch_at s q)) ≡ false
    by_half lt there o is false none =
        none_behind (is_lost s q) (is_some (patch_at s q))
        (clean_bare (frame_mark c (frame_at s q)) (is_some (patch_at s q)) (is_lost s q) (is_loose s q) (half_is s.half q) (has_level s q)
        there (ap (λ (k : Option (HalfWrite H)). half_is k q) is ∙ none) (clean_is c (frame_at s q) clean) (w.good q lt))
    by_half lt there None is true mine = absurd (cc)
    by_half lt there (Some h) is true mine =
        let same : h.track ≡ q = eqb-true h.track q mine in
        absurd (let both = own_is_held s h.track (frame_at s h.track)
        (subst (λ (k : ℕ). is_clean c (frame_at s k) ≡ true) (sym same) clean) (own h is) in cc)

    by_lost : q < tracks_of s → (b : Bool) → is_lost s q ≡ b → (not (is_lost s q) && is_some (patch_at s q)) ≡ false
    by_lost lt true gone = lost_off (is_lost s q) (is_some (patch_at s q)) gone
    by_lost lt false there = by_half lt there s.half refl (half_is s.half q) refl

    by_place : ((q < tracks_of s) ⊎ (tracks_of s ≤ q)) → (not (is_lost s q) && is_some (patch_at s q)) ≡ false
    by_place (inl lt) = by_lost lt (is_lost s q) refl
    by_place (inr le) =
        let past = get_or_past s.frames q None (let same = long in omega (arith, same, le)) in
        absurd (let both : false ≡ true = sym (ap (λ (f : Option F). is_clean c f) past) ∙ clean in cc)

  -- one that keeps no frame
  pub frameless_drops : (s : Store F P H) → ((q : ℕ) → frame_at s q ≡ None) → DropsWell c (shelf_of s)
  frameless_drops s none q clean = absurd (let both : false ≡ true = sym (ap (λ (f : Option F). is_clean c f) (none q)) ∙ clean in cc)

  -- What was done behind notices that change nothing

  done_past : (x w : Shelf F P H) (t : ℕ) (y : Shelf F P H) → SameIn c x w → DoneIn c w t y → DoneIn c x t y
  done_past x w t y f k = record { cylinders = k.cylinders ∙ f.cylinders; here = k.here; others = λ q ne. k.others q ne ∙ f.all q }

  half_past : (x w : Shelf F P H) (t : ℕ) (y : Shelf F P H) → SameIn c x w → HalfIn c w t y → HalfIn c x t y
  half_past x w t y f k = record {
    cylinders = k.cylinders ∙ f.cylinders;
    all = λ q. k.all q ∙ f.all q;
    half = k.half;
    is = k.is;
    track = k.track;
    background = k.background;
  }

  did_past : (x w y : Shelf F P H) (d : Did) → SameIn c x w → DidWaits c w y d → DidWaits c x y d
  did_past x w y (dids.Recovered t) f k = (
    subst (λ (n : ℕ). t < n * 15) f.cylinders k.0,
    sym (f.all t) ∙ k.1,
    done_past x w t y f k.2,
  )
  did_past x w y (dids.Half t) f k = (subst (λ (n : ℕ). t < n * 15) f.cylinders k.0, half_past x w t y f k.1)
  did_past x w y dids.Nothing f k = tt
  did_past x w y (dids.Copied t) f k = tt
  did_past x w y (dids.Staged t) f k = tt
  did_past x w y (dids.Skipped t) f k = tt
  did_past x w y (dids.Destaged t) f k = tt
  did_past x w y (dids.Fault side) f k = tt
  did_past x w y (dids.BadBytes side) f k = tt

  work_past : (x w y : Shelf F P H) (a : Option Did) → SameIn c x w → WorkWaits c w y a → WorkWaits c x y a
  work_past x w y (Some d) f k = did_past x w y d f k
  work_past x w y None f k = tt

  -- Of a second part

  abbrev pub SecondWaits : Shelf F P H → ℕ → Shelf F P H → SecondEnd → Type 0
  SecondWaits x t y (seconds.Finished q) = DoneIn c x t y
  SecondWaits x t y _ = Unit {0}

  written_shelf : (s : Store F P H) (t : ℕ) (r : R) → Lucky (λ z (a : Unit {0}). shelf_of z ≡ shelf_of s) (write_second c s t r)
  unfolding V.write_second
  written_shelf s t r = lucky_if (takes_b s) (λ _. lucky_write (lucky_done refl)) (λ _. lucky_done refl)

  closed_done : (x y : Shelf F P H) (t : ℕ) → DoneIn c (record x { half = None }) t y → DoneIn c x t y
  closed_done x y t k = record { cylinders = k.cylinders; here = k.here; others = λ q ne. k.others q ne }

  module _ (faithful : IsFaithful c) where
    abbrev Finishes : Shelf F P H → ℕ → Interaction R Image (Store F P H) Bool → Type 0
    Finishes x t i = Lucky (λ z done. done ≡ true → DoneIn c x t (shelf_of z)) i

    second_by_waits : (s z : Store F P H) (t : ℕ) (i : Image) (origin : Origin) → origin ≡ OfBackground → shelf_of z ≡ shelf_of s →
        Finishes (shelf_of s) t (second_by c t i origin z)
    second_by_waits s z t i origin own same =
        rw own (lucky_if (has_level z t)
        (λ _. lucky_then (λ y _. Done y true) (with_always (write_done_waits c faithful (half_closed z) t i) (lucky_any (write_done c (half_closed z) t i false)))
        (λ y _ k. lucky_done (λ _. subst (λ (x : Shelf F P H). DoneIn c x t (shelf_of y)) same (closed_done (shelf_of z) (shelf_of y) t k.0))))
        (λ _. lucky_done (λ e. absurd (cc))))

    second_part_waits : (s : Store F P H) (h : HalfWrite H) → h.origin ≡ OfBackground → Finishes (shelf_of s) h.track (second_part c s h)
    unfolding D.second_part
    second_part_waits s h own =
        let i = half_image_of c s h in
        lucky_then (λ z _. second_by c h.track i h.origin z) (written_shelf s h.track (c.bytes i))
        (λ z _ g. second_by_waits s z h.track i h.origin own g)

    ended_waits : (x : Shelf F P H) (d : Device F P H) (t : ℕ) (origin : Origin) → origin ≡ OfBackground → (done : Bool) →
        (done ≡ true → DoneIn c x t (shelf_of d.store)) → Lucky (λ y a. SecondWaits x t (shelf_of y.store) a) (second_ended c d t origin done)
    ended_waits x d t (OfCommand bypass e) own done g = absurd (cc)
    ended_waits x d t (OfCut bypass) own done g = absurd (cc)
    ended_waits x d t OfBackground own true g = lucky_done (g refl)
    ended_waits x d t OfBackground own false g = lucky_done tt

    -- Whole events

    pub background_waits : (d : Device F P H) → DropsWell c (shelf_of d.store) →
        Always (background c d) (λ y a. WorkWaits c (shelf_of d.store) (shelf_of y.store) a)
    unfolding E.background
    background_waits d drops =
        let x = shelf_of d.store in
        always_then {p = λ (y : Device F P H) a. WorkWaits c x (shelf_of y.store) a}
        (always_then (hear_waits c 960 (event_begun d).store drops)
        (λ s _ f. always_then (work_waits c faithful s) (λ z a k. always_done (work_past x (shelf_of s) (shelf_of z) a f k))))
        (λ y a g. always_then (end_shelf c (shelf_of y.store) (waiting_count c d.store) y.store refl)
        (λ z _ e. always_done (subst (λ (w : Shelf F P H). WorkWaits c x w a) (sym e) g)))

    second_of_waits : (d : Device F P H) (s : Store F P H) (h : HalfWrite H) → h.origin ≡ OfBackground → SameIn c (shelf_of d.store) (shelf_of s) →
        (o : Option (HalfWrite H)) → o ≡ Some h →
        Lucky (λ y a. SecondWaits (shelf_of d.store) h.track (shelf_of y.store) a) (second_of c (record (event_begun d) { store = s }) o)
    second_of_waits d s h own f None e = absurd (cc)
    second_of_waits d s h own f (Some k) e =
        let x = shelf_of d.store in
        let same : k ≡ h = cc in
        let origin : k.origin ≡ OfBackground = ap (λ (i : HalfWrite H). i.origin) same ∙ own in
        let track : k.track ≡ h.track = ap (λ (i : HalfWrite H). i.track) same in
        let y : Device F P H = record (event_begun d) { store = s } in
        lucky_then _ (second_part_waits s k origin) (λ z done g. rw (← track)
        (ended_waits x (with_store y z) k.track k.origin origin done (λ is. done_past x (shelf_of s) k.track (shelf_of z) f (g is))))

    -- of the background
    pub second_waits : (d : Device F P H) (h : HalfWrite H) → d.store.half ≡ Some h → h.origin ≡ OfBackground → DropsWell c (shelf_of d.store) →
        Lucky (λ y a. SecondWaits (shelf_of d.store) h.track (shelf_of y.store) a) (second c d)
    unfolding E.second
    second_waits d h is own drops =
        let x = shelf_of d.store in
        lucky_then {p = λ (y : Device F P H) a. SecondWaits x h.track (shelf_of y.store) a} (event_ended c d)
        (lucky_then _ (with_always (hear_waits c 960 (event_begun d).store drops) (lucky_any (hear c 960 (event_begun d).store)))
        (λ s _ f. second_of_waits d s h own f.0 s.half (f.0.half ∙ is)))
        (λ y a g. lucky_then _
        (with_always (end_shelf c (shelf_of y.store) (waiting_count c d.store) y.store refl) (lucky_any (noted_end c (waiting_count c d.store) y.store)))
        (λ z _ e. lucky_done (subst (λ (w : Shelf F P H). SecondWaits x h.track w a) (sym e.0) g)))
