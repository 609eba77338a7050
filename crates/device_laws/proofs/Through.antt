-- A command's write keeps good marks good, wherever its edit goes and whatever is answered.
use Rattle.std.proofs.Common.{◌≡◌, ◌<◌, ℕ, Bool, true, false, Option, Some, None, refl, ap, ◌∙◌, arith}
use Rattle.std.specs.Prelude.{if◌then◌else◌, not}
use Rattle.ckd_types.specs.declared.record.Edit.{Edit}
use Rattle.ckd_types.specs.Parameters.{is_bypass}
use Rattle.track_image.specs.Image.{Image, edited_image}
use Rattle.device_outside.specs.Interaction.{Done, Ask, Tell, and_then}
use Rattle.device_outside.specs.Keeper.{BeforeEdit}
use Rattle.device_outside.specs.Pool.{SetClean}
use Rattle.device_defs.specs.declared.answers.Choice.{Choice}
use Rattle.device_defs.specs.declared.answers.Choice.TheVariants.{Provisional, Fast, Through}
use Rattle.device_defs.specs.declared.answers.Took.{Took}
use Rattle.device_defs.specs.declared.answers.Took.TheVariants.{Whole, Opened, Unwritten}
use Rattle.device_defs.specs.declared.usage.Usage.{Usage}
use Rattle.device_defs.specs.Choosing.{choose}
use Rattle.device_defs.specs.Contents.{Contents}
use Rattle.device_defs.specs.Editing as E
use Rattle.device_defs.specs.Editing.{another_loose, whole, at_once, through_by, through, write_by, written, is_given, unchosen, write_chosen, write}
use Rattle.device_defs.specs.Effects.{with_edit}
use Rattle.device_defs.specs.Losses.{settled}
use Rattle.device_defs.specs.Owed.{is_clean}
use Rattle.device_defs.specs.Store.{Store, OfCommand, tracks_of, has_level, frame_at}
use Rattle.device_laws.proofs.Always.{Always, always_done, always_try, always_ask, always_tell, always_then, always_weaker}
use Rattle.device_laws.proofs.Changes.{unchanged}
use Rattle.device_laws.proofs.Choices.{Fits, choice_fits, changed_edit, fast_keeps_good, provisional_keeps_good}
use Rattle.device_laws.proofs.Done.{Keeps, goes_keeps, keeps_on, write_done_keeps_good, opened_keeps_good}
use Rattle.device_laws.proofs.FailedCall.{IsWell, Goes, stays, goes_on}
use Rattle.device_laws.proofs.Others.{Others, Open, opens, others_changed, settled_goes}
use Rattle.device_laws.proofs.TrackMarks as M
use Rattle.device_laws.proofs.TrackMarks.{TrackMarks, IsFaithful, track_at}
use Rattle.device_laws.proofs.WriteMarks.{level_is_there}
use Rattle.device_laws.proofs.Writes.{is_taken, firm_first_keeps_good, write_first_keeps_good, write_second_keeps_others}

module _ {F P H R : Type 0} (c : Contents F P H R) (faithful : IsFaithful c) where
  level_mark : (s : Store F P H) (t : ℕ) → has_level s t ≡ true → (track_at c s t).level ≡ true
  unfolding M.track_at
  level_mark s t e = e

  -- the write is done on some side: the edit takes effect
  pub whole_goes : (t : ℕ) (s z : Store F P H) (i : Image) (e : Edit) (bypass : Bool) → t < tracks_of z → Others c t s z →
      (track_at c z t).lost ≡ false → (track_at c z t).loose ≡ false → has_level z t ≡ true → Always (whole c z t i e bypass) (λ y _. Goes c s y)
  whole_goes t s z i e bypass lt o there firm level =
      let f = changed_edit c t e (unchanged c z t o.sizes) in
      let u = with_edit z t e in
      always_tell
      (λ _. always_then
      (write_done_keeps_good c faithful t s u lt (others_changed c t s z u _ o f)
      (ap (λ (x : TrackMarks). x.lost) f.here ∙ there) (ap (λ (x : TrackMarks). x.loose) f.here ∙ firm) i bypass
      (ap (λ (x : TrackMarks). x.level) f.here ∙ level_mark z t level))
      (λ y _ g. always_done g))

  -- the second part in the same event
  level_by : (t : ℕ) (s z : Store F P H) (i : Image) (e : Edit) (bypass b : Bool) → has_level z t ≡ b → t < tracks_of s → Open c t s z →
      (track_at c s t).lost ≡ false → (track_at c s t).loose ≡ false →
      Always (if b then whole c z t i e bypass else Done (settled c z t) Unwritten) (λ y _. Goes c s y)
  level_by t s z i e bypass true level lt o there firm =
      whole_goes t s z i e bypass (let same = o.others.tracks in omega arith) o.others (o.lost ∙ there) (o.loose ∙ firm) level
  level_by t s z i e bypass false level lt o there firm = always_done (settled_goes c faithful t s z lt o (λ h. there))

  at_once_goes : (t : ℕ) (s : Store F P H) (i : Image) (e : Edit) (bypass : Bool) → t < tracks_of s → IsWell c s →
      (track_at c s t).lost ≡ false → (track_at c s t).loose ≡ false → Always (at_once c s t i e bypass) (λ y _. Goes c s y)
  at_once_goes t s i e bypass lt w there firm =
      always_then (write_second_keeps_others c faithful t s lt there (c.bytes i) w)
      (λ z _ o. level_by t s z i e bypass (has_level z t) refl lt o there firm)

  -- by what came of the first part, of a track that was made firm first
  by_opening : (t : ℕ) (s : Store F P H) (i : Image) (e : Edit) (bypass opening was_loose : Bool) → t < tracks_of s → IsWell c s → s.half ≡ None →
      (track_at c s t).lost ≡ false → (track_at c s t).loose ≡ false →
      s.b.up ≡ true → Always (through_by c t i e bypass opening was_loose s Opened) (λ y _. Keeps c faithful s y)
  by_opening t s i e bypass true was_loose lt w none there firm up =
      always_then (opened_keeps_good c faithful t s s i (OfCommand bypass e) was_loose lt (opens c s t lt w).others none there firm up)
      (λ y _ g. always_done g)
  by_opening t s i e bypass false was_loose lt w none there firm up =
      always_weaker (at_once_goes t s i e bypass lt w there firm) (λ y _ g. goes_keeps c faithful s y g)

  by_took : (t : ℕ) (s : Store F P H) (i : Image) (e : Edit) (bypass opening was_loose : Bool) (took : Took) → t < tracks_of s → IsWell c s →
      s.half ≡ None → (is_taken took ≡ true → has_level s t ≡ true) → (took ≡ Opened → s.b.up ≡ true) → (track_at c s t).loose ≡ false →
      Always (through_by c t i e bypass opening was_loose s took) (λ y _. Keeps c faithful s y)
  by_took t s i e bypass opening was_loose Whole lt w none level up firm =
      always_weaker (whole_goes t s s i e bypass lt (opens c s t lt w).others
      (level_is_there (track_at c s t) (w.good t lt) (level_mark s t (level refl))) firm (level refl))
      (λ y _ g. goes_keeps c faithful s y g)
  by_took t s i e bypass opening was_loose Opened lt w none level up firm =
      by_opening t s i e bypass opening was_loose lt w none (level_is_there (track_at c s t) (w.good t lt) (level_mark s t (level refl))) firm (up refl)
  by_took t s i e bypass opening was_loose Unwritten lt w none level up firm = always_done (goes_keeps c faithful s s (stays c s w))

  -- through to the volumes, while no half write is open
  pub through_keeps_good : (t : ℕ) (s : Store F P H) (i : Image) (e : Edit) (bypass opening : Bool) → t < tracks_of s → IsWell c s →
      s.half ≡ None → (track_at c s t).lost ≡ false → Always (through c s t i e bypass opening) (λ y _. Keeps c faithful s y)
  unfolding E.through
  through_keeps_good t s i e bypass opening lt w none there =
      always_then (firm_first_keeps_good c faithful s t lt w)
      (λ z was_loose f. let below : t < tracks_of z = let same = f.goes.tracks in omega arith in
      always_then (write_first_keeps_good c faithful t z below (f.lost ∙ there) (c.bytes i) f.goes.well)
      (λ y v g. let all = goes_on c s z y f.goes g.goes in
      always_weaker (by_took t y i e bypass opening was_loose v.took (let same = all.tracks in omega arith) g.goes.well (all.half ∙ none) g.level g.opens
      (g.goes.firm t below f.loose))
      (λ x _ h. keeps_on c faithful s y x (goes_keeps c faithful s y all) h)))

  -- The whole write, of a track that isn't lost

  module _ (u : Usage) (first t : ℕ) (s : Store F P H) (lt : t < tracks_of s) (w : IsWell c s) (none : s.half ≡ None)
      (there : (track_at c s t).lost ≡ false) where
    by_choice : (i : Image) (e : Edit) (choice : Choice) → Fits c s t choice → Always (write_by c u first t i e s choice) (λ y _. Keeps c faithful s y)
    by_choice i e Provisional fit = always_done (provisional_keeps_good c faithful s t lt w i e fit none)
    by_choice i e (Fast slot) fit =
        let g = fast_keeps_good c faithful s t lt w i e slot fit in
        always_tell (λ _. always_done (goes_keeps c faithful s _ g))
    by_choice i e Through fit = through_keeps_good t s i e (is_bypass u.mode) (not (another_loose s first t)) lt w none there

    written_keeps : (old : Image) (e : Edit) (choice : Choice) → Fits c s t choice →
        Always (written c s u first t old e choice) (λ y _. Keeps c faithful s y)
    written_keeps old e choice fit = always_then (by_choice (edited_image e old) e choice fit) (λ y _ g. always_done g)

    still : Keeps c faithful s s
    still = goes_keeps c faithful s s (stays c s w)

    clean_by : (b : Bool) → Always {R = R} {I = Image} {A = Option Took} (if b then Ask (SetClean s.device t) (λ _. Done s None) else Done s None)
        (λ y _. Keeps c faithful s y)
    clean_by true = always_ask (λ _. always_done still)
    clean_by false = always_done still

    unchosen_keeps : (choice : Choice) → Always (unchosen c s t choice) (λ y _. Keeps c faithful s y)
    unchosen_keeps (Fast (Some slot)) = always_ask (λ _. clean_by (is_clean c (frame_at s t)))
    unchosen_keeps (Fast None) = clean_by (is_clean c (frame_at s t))
    unchosen_keeps Provisional = clean_by (is_clean c (frame_at s t))
    unchosen_keeps Through = always_done still

    heard_by : (old : Image) (e : Edit) (choice : Choice) (ok : Bool) → Fits c s t choice →
        Always (if ok then written c s u first t old e choice else unchosen c s t choice) (λ y _. Keeps c faithful s y)
    heard_by old e choice true fit = written_keeps old e choice fit
    heard_by old e choice false fit = unchosen_keeps choice

    given_by : (old : Image) (e : Edit) (choice : Choice) (b : Bool) → Fits c s t choice →
        Always (if b then Tell (BeforeEdit s.device t old) (λ ok. if ok then written c s u first t old e choice else unchosen c s t choice)
        else written c s u first t old e choice) (λ y _. Keeps c faithful s y)
    given_by old e choice true fit = always_tell (λ ok. heard_by old e choice ok fit)
    given_by old e choice false fit = written_keeps old e choice fit

    chosen_keeps : (old : Image) (e : Edit) (choice : Choice) → Fits c s t choice →
        Always (write_chosen c u first t old e s choice) (λ y _. Keeps c faithful s y)
    chosen_keeps old e choice fit = given_by old e choice (is_given c s choice) fit

    tried_by : (old : Image) (e : Edit) (ok : Bool) →
        Always (if ok then and_then (choose c s u t) (write_chosen c u first t old e) else Done s None) (λ y _. Keeps c faithful s y)
    tried_by old e true =
        always_then (choice_fits c s u t) (λ z choice f. rw f.same (chosen_keeps old e choice f.fit))
    tried_by old e false = always_done still

    pub write_keeps_good : (old : Image) (e : Edit) → Always (write c s u first t old e) (λ y _. Keeps c faithful s y)
    unfolding E.write
    write_keeps_good old e = always_try (λ ok. tried_by old e ok)
