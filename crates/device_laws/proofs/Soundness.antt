-- Good marks are sound ones of which a lost track is on no side.
use Rattle.std.proofs.Common.{◌≡◌, ◌&&◌, ◌||◌, not, ℕ, Bool, true, false, Option, Some, None, is_some, refl, sym, ◌∙◌}
use Rattle.std.specs.Prelude.{if◌then◌else◌}
use Rattle.device_defs.specs.Contents.{Contents}
use Rattle.device_defs.specs.Owed.{is_modified, is_clean}
use Rattle.device_defs.specs.Sound.{has_sound_marks}
use Rattle.device_defs.specs.Store.{Store, has_level, frame_at, patch_at, is_lost, is_loose, half_is}
use Rattle.device_laws.proofs.TrackMarks as M
use Rattle.device_laws.proofs.TrackMarks.{TrackMarks, marks, is_bare, is_somewhere, is_good, frame_mark, track_at}

abbrev sound_marks : TrackMarks → Bool
sound_marks x = if x.lost then is_bare x else if x.half then not x.loose else is_somewhere x

pub and_left : (x y : Bool) → (x && y) ≡ true → x ≡ true
and_left true y e = refl
and_left false y e = e

pub and_not : (x y : Bool) → (x && not y) ≡ true → y ≡ false
and_not true false e = refl
and_not true true e = absurd (cc)
and_not false y e = absurd (cc)

and_both : (x y : Bool) → x ≡ true → y ≡ false → (x && not y) ≡ true
and_both true y e f = rw f refl
and_both false y e f = absurd (cc)

good_sound : (f : Option Bool) (p l o h v : Bool) → is_good (marks f p l o h v) ≡ true → sound_marks (marks f p l o h v) ≡ true
good_sound f p true o h v e = and_left _ (not v) e
good_sound f p false o h v e = e

sound_good : (f : Option Bool) (p l o h v : Bool) → sound_marks (marks f p l o h v) ≡ true → (l ≡ true → v ≡ false) → is_good (marks f p l o h v) ≡ true
sound_good f p true o h v e none = and_both _ v e (none refl)
sound_good f p false o h v e none = e

good_nowhere : (f : Option Bool) (p l o h v : Bool) → is_good (marks f p l o h v) ≡ true → l ≡ true → v ≡ false
good_nowhere f p true o h v e lost = and_not _ v e
good_nowhere f p false o h v e lost = absurd (cc)

module _ {F P H R : Type 0} (c : Contents F P H R) where
  as_marked : (f : Option F) (p l o h v : Bool) →
      (if l then not (is_some f) && not p && not o
      else if h then not o
      else (not (is_clean c f) || (v && not p && not o)) && (is_some f || v) && (not o || (is_modified c f && not p && v)))
      ≡ sound_marks (marks (frame_mark c f) p l o h v)
  as_marked None p l o h v = refl
  as_marked (Some f) p l o h v = refl

  same : (s : Store F P H) (t : ℕ) → has_sound_marks c s t ≡ sound_marks (track_at c s t)
  unfolding M.track_at
  same s t = as_marked (frame_at s t) (is_some (patch_at s t)) (is_lost s t) (is_loose s t) (half_is s.half t) (has_level s t)

  pub good_is_sound : (s : Store F P H) (t : ℕ) → is_good (track_at c s t) ≡ true → has_sound_marks c s t ≡ true
  good_is_sound s t good =
      let x = track_at c s t in same s t ∙ good_sound x.frame x.patched x.lost x.loose x.half x.level good

  pub good_is_nowhere : (s : Store F P H) (t : ℕ) → is_good (track_at c s t) ≡ true → is_lost s t ≡ true → has_level s t ≡ false
  unfolding M.track_at
  good_is_nowhere s t good lost =
      let x = track_at c s t in good_nowhere x.frame x.patched x.lost x.loose x.half x.level good lost

  pub sound_is_good : (s : Store F P H) (t : ℕ) → has_sound_marks c s t ≡ true → (is_lost s t ≡ true → has_level s t ≡ false) →
      is_good (track_at c s t) ≡ true
  unfolding M.track_at
  sound_is_good s t sound none =
      let x = track_at c s t in sound_good x.frame x.patched x.lost x.loose x.half x.level (sym (same s t) ∙ sound) none
