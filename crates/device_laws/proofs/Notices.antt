-- The notices at the front of an event and what is told at its end keep good marks good.
use Rattle.std.proofs.Common.{◌≡◌, ◌<◌, ◌≤◌, ℕ, Bool, true, false, Option, Some, None, length, refl, ap, ◌∙◌, arith, ◌⊎◌, inl, inr}
use Rattle.std.proofs.lemmas.Bool.{cases_lt}
use Rattle.std.proofs.lemmas.List.{length-set, get_or_past}
use Rattle.std.specs.Prelude.{if◌then◌else◌}
use Rattle.device_defs.specs.Between.{HasSizes}
use Rattle.device_defs.specs.Contents.{Contents}
use Rattle.device_defs.specs.Owed.{is_clean, hear, noted_end}
use Rattle.device_defs.specs.Store.{Store, no_debt, tracks_of, frame_at, with_frame, with_owed}
use Rattle.device_laws.proofs.Bools.{not_true}
use Rattle.device_laws.proofs.Always.{Always}
use Rattle.device_laws.proofs.Changes as C
use Rattle.device_laws.proofs.Changes.{rest_of, changed_frame}
use Rattle.device_laws.proofs.FailedCall.{IsWell, IsSame, Goes, stays, goes_on, changed_goes}
use Rattle.device_laws.proofs.PoolWalks.{asks_always, hear_asks, ended_asks}
use Rattle.device_laws.proofs.TrackMarks as M
use Rattle.device_laws.proofs.TrackMarks.{IsFaithful, frame_mark, track_at}
use Rattle.device_laws.proofs.WholeImage.{clean_may_go}

module _ {F P H R : Type 0} (c : Contents F P H R) where
  -- a track that the device hasn't has no frame
  pub clean_below : (s : Store F P H) (t : ℕ) → IsWell c s → is_clean c (frame_at s t) ≡ true → t < tracks_of s
  clean_below s t w e = by_place (cases_lt t (tracks_of s))
    where
      by_place : ((t < tracks_of s) ⊎ (tracks_of s ≤ t)) → t < tracks_of s
      by_place (inl lt) = lt
      by_place (inr le) =
          let all : length s.frames ≡ tracks_of s = cc (w.sizes.are) in
          let none : frame_at s t ≡ None = get_or_past s.frames t None (omega arith) in
          absurd (let f = rw none at e in cc)

  clean_mark : (s : Store F P H) (t : ℕ) (o : Option F) → frame_at s t ≡ o → is_clean c o ≡ true → (track_at c s t).frame ≡ Some false
  unfolding M.track_at
  clean_mark s t None e f = absurd (cc)
  clean_mark s t (Some g) e f = ap (frame_mark c) e ∙ ap Some (not_true (c.modified g) f)

  pub dropped_by : (s : Store F P H) (t : ℕ) (b : Bool) → is_clean c (frame_at s t) ≡ b → IsWell c s → Goes c s (if b then with_frame s t None else s)
  dropped_by s t true e w =
      let lt = clean_below s t w e in
      changed_goes c s (with_frame s t None) t _ w (changed_frame c s t None lt w.sizes)
      (clean_may_go (track_at c s t) (clean_mark s t (frame_at s t) refl e) (w.good t lt)) (w.kept t lt) (λ f. f)
  dropped_by s t false e w = stays c s w

  -- the notices
  pub hearing_keeps_good : (n : ℕ) (s : Store F P H) → IsWell c s → Always (hear c n s) (λ y _. Goes c s y)
  hearing_keeps_good n s w =
      asks_always (hear_asks c (Goes c s) (λ z t clean g. goes_on c s z (with_frame z t None) g (dropped_by z t true clean g.well)) n s (stays c s w))

  -- What is told at the end changes no mark

  pub same_here : (s : Store F P H) → HasSizes s → IsSame c s s
  same_here s sizes = record { sizes = sizes; rest = refl; marks = λ q. refl }

  no_debt_left : (s z : Store F P H) (t : ℕ) → IsSame c s z → IsSame c s (with_owed z t no_debt)
  unfolding M.track_at C.rest_of
  no_debt_left s z t f = record { sizes = record { are = simp length-set f.sizes.are }; rest = f.rest; marks = f.marks }

  -- the end of an event
  pub ending_changes_no_mark : (before : ℕ) (s : Store F P H) → HasSizes s → Always (noted_end c before s) (λ y _. IsSame c s y)
  ending_changes_no_mark before s sizes = asks_always (ended_asks c (IsSame c s) (λ z t f. no_debt_left s z t f) before s (same_here s sizes))
