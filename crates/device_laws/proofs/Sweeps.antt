-- A change of each track in turn: what it makes of the marks of each.
use Rattle.std.proofs.Common.{None, ◌≡◌, ◌≢◌, ◌<◌, ◌≤◌, ◌*◌, zero, suc, ℕ, false, Some, is_some, refl, sym, ap, subst, ◌∙◌, arith, ◌⊎◌, inl, inr}
use Rattle.std.proofs.lemmas.Bool.{cases_eq}
use Rattle.device_defs.specs.Between.{HasSizes}
use Rattle.device_defs.specs.Contents.{Contents}
use Rattle.device_defs.specs.Losses as L
use Rattle.device_defs.specs.Losses.{over}
use Rattle.device_defs.specs.Store.{HalfWrite, Store, tracks_of}
use Rattle.device_laws.specs.InOrder.{AreBelow}
use Rattle.device_laws.proofs.Changes as C
use Rattle.device_laws.proofs.Changes.{Rest, rest_of, Changed}
use Rattle.device_laws.proofs.TrackMarks.{TrackMarks, track_at}

-- a device that isn't lent, has no side B where it is alone, and an open half write and a queue of tracks of its own
pub record IsHere {H : Type 0} (r : Rest H) : Type 0 where
  pub free : is_some r.lent ≡ false
  pub alone : r.paired ≡ false → r.up_b ≡ false
  pub whole : r.paired ≡ false → r.half ≡ None
  pub within : (h : HalfWrite H) → r.half ≡ Some h → h.track < r.cylinders * 15
  pub queued : AreBelow (r.cylinders * 15) r.queue

pub is_whole : {F P H : Type 0} (s : Store F P H) → IsHere (rest_of s) → s.paired ≡ false → s.half ≡ None
unfolding C.rest_of
is_whole s h e = h.whole e

pub is_free : {F P H : Type 0} (s : Store F P H) → IsHere (rest_of s) → is_some s.lent ≡ false
unfolding C.rest_of
is_free s h = h.free

pub is_alone : {F P H : Type 0} (s : Store F P H) → IsHere (rest_of s) → s.paired ≡ false → s.b.up ≡ false
unfolding C.rest_of
is_alone s h = h.alone

pub same_half : {F P H : Type 0} (s z : Store F P H) → rest_of z ≡ rest_of s → z.half ≡ s.half
unfolding C.rest_of
same_half {F} {P} {H} s z e = ap (λ (r : Rest H). r.half) e

pub half_within : {F P H : Type 0} (s : Store F P H) → IsHere (rest_of s) → (h : HalfWrite H) → s.half ≡ Some h → h.track < tracks_of s
unfolding C.rest_of
half_within s i h e = i.within h e

pub all_queued : {F P H : Type 0} (s : Store F P H) → IsHere (rest_of s) → AreBelow (tracks_of s) s.queue
unfolding C.rest_of
all_queued s h = h.queued

pub same_tracks : {F P H : Type 0} (s z : Store F P H) → rest_of z ≡ rest_of s → tracks_of z ≡ tracks_of s
unfolding C.rest_of
same_tracks {F} {P} {H} s z e = let cylinders : z.cylinders ≡ s.cylinders = ap (λ (r : Rest H). r.cylinders) e in cc

module _ {F P H R : Type 0} (c : Contents F P H R) (made : ℕ → TrackMarks → TrackMarks) where
  -- the first n tracks were changed, and no other
  pub record Swept (s z : Store F P H) (n : ℕ) : Type 0 where
    pub sizes : HasSizes z
    pub rest : rest_of z ≡ rest_of s
    pub changed : (q : ℕ) → q < n → track_at c z q ≡ made q (track_at c s q)
    pub others : (q : ℕ) → n ≤ q → track_at c z q ≡ track_at c s q

  one_more : (s z y : Store F P H) (n : ℕ) → Swept s z n → Changed c z y n (made n (track_at c z n)) → Swept s y (suc n)
  one_more s z y n i g = record {
    sizes = g.sizes;
    rest = g.rest ∙ i.rest;
    changed = λ q lt. by_place q lt (cases_eq q n);
    others = λ q le. g.elsewhere q (λ e. omega arith) ∙ i.others q (omega arith);
  }
    where
      by_place : (q : ℕ) → q < suc n → ((q ≡ n) ⊎ (q ≢ n)) → track_at c y q ≡ made q (track_at c s q)
      by_place q lt (inl e) =
          subst (λ (p : ℕ). track_at c y p ≡ made p (track_at c s p)) (sym e) (g.here ∙ ap (made n) (i.others n (omega arith)))
      by_place q lt (inr ne) = g.elsewhere q ne ∙ i.changed q (omega arith)

  module _ (f : ℕ → Store F P H → Store F P H)
      (step : (z : Store F P H) (n : ℕ) → n < tracks_of z → HasSizes z → IsHere (rest_of z) → Changed c z (f n z) n (made n (track_at c z n))) where
    pub swept : (n : ℕ) (s : Store F P H) → n ≤ tracks_of s → HasSizes s → IsHere (rest_of s) → Swept s (over n f s) n
    unfolding L.over
    swept zero s le sizes here = record { sizes = sizes; rest = refl; changed = λ q lt. absurd (omega arith); others = λ q le. refl }
    swept (suc n) s le sizes here =
        let i : Swept s (over n f s) n = swept n s (omega arith) sizes here in
        let same : tracks_of (over n f s) ≡ tracks_of s = same_tracks s (over n f s) i.rest in
        one_more s (over n f s) (f n (over n f s)) n i
        (step (over n f s) n (omega arith) i.sizes (subst (λ (r : Rest H). IsHere r) (sym i.rest) here))
