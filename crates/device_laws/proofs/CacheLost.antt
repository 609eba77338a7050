-- The loss of the cache takes every frame and all data of cache fast write, settles each track, and keeps good marks good.
use Rattle.std.proofs.Common.{
  ◌≡◌,
  ◌≢◌,
  ◌<◌,
  zero,
  suc,
  ℕ,
  Bool,
  true,
  false,
  Option,
  Some,
  None,
  [],
  ◌∷◌,
  is_some,
  length,
  refl,
  sym,
  ap,
  subst,
  ◌∙◌,
  arith,
  ◌⊎◌,
  inl,
  inr,
}
use Rattle.std.proofs.lemmas.Bool.{cases_eq}
use Rattle.std.proofs.lemmas.List.{length-replicate}
use Rattle.std.specs.Prelude.{if◌then◌else◌}
use Rattle.track_table.specs.Tracks as T
use Rattle.track_table.specs.Tracks.{least, or_else}
use Rattle.track_table.proofs.Places.{empty_places}
use Rattle.device_defs.specs.Between.{HasSizes}
use Rattle.device_defs.specs.Contents.{Contents}
use Rattle.device_defs.specs.Effects.{act_noted, gone_back, loose_lost}
use Rattle.device_defs.specs.Losses as L
use Rattle.device_defs.specs.Losses.{without_frame, settled, cache_lost}
use Rattle.device_defs.specs.Store.{Store, tracks_of, is_loose, has_loose}
use Rattle.plain_defs.specs.declared.journal.Act.TheVariants.{CfwLost}
use Rattle.device_laws.proofs.Changes as C
use Rattle.device_laws.proofs.Changes.{Changed, rest_of, changed_twice, changed_unframed}
use Rattle.device_laws.proofs.Settled.{settled_changes_one_track}
use Rattle.device_laws.proofs.Sweeps.{IsHere, Swept, swept, is_free, same_tracks}
use Rattle.device_laws.proofs.TrackMarks as M
use Rattle.device_laws.proofs.TrackMarks.{TrackMarks, marks, IsFaithful, settled_marks, is_near, is_good, track_at, settling_makes_good}

-- none below passes where none was found
nothing_in : (a : Option ℕ) (b : Bool) (n : ℕ) → is_some (or_else a (if b then Some n else None)) ≡ false → (is_some a ≡ false) × (b ≡ false)
nothing_in (Some t) b n e = absurd (cc)
nothing_in None true n e = absurd (cc)
nothing_in None false n e = (refl, refl)

pub none_below : (n : ℕ) (p : ℕ → Bool) → is_some (least n p) ≡ false → (q : ℕ) → q < n → p q ≡ false
unfolding T.least
none_below zero p e q lt = absurd (omega arith)
none_below (suc n) p e q lt = by_place (nothing_in (least n p) (p n) n e) (none_below n p) (cases_eq q n)
  where
    by_place : ((is_some (least n p) ≡ false) × (p n ≡ false)) → (is_some (least n p) ≡ false → (t : ℕ) → t < n → p t ≡ false) →
        ((q ≡ n) ⊎ (q ≢ n)) → p q ≡ false
    by_place f below (inl is) = ap p is ∙ f.1
    by_place f below (inr ne) = below f.0 q (omega arith)

abbrev pub unframed_settled : ℕ → TrackMarks → TrackMarks
unframed_settled q x = settled_marks (record x { frame = None })

-- without frames and loose data good marks are near
without_frame_near : (frame : Option Bool) (patched lost loose half level : Bool) → is_good (marks frame patched lost loose half level) ≡ true →
    is_near (marks None patched lost false half level) ≡ true
without_frame_near None false true false h false e = refl
without_frame_near None false true false h true e = absurd (cc)
without_frame_near None false true true h v e = absurd (cc)
without_frame_near None true true o h v e = absurd (cc)
without_frame_near (Some m) p true o h v e = absurd (cc)
without_frame_near f p false o true v e = refl
without_frame_near f p false o false v e = refl

module _ {F P H R : Type 0} (c : Contents F P H R) (faithful : IsFaithful c) where
  pub step : (z : Store F P H) (n : ℕ) → n < tracks_of z → HasSizes z → IsHere (rest_of z) →
      Changed c z (settled c (without_frame z n) n) n (unframed_settled n (track_at c z n))
  step z n lt sizes here =
      let f = changed_unframed c z n lt sizes in
      let same : tracks_of (without_frame z n) ≡ tracks_of z = same_tracks z (without_frame z n) f.rest in
      let free : is_some (without_frame z n).lent ≡ false = is_free (without_frame z n) (subst IsHere (sym f.rest) here) in
      let g = settled_changes_one_track c faithful (without_frame z n) n (omega arith) f.sizes free in
      changed_twice c f (record { sizes = g.sizes; rest = g.rest; elsewhere = g.elsewhere; here = g.here ∙ ap settled_marks f.here })

  -- before: data of cache fast write go, and the queue
  abbrev pub begun : Store F P H → Store F P H
  begun s = record (loose_lost s) { queue = [] }

  abbrev pub begun_by : Bool → Store F P H → Store F P H
  begun_by b s = record (if b then act_noted (gone_back s) CfwLost else s) { queue = [] }

  pub begun_sizes : (s : Store F P H) (b : Bool) → HasSizes s → HasSizes (begun_by b s)
  begun_sizes s true sizes =
      let all : length s.loose ≡ tracks_of s = cc (sizes.are) in
      record {
        are =
            ap (λ (k : ℕ). length s.a.stale ∷ length s.b.stale ∷ length s.frames ∷ length s.patches ∷ length s.lost ∷ k ∷ length s.owed ∷ [])
            (length-replicate (tracks_of s) false ∙ sym all) ∙ sizes.are;
      }
  begun_sizes s false sizes = record { are = sizes.are }

  pub begun_here : (s : Store F P H) (b : Bool) → IsHere (rest_of s) → IsHere (rest_of (begun_by b s))
  unfolding C.rest_of
  begun_here s true h = record { free = h.free; alone = h.alone; whole = h.whole; within = h.within; queued = tt }
  begun_here s false h = record { free = h.free; alone = h.alone; whole = h.whole; within = h.within; queued = tt }

  pub begun_tracks : (s : Store F P H) (b : Bool) → tracks_of (begun_by b s) ≡ tracks_of s
  begun_tracks s true = refl
  begun_tracks s false = refl

  begun_marks : (s : Store F P H) (b : Bool) → has_loose s ≡ b → (q : ℕ) → q < tracks_of s →
      track_at c (begun_by b s) q ≡ record (track_at c s q) { loose = false }
  unfolding M.track_at
  begun_marks s true e q lt = ap (λ (o : Bool). record (track_at c s q) { loose = o }) (empty_places (tracks_of s) q false)
  begun_marks s false e q lt = ap (λ (o : Bool). record (track_at c s q) { loose = o }) (none_below (tracks_of s) (is_loose s) e q lt)

  pub lost_cache_sweeps : (s : Store F P H) → HasSizes s → IsHere (rest_of s) →
      Swept c unframed_settled (begun s) (cache_lost c s) (tracks_of s)
  unfolding L.cache_lost
  lost_cache_sweeps s sizes here =
      let b = begun_tracks s (has_loose s) in
      swept c unframed_settled (λ t z. settled c (without_frame z t) t) step (tracks_of s) (begun s) (omega arith)
      (begun_sizes s (has_loose s) sizes) (begun_here s (has_loose s) here)

  -- what it makes of each track
  pub lost_cache_settles : (s : Store F P H) → HasSizes s → IsHere (rest_of s) → (q : ℕ) → q < tracks_of s →
      track_at c (cache_lost c s) q ≡ settled_marks (record (track_at c s q) { frame = None; loose = false })
  lost_cache_settles s sizes here q lt =
      (lost_cache_sweeps s sizes here).changed q lt ∙ ap (unframed_settled q) (begun_marks s (has_loose s) refl q lt)

  pub lost_cache_keeps_good : (s : Store F P H) → HasSizes s → IsHere (rest_of s) → (q : ℕ) → q < tracks_of s →
      is_good (track_at c s q) ≡ true → is_good (track_at c (cache_lost c s) q) ≡ true
  lost_cache_keeps_good s sizes here q lt good =
      let x = track_at c s q in
      ap is_good (lost_cache_settles s sizes here q lt)
      ∙ settling_makes_good (record x { frame = None; loose = false }) (without_frame_near x.frame x.patched x.lost x.loose x.half x.level good)
