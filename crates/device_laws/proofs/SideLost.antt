-- The loss of a side settles each track but the one that is being written, and keeps good marks good.
use Rattle.std.proofs.Common.{◌≡◌, ◌≢◌, ◌<◌, ◌==◌, ◌||◌, ℕ, Bool, true, false, Option, Some, None, refl, sym, ap, ◌∙◌, arith}
use Rattle.std.specs.Prelude.{if◌then◌else◌}
use Rattle.ckd_types.specs.declared.paths.Side.{Side}
use Rattle.ckd_types.specs.declared.paths.Side.TheVariants.{A, B}
use Rattle.device_defs.specs.Between.{HasSizes}
use Rattle.device_defs.specs.Contents.{Contents}
use Rattle.device_defs.specs.Losses as L
use Rattle.device_defs.specs.Losses.{down, settled, settled_but, side_lost}
use Rattle.device_defs.specs.Store.{Store, tracks_of, has_level}
use Rattle.device_laws.proofs.Bools.{or_right}
use Rattle.device_laws.proofs.Changes as C
use Rattle.device_laws.proofs.Changes.{Changed, rest_of, unchanged}
use Rattle.device_laws.proofs.Settled.{settled_changes_one_track}
use Rattle.device_laws.proofs.Sweeps.{IsHere, Swept, swept, is_free}
use Rattle.device_laws.proofs.TrackMarks as M
use Rattle.device_laws.proofs.TrackMarks.{
  TrackMarks,
  IsFaithful,
  settled_marks,
  is_near,
  is_good,
  track_at,
  settling_makes_good,
  good_is_near,
  near_with_fewer_sides,
}

-- a track that is being written is settled by its write
abbrev pub settled_unless : Option ℕ → ℕ → TrackMarks → TrackMarks
settled_unless None q x = settled_marks x
settled_unless (Some t) q x = if q == t then x else settled_marks x

module _ {F P H R : Type 0} (c : Contents F P H R) (faithful : IsFaithful c) where
  by_place : (t : ℕ) (z : Store F P H) (n : ℕ) (b : Bool) → n < tracks_of z → HasSizes z → IsHere (rest_of z) →
      Changed c z (if b then z else settled c z n) n (if b then track_at c z n else settled_marks (track_at c z n))
  by_place t z n true lt sizes here = unchanged c z n sizes
  by_place t z n false lt sizes here = settled_changes_one_track c faithful z n lt sizes (is_free z here)

  step : (writing : Option ℕ) (z : Store F P H) (n : ℕ) → n < tracks_of z → HasSizes z → IsHere (rest_of z) →
      Changed c z (settled_but c writing n z) n (settled_unless writing n (track_at c z n))
  step None z n lt sizes here = settled_changes_one_track c faithful z n lt sizes (is_free z here)
  step (Some t) z n lt sizes here = by_place t z n (n == t) lt sizes here

  down_sizes : (s : Store F P H) (side : Side) → HasSizes s → HasSizes (down s side)
  down_sizes s A sizes = record { are = sizes.are }
  down_sizes s B sizes = record { are = sizes.are }

  pub down_here : (s : Store F P H) (side : Side) → IsHere (rest_of s) → IsHere (rest_of (down s side))
  unfolding C.rest_of
  down_here s A h = record { free = h.free; alone = h.alone; whole = h.whole; within = h.within; queued = h.queued }
  down_here s B h = record { free = h.free; alone = λ e. refl; whole = h.whole; within = h.within; queued = h.queued }

  pub down_tracks : (s : Store F P H) (side : Side) → tracks_of (down s side) ≡ tracks_of s
  down_tracks s A = refl
  down_tracks s B = refl

  -- the loss of a side settles every track over what is left
  pub lost_side_settles : (s : Store F P H) (side : Side) (writing : Option ℕ) → HasSizes s → IsHere (rest_of s) →
      Swept c (settled_unless writing) (down s side) (side_lost c s side writing) (tracks_of s)
  unfolding L.side_lost
  lost_side_settles s side writing sizes here =
      swept c (settled_unless writing) (settled_but c writing) (step writing) (tracks_of s) (down s side)
      (let e = down_tracks s side in omega arith) (down_sizes s side sizes) (down_here s side here)

  or_true : (x : Bool) → (x || false) ≡ true → (y : Bool) → (x || y) ≡ true
  or_true true e y = refl
  or_true false e y = absurd (cc)

  -- a side that is down has nothing
  pub down_near : (s : Store F P H) (side : Side) (q : ℕ) → is_near (track_at c s q) ≡ true → is_near (track_at c (down s side) q) ≡ true
  unfolding M.track_at
  down_near s A q near = near_with_fewer_sides (track_at c s q) (has_level (down s A) q) near (λ e. or_right _ _ e)
  down_near s B q near = near_with_fewer_sides (track_at c s q) (has_level (down s B) q) near (λ e. or_true _ e _)

  pub settled_unless_good : (writing : Option ℕ) (q : ℕ) (x : TrackMarks) → writing ≢ Some q → is_near x ≡ true → is_good (settled_unless writing q x) ≡ true
  settled_unless_good None q x ne near = settling_makes_good x near
  settled_unless_good (Some t) q x ne near = by_test (q == t) refl
    where
      by_test : (b : Bool) → (q == t) ≡ b → is_good (if b then x else settled_marks x) ≡ true
      by_test true e = absurd (ne (let is : q ≡ t = grind arith in ap Some (sym is)))
      by_test false e = settling_makes_good x near

  -- it keeps good marks good, in whatever state a half write is
  pub lost_side_keeps_good : (s : Store F P H) (side : Side) (writing : Option ℕ) → HasSizes s → IsHere (rest_of s) →
      (q : ℕ) → q < tracks_of s → is_near (track_at c s q) ≡ true → writing ≢ Some q →
      is_good (track_at c (side_lost c s side writing) q) ≡ true
  lost_side_keeps_good s side writing sizes here q lt near ne =
      ap is_good ((lost_side_settles s side writing sizes here).changed q lt)
      ∙ settled_unless_good writing q (track_at c (down s side) q) ne (down_near s side q near)
