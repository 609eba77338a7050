-- The loss of the store takes every patch: a patched track is then level on no side, but for the one of an open half write. It keeps good marks good.
use Rattle.std.proofs.Common.{◌≡◌, ◌<◌, ℕ, Bool, true, false, Option, Some, None, is_some, refl, sym, ap, subst, ◌∙◌, arith}
use Rattle.std.specs.Prelude.{if◌then◌else◌}
use Rattle.device_defs.specs.Between.{HasSizes}
use Rattle.device_defs.specs.Contents.{Contents}
use Rattle.device_defs.specs.Losses as L
use Rattle.device_defs.specs.Losses.{without_patch, stale_everywhere, settled, patch_lost, store_lost}
use Rattle.device_defs.specs.Store.{Store, tracks_of, patch_at, half_is}
use Rattle.device_laws.proofs.Changes.{Changed, rest_of, unchanged, changed_twice, changed_unpatched, changed_stale_everywhere}
use Rattle.device_laws.proofs.Settled.{settled_changes_one_track}
use Rattle.device_laws.proofs.Sweeps.{IsHere, Swept, swept, is_free, is_alone, same_tracks}
use Rattle.device_laws.proofs.TrackMarks as M
use Rattle.device_laws.proofs.TrackMarks.{TrackMarks, marks, IsFaithful, settled_marks, is_good, track_at}

abbrev pub unpatched_by : Bool → TrackMarks → TrackMarks
unpatched_by half x = if half then record x { patched = false } else settled_marks (record x { patched = false; level = false })

abbrev pub patch_gone : ℕ → TrackMarks → TrackMarks
patch_gone q x = if x.patched then unpatched_by x.half x else x

gone_good : (frame : Option Bool) (patched lost loose half level : Bool) → is_good (marks frame patched lost loose half level) ≡ true →
    is_good (patch_gone 0 (marks frame patched lost loose half level)) ≡ true
gone_good f false l o h v e = e
gone_good None true true o h v e = absurd (cc)
gone_good (Some m) true true o h v e = absurd (cc)
gone_good f true false o true v e = e
gone_good None true false false false v e = refl
gone_good None true false true false true e = absurd (cc)
gone_good None true false true false false e = absurd (cc)
gone_good (Some true) true false false false v e = refl
gone_good (Some true) true false true false v e = absurd (cc)
gone_good (Some false) true false o false true e = absurd (cc)
gone_good (Some false) true false o false false e = absurd (cc)

module _ {F P H R : Type 0} (c : Contents F P H R) (faithful : IsFaithful c) where
  by_half : (z : Store F P H) (n : ℕ) (b : Bool) → n < tracks_of z → HasSizes z → IsHere (rest_of z) →
      Changed c z (if b then without_patch c z n else settled c (stale_everywhere (without_patch c z n) n) n) n (unpatched_by b (track_at c z n))
  by_half z n true lt sizes here = changed_unpatched c z n lt sizes
  by_half z n false lt sizes here =
      let f = changed_unpatched c z n lt sizes in
      let y = without_patch c z n in
      let same : tracks_of y ≡ tracks_of z = same_tracks z y f.rest in
      let g = changed_stale_everywhere c y n (is_alone y (subst IsHere (sym f.rest) here)) (omega arith) f.sizes in
      let off = g.here ∙ ap (λ (x : TrackMarks). record x { level = false }) f.here in
      let h = changed_twice c f (record { sizes = g.sizes; rest = g.rest; elsewhere = g.elsewhere; here = off }) in
      let w = stale_everywhere y n in
      let still : tracks_of w ≡ tracks_of z = same_tracks z w h.rest in
      let k = settled_changes_one_track c faithful w n (omega arith) h.sizes (is_free w (subst IsHere (sym h.rest) here)) in
      changed_twice c h (record { sizes = k.sizes; rest = k.rest; elsewhere = k.elsewhere; here = k.here ∙ ap settled_marks h.here })

  by_patch : (z : Store F P H) (n : ℕ) (b : Bool) → n < tracks_of z → HasSizes z → IsHere (rest_of z) →
      Changed c z (if b then (if half_is z.half n then without_patch c z n else settled c (stale_everywhere (without_patch c z n) n) n) else z) n
      (if b then unpatched_by (half_is z.half n) (track_at c z n) else track_at c z n)
  by_patch z n true lt sizes here = by_half z n (half_is z.half n) lt sizes here
  by_patch z n false lt sizes here = unchanged c z n sizes

  step : (z : Store F P H) (n : ℕ) → n < tracks_of z → HasSizes z → IsHere (rest_of z) →
      Changed c z (patch_lost c n z) n (patch_gone n (track_at c z n))
  unfolding M.track_at
  step z n lt sizes here = by_patch z n (is_some (patch_at z n)) lt sizes here

  pub lost_store_sweeps : (s : Store F P H) → HasSizes s → IsHere (rest_of s) → Swept c patch_gone s (store_lost c s) (tracks_of s)
  unfolding L.store_lost
  lost_store_sweeps s sizes here = swept c patch_gone (patch_lost c) step (tracks_of s) s (omega arith) sizes here

  -- what it makes of each track
  pub lost_store_settles : (s : Store F P H) → HasSizes s → IsHere (rest_of s) → (q : ℕ) → q < tracks_of s →
      track_at c (store_lost c s) q ≡ patch_gone q (track_at c s q)
  lost_store_settles s sizes here q lt = (lost_store_sweeps s sizes here).changed q lt

  pub lost_store_keeps_good : (s : Store F P H) → HasSizes s → IsHere (rest_of s) → (q : ℕ) → q < tracks_of s →
      is_good (track_at c s q) ≡ true → is_good (track_at c (store_lost c s) q) ≡ true
  lost_store_keeps_good s sizes here q lt good =
      let x = track_at c s q in
      ap is_good (lost_store_settles s sizes here q lt) ∙ gone_good x.frame x.patched x.lost x.loose x.half x.level good
