-- A track that is level on no side is kept by its frame or by an open half write, or is lost, and then its marks are good.
use Rattle.std.proofs.Common.{◌≡◌, ◌<◌, ℕ, Bool, true, false, Option, Some, None, is_some, refl, ap, ◌∙◌}
use Rattle.std.specs.Prelude.{if◌then◌else◌}
use Rattle.device_defs.specs.Between.{HasSizes}
use Rattle.device_defs.specs.Contents.{Contents}
use Rattle.device_defs.specs.Losses as L
use Rattle.device_defs.specs.Losses.{slot_in, gives_up, owes_modified, lost_now, kept_by_frame, by_frame, hardened_by_loss, settled}
use Rattle.device_defs.specs.Store.{Store, tracks_of, has_level, frame_at, patch_at, is_lost, is_loose, half_is, with_frame, with_lost}
use Rattle.device_laws.proofs.Changes as C
use Rattle.device_laws.proofs.Changes.{Changed, unchanged, changed_twice, changed_frame, changed_patch, changed_lost, changed_owed, changed_hardened}
use Rattle.device_laws.proofs.TrackMarks as M
use Rattle.device_laws.proofs.TrackMarks.{TrackMarks, IsFaithful, framed, unframed, settled_frame, settled_marks, frame_mark, track_at}

module _ {F P H R : Type 0} (c : Contents F P H R) (faithful : IsFaithful c) (s : Store F P H) (t : ℕ) (lt : t < tracks_of s) (sizes : HasSizes s) where
  abbrev x : TrackMarks
  x = track_at c s t

  no_patch : (p : Option P) → patch_at s t ≡ p → Changed c s (gives_up (with_lost s t) t (slot_in c p)) t (record x { lost = true; patched = false })
  unfolding M.track_at C.rest_of
  no_patch None e = let f = changed_lost c s t lt sizes in record {
    sizes = f.sizes;
    rest = f.rest;
    elsewhere = f.elsewhere;
    here = f.here ∙ ap (λ (p : Option P). record x { lost = true; patched = is_some p }) e;
  }
  no_patch (Some p) e =
      let f = changed_lost c s t lt sizes in
      let g = changed_patch c (with_lost s t) t None lt f.sizes in
      let h : Changed c s _ t _ = changed_twice c f g in
      let here = h.here ∙ ap (λ (y : TrackMarks). record y { patched = false }) f.here in
      changed_owed c t _ (record { sizes = h.sizes; rest = h.rest; elsewhere = h.elsewhere; here = here })

  half_case : (b : Bool) → Changed c s (if b then s else lost_now c s t) t (unframed b x)
  half_case true = unchanged c s t sizes
  half_case false = no_patch (patch_at s t) refl

  modified_case : (f : F) (b : Bool) → frame_at s t ≡ Some f → c.modified f ≡ b →
      Changed c s (if b then s else owes_modified (with_frame s t (Some (c.marked f true))) t) t (record x { frame = Some true })
  unfolding M.track_at C.rest_of
  modified_case f true e m = let u = unchanged c s t sizes in record {
    sizes = u.sizes;
    rest = u.rest;
    elsewhere = u.elsewhere;
    here = ap (λ (o : Option Bool). record x { frame = o }) (ap (frame_mark c) e ∙ ap Some m);
  }
  modified_case f false e m =
      let g = changed_frame c s t (Some (c.marked f true)) lt sizes in
      let here = g.here ∙ ap (λ (b : Bool). record x { frame = Some b }) (faithful.marked f true) in
      changed_owed c t _ (record { sizes = g.sizes; rest = g.rest; elsewhere = g.elsewhere; here = here })

  loose_case : (f : F) (b : Bool) → frame_at s t ≡ Some f → Changed c s (if b then hardened_by_loss s t else kept_by_frame c s t f) t (framed b x)
  loose_case f true e = changed_owed c t _ (changed_hardened c s t lt sizes)
  loose_case f false e = modified_case f (c.modified f) e refl

  frame_case : (f : Option F) → frame_at s t ≡ f → Changed c s (by_frame c s t f) t (settled_frame (frame_mark c f) (is_loose s t) (half_is s.half t) x)
  frame_case None e = half_case (half_is s.half t)
  frame_case (Some f) e = loose_case f (is_loose s t) e

  level_case : (b : Bool) → Changed c s (if b then s else by_frame c s t (frame_at s t)) t
      (if b then x else settled_frame (frame_mark c (frame_at s t)) (is_loose s t) (half_is s.half t) x)
  level_case true = unchanged c s t sizes
  level_case false = frame_case (frame_at s t) refl

  lost_case : (b : Bool) → Changed c s (if b then s else if has_level s t then s else by_frame c s t (frame_at s t)) t
      (if b then x else if has_level s t then x else settled_frame (frame_mark c (frame_at s t)) (is_loose s t) (half_is s.half t) x)
  lost_case true = unchanged c s t sizes
  lost_case false = level_case (has_level s t)

  lent_case : (b : Bool) → b ≡ false → Changed c s
      (if b then s else if is_lost s t then s else if has_level s t then s else by_frame c s t (frame_at s t)) t (settled_marks x)
  unfolding M.track_at
  lent_case true e = absurd (cc)
  lent_case false e = lost_case (is_lost s t)

  -- settling changes one track, as its marks say
  pub settled_changes_one_track : is_some s.lent ≡ false → Changed c s (settled c s t) t (settled_marks x)
  unfolding L.settled
  settled_changes_one_track e = lent_case (is_some s.lent) e
