-- Each change of a store is one of its twin on marks.
use Rattle.std.proofs.Common.{◌≡◌, ℕ, Bool, List, Option, Some, None, is_some, refl, sym, ap, ◌∙◌}
use Rattle.std.specs.Prelude.{option_map}
use Rattle.ckd_types.specs.declared.paths.Side.{Side}
use Rattle.ckd_types.specs.declared.paths.Side.TheVariants.{A, B}
use Rattle.ckd_types.specs.declared.record.Track.{Track}
use Rattle.track_image.specs.Image.{Image}
use Rattle.track_cache.specs.declared.frames.Frame.{Frame}
use Rattle.nv_store.specs.declared.patches.Stored.{Stored}
use Rattle.device_defs.specs.declared.owed.Owed.{Owed}
use Rattle.device_defs.specs.Contents.{contents, by_plain}
use Rattle.device_defs.specs.Losses.{down, slot_in, gives_up, without_patch}
use Rattle.device_defs.specs.Marks.{MarksStore, marks_of, frame_mark, patch_mark, half_mark, owed_mark}
use Rattle.device_defs.specs.Sound.{DeviceStore}
use Rattle.device_defs.specs.Store.{HalfWrite, frame_at, patch_at, half_is, owed_at, with_frame, with_patch, with_owed, no_debt}
use Rattle.device_laws.proofs.TwinWalks.{get_map, set_map, get_plain, set_plain, some_map}

module _ (v w : List Track) (s : DeviceStore) where
  pub frame_twin : (t : ℕ) → frame_at (marks_of v w s) t ≡ option_map frame_mark (frame_at s t)
  frame_twin t = get_map frame_mark s.frames t

  pub patch_twin : (t : ℕ) → patch_at (marks_of v w s) t ≡ option_map patch_mark (patch_at s t)
  patch_twin t = get_map patch_mark s.patches t

  pub has_frame_twin : (t : ℕ) → is_some (frame_at (marks_of v w s) t) ≡ is_some (frame_at s t)
  has_frame_twin t = ap is_some (frame_twin t) ∙ some_map frame_mark (frame_at s t)

  pub has_patch_twin : (t : ℕ) → is_some (patch_at (marks_of v w s) t) ≡ is_some (patch_at s t)
  has_patch_twin t = ap is_some (patch_twin t) ∙ some_map patch_mark (patch_at s t)

  pub owed_twin : (t : ℕ) → owed_at (marks_of v w s) t ≡ owed_mark (owed_at s t)
  owed_twin t = get_plain owed_mark s.owed t no_debt

  half_by : (o : Option (HalfWrite Image)) (t : ℕ) → half_is (option_map half_mark o) t ≡ half_is o t
  half_by None t = refl
  half_by (Some h) t = refl

  pub half_twin : (t : ℕ) → half_is (marks_of v w s).half t ≡ half_is s.half t
  half_twin t = half_by s.half t

  pub with_frame_twin : (t : ℕ) (f : Option Frame) → marks_of v w (with_frame s t f) ≡ with_frame (marks_of v w s) t (option_map frame_mark f)
  with_frame_twin t f = ap (λ (l : List (Option Bool)). record (marks_of v w s) { frames = l }) (set_map frame_mark s.frames t f)

  pub with_patch_twin : (t : ℕ) (p : Option Stored) → marks_of v w (with_patch s t p) ≡ with_patch (marks_of v w s) t (option_map patch_mark p)
  with_patch_twin t p = ap (λ (l : List (Option (Unit {0}))). record (marks_of v w s) { patches = l }) (set_map patch_mark s.patches t p)

  pub with_owed_twin : (t : ℕ) (o : Owed) → marks_of v w (with_owed s t o) ≡ with_owed (marks_of v w s) t (owed_mark o)
  with_owed_twin t o = ap (λ (l : List Owed). record (marks_of v w s) { owed = l }) (set_plain owed_mark s.owed t o)

  pub down_twin : (side : Side) → marks_of v w (down s side) ≡ down (marks_of v w s) side
  down_twin A = refl
  down_twin B = refl

  -- a patch is given up with its slot
  gives_up_by : (t : ℕ) (p : Option Stored) → marks_of v w (gives_up s t (slot_in contents p)) ≡ gives_up (marks_of v w s) t (slot_in by_plain
      (option_map patch_mark p))
  gives_up_by t None = refl
  gives_up_by t (Some p) =
      let o : Owed = record (owed_at s t) { freed = Some p.slot } in
      ap (λ (l : List Owed). record (marks_of v w (with_patch s t None)) { owed = l }) (set_plain owed_mark s.owed t o)
      ∙ ap (λ (m : MarksStore). with_owed m t (owed_mark o)) (with_patch_twin t None)
      ∙ ap (λ (x : Owed). with_owed (with_patch (marks_of v w s) t None) t (record x { freed = Some 0 })) (sym (owed_twin t))

  pub without_patch_twin : (t : ℕ) → marks_of v w (without_patch contents s t) ≡ without_patch by_plain (marks_of v w s) t
  without_patch_twin t =
      gives_up_by t (patch_at s t) ∙ ap (λ (o : Option (Unit {0})). gives_up (marks_of v w s) t (slot_in by_plain o)) (sym (patch_twin t))
