-- All tracks of a device are given up as its volume leaves.
use Rattle.std.proofs.Common.{◌≡◌, ◌∙◌, ℕ, zero, suc, Bool, true, false, [], Option, Some, None, refl, ap, sym}
use Rattle.std.specs.Prelude.{is_some, replicate, if◌then◌else◌}
use Rattle.device_defs.specs.Contents.{Contents}
use Rattle.device_defs.specs.Losses as losses
use Rattle.device_defs.specs.Losses.{over, gives_up, slot_in, without_frame, without_patch}
use Rattle.device_defs.specs.Orders.{given_up, lent_to}
use Rattle.device_defs.specs.Store.{SideMarks, Store, frame_at, no_side, owed_at, patch_at, tracks_of, with_frame, with_owed}

module _ {F P H R : Type 0} (c : Contents F P H R) where
  module _ (to : Option ℕ) (m : SideMarks) where
    abbrev aside : Store F P H → Store F P H
    aside s = record s { lent = to; a = m }

    aside_if : (b : Bool) (x y : Store F P H) → (if b then aside x else aside y) ≡ aside (if b then x else y)
    aside_if true x y = refl
    aside_if false x y = refl

    freed_aside : (s : Store F P H) (t : ℕ) (slot : Option ℕ) → gives_up (aside s) t slot ≡ aside (gives_up s t slot)
    freed_aside s t None = refl
    freed_aside s t (Some slot) = refl

    dropped_aside : (s : Store F P H) (t : ℕ) → without_frame (aside s) t ≡ aside (without_frame s t)
    dropped_aside s t = aside_if (is_some (frame_at s t)) (with_owed (with_frame s t None) t (record (owed_at s t) { dropped = true })) s

    given_aside : (t : ℕ) (s : Store F P H) → given_up c t (aside s) ≡ aside (given_up c t s)
    given_aside t s =
        ap (λ (z : Store F P H). without_patch c z t) (dropped_aside s t)
        ∙ freed_aside (without_frame s t) t (slot_in c (patch_at (without_frame s t) t))

    -- whoever has the volume
    pub all_aside : (n : ℕ) (s : Store F P H) → over n (given_up c) (aside s) ≡ aside (over n (given_up c) s)
    unfolding losses.over
    all_aside zero s = refl
    all_aside (suc n) s = ap (given_up c n) (all_aside n s) ∙ given_aside n (over n (given_up c) s)

  freed_size : (s : Store F P H) (t : ℕ) (slot : Option ℕ) → (gives_up s t slot).cylinders ≡ s.cylinders
  freed_size s t None = refl
  freed_size s t (Some slot) = refl

  size_if : (b : Bool) (x y : Store F P H) → x.cylinders ≡ y.cylinders → (if b then x else y).cylinders ≡ y.cylinders
  size_if true x y e = e
  size_if false x y e = refl

  given_size : (t : ℕ) (s : Store F P H) → (given_up c t s).cylinders ≡ s.cylinders
  given_size t s =
      freed_size (without_frame s t) t (slot_in c (patch_at (without_frame s t) t))
      ∙ size_if (is_some (frame_at s t)) (with_owed (with_frame s t None) t (record (owed_at s t) { dropped = true })) s refl

  pub all_size : (n : ℕ) (s : Store F P H) → (over n (given_up c) s).cylinders ≡ s.cylinders
  unfolding losses.over
  all_size zero s = refl
  all_size (suc n) s = given_size n (over n (given_up c) s) ∙ all_size n s

module _ {F P H : Type 0} where
  pub lent_with : (s : Store F P H) (n to : ℕ) → tracks_of s ≡ n →
      record s { lent = Some to; a = no_side n; lost = replicate n false; queue = [] } ≡ lent_to s to
  lent_with s n to is = ap (λ (m : ℕ). record s { lent = Some to; a = no_side m; lost = replicate m false; queue = [] }) (sym is)
