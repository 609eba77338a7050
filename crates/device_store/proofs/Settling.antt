-- A track is settled, or it stands as it is.
use Rattle.std.proofs.Common.{◌≡◌, ℕ, Bool, true, false, Option, Some, None, refl, ap}
use Rattle.std.specs.Prelude.{◌||◌, is_some, if◌then◌else◌}
use Rattle.device_defs.specs.Contents.{contents}
use Rattle.device_defs.specs.Losses as losses
use Rattle.device_defs.specs.Losses.{all_firm_told, call_failed, settled, settled_but, side_lost, by_frame, patch_lost, stale_everywhere, without_patch}
use Rattle.device_defs.specs.Store.{frame_at, half_is, has_level, is_lost, patch_at, tracks_of, with_stale}
use Rattle.device_defs.specs.Writing.{unwritten}
use Rattle.ckd_types.specs.declared.paths.Side.{Side}
use Rattle.ckd_types.specs.declared.paths.Side.TheVariants.{A}
use Rattle.device_outside.specs.Interaction.{Done}
use Rattle.device_store.specs.Looks.{StoreOf}
use Rattle.device_store.specs.State.{is_written}

stands_by : (a b d : Bool) {X : Type 0} (x y : X) → (a || b || d) ≡ true → (if a then x else if b then x else if d then x else y) ≡ x
stands_by true b d x y e = refl
stands_by false true d x y e = refl
stands_by false false true x y e = refl
stands_by false false false x y e = absurd cc

goes_by : (a b d : Bool) {X : Type 0} (x y : X) → (a || b || d) ≡ false → (if a then x else if b then x else if d then x else y) ≡ y
goes_by true b d x y e = absurd cc
goes_by false true d x y e = absurd cc
goes_by false false true x y e = absurd cc
goes_by false false false x y e = refl

pub not_first : (a b d : Bool) → (a || b || d) ≡ false → a ≡ false
not_first true b d e = absurd cc
not_first false b d e = refl

pub stands : (s : StoreOf) (t : ℕ) → (is_some s.lent || is_lost s t || has_level s t) ≡ true → settled contents s t ≡ s
unfolding losses.settled
stands s t e = stands_by (is_some s.lent) (is_lost s t) (has_level s t) s (by_frame contents s t (frame_at s t)) e

pub goes : (s : StoreOf) (t : ℕ) → (is_some s.lent || is_lost s t || has_level s t) ≡ false → settled contents s t ≡ by_frame contents s t (frame_at s t)
unfolding losses.settled
goes s t e = goes_by (is_some s.lent) (is_lost s t) (has_level s t) s (by_frame contents s t (frame_at s t)) e

pub written_stays : (w : Option ℕ) (t : ℕ) (s : StoreOf) → is_written w t ≡ true → settled_but contents w t s ≡ s
written_stays None t s e = absurd cc
written_stays (Some q) t s e = ap (λ (b : Bool). if b then s else settled contents s t) e

pub others_go : (w : Option ℕ) (t : ℕ) (s : StoreOf) → is_written w t ≡ false → settled_but contents w t s ≡ settled contents s t
others_go None t s e = refl
others_go (Some q) t s e = ap (λ (b : Bool). if b then s else settled contents s t) e

pub patch_open : (s : StoreOf) (t : ℕ) → is_some (patch_at s t) ≡ true → half_is s.half t ≡ true → patch_lost contents t s ≡ without_patch contents s t
patch_open s t patched half = rw (patched, half) refl

pub patch_settled : (s : StoreOf) (t : ℕ) → is_some (patch_at s t) ≡ true → half_is s.half t ≡ false →
    patch_lost contents t s ≡ settled contents (stale_everywhere (without_patch contents s t) t) t
patch_settled s t patched none = rw (patched, none) refl

-- no side took a track
pub refused_alone : (s : StoreOf) (t : ℕ) → s.paired ≡ false → unwritten contents s t ≡ settled contents (with_stale s A t true) t
refused_alone s t single = rw single refl

pub refused_pair : (s : StoreOf) (t : ℕ) → s.paired ≡ true → unwritten contents s t ≡ settled contents s t
refused_pair s t paired = rw paired refl

-- a failed call fails the side of a pair
pub fails_pair : (s : StoreOf) (side : Side) (w : Option ℕ) → s.paired ≡ true →
    call_failed contents s side w ≡ all_firm_told contents (tracks_of s) (side_lost contents s side w)
fails_pair s side w is = ap (λ (b : Bool). if b then all_firm_told contents (tracks_of s) (side_lost contents s side w) else Done s tt) is

pub fails_none : (s : StoreOf) (side : Side) (w : Option ℕ) → s.paired ≡ false → call_failed contents s side w ≡ Done s tt
fails_none s side w is = ap (λ (b : Bool). if b then all_firm_told contents (tracks_of s) (side_lost contents s side w) else Done s tt) is
