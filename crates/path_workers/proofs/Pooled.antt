-- A store that is in order with the slots of a pool is so where nothing is told of these.
use Rattle.std.proofs.Common.{◌≡◌, ◌==◌, ℕ, Bool, true, false, List, [], Option, Some, None, length, refl, sym, subst}
use Rattle.std.specs.Prelude.{slice_index_or}
use Rattle.ckd_types.specs.declared.paths.Side.{Side}
use Rattle.ckd_types.specs.declared.paths.Side.TheVariants.{A, B}
use Rattle.ckd_types.specs.declared.record.Track.{Track}
use Rattle.track_image.specs.Image.{Image}
use Rattle.device_outside.specs.After.{holds_of}
use Rattle.device_defs.specs.Contents.{contents}
use Rattle.device_defs.specs.Sound.{DeviceStore, IsHeld, IsHeldBy, IsKept, IsWritten}
use Rattle.device_defs.specs.Store.{HalfWrite, is_lost, patch_at, tracks_of}
use Rattle.device_laws.specs.Agrees.{Held}
use Rattle.device_laws.specs.InOrder.{IsInOrder}

abbrev untold : Held → Held
untold h = record h { slots = None }

same_side : (h : Held) (side : Side) → holds_of (untold h) side ≡ holds_of h side
same_side h A = refl
same_side h B = refl

abbrev Either : Bool → Type 0 → Type 0 → Type 0
Either b X Y = elim b [ true ↦ X | false ↦ Y ]

either : {X Y Z W : Type 0} (b : Bool) → (X → Z) → (Y → W) → Either b X Y → Either b Z W
either true f g x = f x
either false f g y = g y

module _ (s : DeviceStore) (h : Held) where
  kept : (t : ℕ) (plain firm : Image) → IsKept s h t plain firm → IsKept s (untold h) t plain firm
  kept t plain firm k = record {
    frame = k.frame;
    sides = λ side level.
        subst (λ (l : List (List ℕ)). contents.read s.geometry t (patch_at s t) (slice_index_or l t []) firm ≡ Some firm) (sym (same_side h side)) (k.sides side level);
  }

  written : (plain : Image) (w : HalfWrite Image) → IsWritten s h plain w → IsWritten s (untold h) plain w
  written plain w k = record {
    image = k.image;
    sides = λ side level.
        subst (λ (l : List (List ℕ)). slice_index_or l w.track [] ≡ contents.bytes w.image) (sym (same_side h side)) (k.sides side level);
    frame = k.frame;
  }

  held_by : (t : ℕ) (plain firm : Image) (o : Option (HalfWrite Image)) → IsHeldBy s h t plain firm o → IsHeldBy s (untold h) t plain firm o
  held_by t plain firm None k = kept t plain firm k
  held_by t plain firm (Some w) k = either (w.track == t) (written plain w) (kept t plain firm) k

  held : (t : ℕ) (plain firm : Image) → IsHeld s h t plain firm → IsHeld s (untold h) t plain firm
  held t plain firm k = either (is_lost s t) (λ u. u) (held_by t plain firm s.half) k

  pub untold_order : (plain firm : List Track) → IsInOrder plain firm s h → IsInOrder plain firm s (untold h)
  untold_order plain firm o =
      let ground = o.agrees.ground in
      record {
        agrees = record {
          ground = record {
            sizes = ground.sizes;
            plain = ground.plain;
            firm = ground.firm;
            same = ground.same;
            apart = ground.apart;
            patches = ground.patches;
            long = λ side up. subst (λ (l : List (List ℕ)). length l ≡ tracks_of s) (sym (same_side h side)) (ground.long side up);
            slots = tt;
          };
          held = λ t low. held t _ _ (o.agrees.held t low);
        };
        told = o.told;
        free = o.free;
        alone = o.alone;
        whole = o.whole;
        marks = o.marks;
        queued = o.queued;
        nowhere = o.nowhere;
        within = o.within;
        there = o.there;
        patched = o.patched;
        opened = o.opened;
      }
