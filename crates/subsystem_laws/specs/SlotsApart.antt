-- The slots of the patches of all devices.
use Rattle.std.specs.Prelude.{◌≡◌, ℕ, true, List, Option, Some, slice_get}
use Rattle.device_outside.specs.Lists.{is_in}
use Rattle.device_defs.specs.Contents.{contents}
use Rattle.device_defs.specs.Losses.{slot_in}
use Rattle.device_defs.specs.Store.{patch_at}
use Rattle.subsystem_laws.specs.WholeStood.{Stood}

-- of the patch of a track
abbrev pub slot_on : Stood → ℕ → Option ℕ
slot_on x t = slot_in contents (patch_at x.device.store t)

-- each is one of those in use, and no two patches have the same, over all devices
pub record AreApart (slots : List ℕ) (xs : List Stood) : Type 0 where
  pub used : (i t slot : ℕ) (x : Stood) → slice_get xs i ≡ Some x → slot_on x t ≡ Some slot → is_in slot slots ≡ true
  pub apart : (i j t q slot : ℕ) (x y : Stood) → slice_get xs i ≡ Some x → slice_get xs j ≡ Some y → slot_on x t ≡ Some slot → slot_on y q ≡ Some slot →
      (i ≡ j) × (t ≡ q)
