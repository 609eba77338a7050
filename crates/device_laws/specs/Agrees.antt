-- A device's store and the bytes of its sides agree with a plain volume, and with the same without data of cache fast write.
use Rattle.std.specs.Prelude.{◌≡◌, ◌<◌, ℕ, Bool, true, false, List, length, Option, Some, None}
use Rattle.ckd_types.specs.declared.paths.Side.{Side}
use Rattle.ckd_types.specs.declared.record.Track.{Track}
use Rattle.ckd_types.specs.Volume.{IsVolume, track_in}
use Rattle.track_image.specs.Image.{Image}
use Rattle.nv_store.specs.declared.patches.Stored.{Stored}
use Rattle.nv_store.specs.Patch.{IsPatch, applied}
use Rattle.device_outside.specs.After.{Holdings, holds_of}
use Rattle.device_outside.specs.Lists.{is_in}
use Rattle.device_defs.specs.Between.{HasSizes}
use Rattle.device_defs.specs.Contents.{contents}
use Rattle.device_defs.specs.Losses.{slot_in}
use Rattle.device_defs.specs.Sound.{DeviceStore, IsHeld}
use Rattle.device_defs.specs.Store.{Origin, OfCommand, OfCut, OfBackground, tracks_of, side_of, patch_at, is_loose, half_is, owed_at}

abbrev pub Held : Type 0
Held = Holdings (List ℕ)

abbrev pub image_in : DeviceStore → List Track → ℕ → Image
image_in s v t = record { geometry = s.geometry; track = track_in v t }

-- Patches

-- a patch changes nothing of this image
abbrev pub PatchHas : Option Stored → Image → Type 0
PatchHas o i = (p : Stored) → o ≡ Some p → applied p.patch i ≡ Some i

-- of a track as it is plainly, and as it is without data of cache fast write
abbrev pub PatchFits : Option Stored → Image → Image → Type 0
PatchFits o plain firm = PatchHas o plain × PatchHas o firm

-- of the track of an open half write. Once its command is cut, the patch counts for nothing
abbrev pub PatchOf : Origin → Option Stored → Image → Type 0
PatchOf (OfCommand bypass e) o i = PatchHas o i
PatchOf (OfCut bypass) o i = Unit {0}
PatchOf OfBackground o i = PatchHas o i

-- Slots

-- a track's slot: of its patch, or one that it still owes the pool
abbrev pub slot_at : DeviceStore → Bool → ℕ → Option ℕ
slot_at s true t = slot_in contents (patch_at s t)
slot_at s false t = (owed_at s t).freed

-- each is one that the device has, and no two are one
pub record AreSlots (s : DeviceStore) (mine : List ℕ) : Type 0 where
  pub own : (kept : Bool) (t slot : ℕ) → slot_at s kept t ≡ Some slot → is_in slot mine ≡ true
  pub apart : (kept other : Bool) (t q slot : ℕ) → slot_at s kept t ≡ Some slot → slot_at s other q ≡ Some slot → (kept ≡ other) × (t ≡ q)

-- where the port tells its pool
abbrev pub HasSlots : DeviceStore → Option (List ℕ) → Type 0
HasSlots s None = Unit {0}
HasSlots s (Some mine) = AreSlots s mine

-- Tracks

-- what is so beside the contents of each track
pub record IsGround (v w : List Track) (s : DeviceStore) (h : Held) : Type 0 where
  pub sizes : HasSizes s
  pub plain : IsVolume s.geometry s.cylinders v
  pub firm : IsVolume s.geometry s.cylinders w
  pub same : (t : ℕ) → t < tracks_of s → is_loose s t ≡ false → track_in w t ≡ track_in v t
  pub apart : (t : ℕ) → is_loose s t ≡ true → half_is s.half t ≡ false
  pub patches : (t : ℕ) (p : Stored) → patch_at s t ≡ Some p → IsPatch p.patch
  pub long : (side : Side) → (side_of s side).up ≡ true → length (holds_of h side) ≡ tracks_of s
  pub slots : HasSlots s h.slots

pub record Agrees (plain firm : List Track) (s : DeviceStore) (h : Held) : Type 0 where
  pub ground : IsGround plain firm s h
  pub held : (t : ℕ) → t < tracks_of s → IsHeld s h t (image_in s plain t) (image_in s firm t)
