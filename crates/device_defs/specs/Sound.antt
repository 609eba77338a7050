-- When a device is sound, one track at a time: what its marks say by themselves, and what its frames and its sides hold.
use Rattle.std.specs.Prelude.{
  ◌≡◌,
  ◌<◌,
  ℕ,
  ◌==◌,
  ◌&&◌,
  ◌||◌,
  not,
  Bool,
  true,
  false,
  List,
  [],
  Option,
  Some,
  None,
  is_some,
  slice_index_or,
  if◌then◌else◌,
}
use Rattle.ckd_types.specs.declared.paths.Side.{Side}
use Rattle.ckd_types.specs.Volume.{track_in}
use Rattle.track_image.specs.Image.{Image, edited_image}
use Rattle.track_cache.specs.declared.frames.Frame.{Frame}
use Rattle.nv_store.specs.declared.patches.Stored.{Stored}
use Rattle.plain_defs.specs.History.{plain_of}
use Rattle.plain_defs.specs.Loose.{is_loose_there as is_plainly_loose, firm}
use Rattle.plain_defs.specs.PlainState.{PlainState, empty_state}
use Rattle.device_outside.specs.After.{Holdings, holds_of}
use Rattle.device_defs.specs.Contents.{Contents, contents}
use Rattle.device_defs.specs.Device.{Device}
use Rattle.device_defs.specs.Owed.{is_modified, is_clean}
use Rattle.device_defs.specs.Store.{
  Origin,
  OfCommand,
  OfCut,
  OfBackground,
  HalfWrite,
  Store,
  tracks_of,
  side_of,
  level_at,
  has_level,
  frame_at,
  patch_at,
  is_lost,
  is_loose,
  half_is,
}

-- Marks

module _ {F P H R : Type 0} (c : Contents F P H R) where
  abbrev pub has_patch : Store F P H → ℕ → Bool
  has_patch s t = is_some (patch_at s t)

  -- a clean frame is of a track that a side has as well, without a patch, and that isn't loose
  abbrev pub clean_is_on_side : Store F P H → ℕ → Bool
  clean_is_on_side s t = not (is_clean c (frame_at s t)) || (has_level s t && not (has_patch s t) && not (is_loose s t))

  abbrev pub has_copy : Store F P H → ℕ → Bool
  has_copy s t = is_some (frame_at s t) || has_level s t

  -- a loose track has its data in a modified frame alone, and what it goes back to on a side
  abbrev pub loose_is_kept : Store F P H → ℕ → Bool
  loose_is_kept s t = not (is_loose s t) || (is_modified c (frame_at s t) && not (has_patch s t) && has_level s t)

  -- of a lost track nothing is kept
  abbrev pub is_bare : Store F P H → ℕ → Bool
  is_bare s t = not (is_some (frame_at s t)) && not (has_patch s t) && not (is_loose s t)

  -- of a device that isn't lent. A track that is being written isn't loose
  abbrev pub has_sound_marks : Store F P H → ℕ → Bool
  has_sound_marks s t =
      if is_lost s t then is_bare s t
      else if half_is s.half t then not (is_loose s t)
      else clean_is_on_side s t && has_copy s t && loose_is_kept s t

-- Contents, where the volumes tell what they hold

abbrev pub DeviceStore : Type 0
DeviceStore = Store Frame Stored Image

-- a frame is the track of the plain volume
abbrev pub FrameIs : DeviceStore → ℕ → Image → Type 0
FrameIs s t plain = (f : Frame) → frame_at s t ≡ Some f → f.image ≡ plain

-- and the bytes of each level side, with the patch, are the track without data of cache fast write
abbrev pub SideIs : DeviceStore → Holdings (List ℕ) → ℕ → Image → Type 0
SideIs s h t kept =
    (side : Side) → level_at (side_of s side) t ≡ true →
    contents.read s.geometry t (patch_at s t) (slice_index_or (holds_of h side) t []) kept ≡ Some kept

pub record IsKept (s : DeviceStore) (h : Holdings (List ℕ)) (t : ℕ) (plain kept : Image) : Type 0 where
  pub frame : FrameIs s t plain
  pub sides : SideIs s h t kept

-- what an open half write writes: a command's edit has no effect on the plain volume yet
abbrev pub written_on : Image → Origin → Image
written_on plain (OfCommand bypass e) = edited_image e plain
written_on plain (OfCut bypass) = plain
written_on plain OfBackground = plain

-- once the command is cut, frame and patch count for nothing
abbrev pub FrameBy : Origin → DeviceStore → ℕ → Image → Type 0
FrameBy (OfCommand bypass e) s t plain = FrameIs s t plain
FrameBy (OfCut bypass) s t plain = Unit {0}
FrameBy OfBackground s t plain = FrameIs s t plain

-- each level side holds what is being written
pub record IsWritten (s : DeviceStore) (h : Holdings (List ℕ)) (plain : Image) (w : HalfWrite Image) : Type 0 where
  pub image : w.image ≡ written_on plain w.origin
  pub sides : (side : Side) → level_at (side_of s side) w.track ≡ true → slice_index_or (holds_of h side) w.track [] ≡ contents.bytes w.image
  pub frame : FrameBy w.origin s w.track plain

abbrev pub IsHeldBy : DeviceStore → Holdings (List ℕ) → ℕ → Image → Image → Option (HalfWrite Image) → Type 0
IsHeldBy s h t plain kept None = IsKept s h t plain kept
IsHeldBy s h t plain kept (Some w) = elim (w.track == t) [ true ↦ IsWritten s h plain w | false ↦ IsKept s h t plain kept ]

-- a lost track is nowhere
abbrev pub IsHeld : DeviceStore → Holdings (List ℕ) → ℕ → Image → Image → Type 0
IsHeld s h t plain kept = elim (is_lost s t) [ true ↦ Unit {0} | false ↦ IsHeldBy s h t plain kept s.half ]

-- The device, and the plain device of its history

module _ {F P H : Type 0} where
  abbrev pub plain_device : Device F P H → PlainState
  plain_device d = plain_of d.plans (empty_state d.store.geometry d.store.cylinders) d.history

  abbrev pub plain_image : Device F P H → ℕ → Image
  plain_image d t = record { geometry = d.store.geometry; track = track_in (plain_device d).volume t }

  abbrev pub firm_image : Device F P H → ℕ → Image
  firm_image d t = record { geometry = d.store.geometry; track = firm (plain_device d) t }

-- of a track
pub record IsSoundAt (d : Device Frame Stored Image) (h : Holdings (List ℕ)) (t : ℕ) : Type 0 where
  pub marks : has_sound_marks contents d.store t ≡ true
  pub loose : is_loose d.store t ≡ is_plainly_loose (plain_device d) t
  pub held : IsHeld d.store h t (plain_image d t) (firm_image d t)

-- a device that is lent keeps nothing of its tracks
abbrev pub IsSound : Device Frame Stored Image → Holdings (List ℕ) → Type 0
IsSound d h = elim (is_some d.store.lent) [ true ↦ Unit {0} | false ↦ (t : ℕ) → t < tracks_of d.store → IsSoundAt d h t ]
