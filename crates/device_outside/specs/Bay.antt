-- What is seen of a bay, and the volume that it makes for a device.
use Rattle.std.specs.Prelude.{ℕ, ◌==◌, ◌&&◌, nat_lt, List, [], ◌∷◌, length, if◌then◌else◌}
use Rattle.device_outside.specs.declared.bay.Spoiled.{Spoiled}
use Rattle.device_outside.specs.declared.bay.Taken.{Taken}
use Rattle.device_outside.specs.Disk.{Disk, spoiled_disk}

pub record Bay : Type 0 where
  pub spoiled : List Spoiled
  pub made : ℕ  -- how many volumes it made
  pub taken : List Taken

-- a track that the volume doesn't have is passed over
abbrev pub spoil_one : ℕ → Spoiled → Disk → Disk
spoil_one d s disk = if (s.device == d) && nat_lt s.track (length disk.tracks) then spoiled_disk disk s.track s.bytes else disk

unfoldable pub spoil_all : List Spoiled → ℕ → Disk → Disk
spoil_all [] d disk = disk
spoil_all (s ∷ ss) d disk = spoil_all ss d (spoil_one d s disk)
