-- The rooms that the tracks of a volume in memory have in one region of bytes.
use Rattle.std.specs.Prelude.{◌≡◌, ◌<◌, ◌≤◌, ◌+◌, ◌⊎◌, ℕ, List, [], ◌∷◌, length, take, drop, slice_index_or}
use Rattle.device_outside.specs.declared.rooms.RoomSize.{RoomSize}
use Rattle.device_outside.specs.declared.rooms.RoomSize.TheVariants.{Nothing, Least, Page, Quarter, Whole}
use Rattle.device_outside.specs.declared.rooms.Room.{Room}

-- how many bytes a room has
abbrev pub bytes_of : RoomSize → ℕ
bytes_of Nothing = 0
bytes_of Least = 32
bytes_of Page = 4096
bytes_of Quarter = 16384
bytes_of Whole = 65536

-- how many bytes the greater rooms have that a track may still come to need
abbrev pub owed_to : RoomSize → ℕ
owed_to Nothing = 86048
owed_to Least = 86016
owed_to Page = 81920
owed_to Quarter = 65536
owed_to Whole = 0

abbrev pub all_owed : List Room → ℕ
all_owed [] = 0
all_owed (r ∷ rs) = owed_to r.size + all_owed rs

-- what a room holds
abbrev pub held_in : List ℕ → Room → List ℕ
held_in region r = take r.len (drop r.start region)

abbrev pub room_end : Room → ℕ
room_end r = r.start + bytes_of r.size

abbrev pub no_room : Room
no_room = record { start = 0; len = 0; size = Nothing }

abbrev pub room_at : List Room → ℕ → Room
room_at rooms i = slice_index_or rooms i no_room

-- each room lies within the region and holds no more than it has; no two have a byte in common; and the region's memory has the
-- greater rooms that are still owed
pub record IsParted (capacity : ℕ) (region : List ℕ) (rooms : List Room) : Type 0 where
  pub held : (i : ℕ) → i < length rooms → (room_at rooms i).len ≤ bytes_of (room_at rooms i).size
  pub within : (i : ℕ) → i < length rooms → room_end (room_at rooms i) ≤ length region
  pub apart : (i j : ℕ) → i < length rooms → j < length rooms → (i ≡ j → ⊥) →
      (room_end (room_at rooms i) ≤ (room_at rooms j).start) ⊎ (room_end (room_at rooms j) ≤ (room_at rooms i).start)
  pub owed : length region + all_owed rooms ≤ capacity
