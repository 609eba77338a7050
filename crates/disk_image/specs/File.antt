-- A CKD image file: a head of 512 bytes, and then each track at the front of a room of its own.
use Rattle.std.specs.Prelude.{
  ℕ,
  zero,
  suc,
  ◌+◌,
  ◌-◌,
  ◌*◌,
  nat_eq,
  nat_le,
  nat_lt,
  Bool,
  false,
  List,
  [],
  ◌∷◌,
  ◌++◌,
  length,
  take,
  drop,
  map,
  replicate,
  Option,
  Some,
  None,
  ◌==◌,
  ◌&&◌,
  if◌then◌else◌,
}
use Rattle.std.specs.List.{flat_map, range_with_len, starts_with}
use Rattle.ckd_types.specs.declared.geometry.Geometry.{Geometry}
use Rattle.ckd_types.specs.declared.geometry.Geometry.TheVariants.{D3390, D3380}
use Rattle.ckd_types.specs.Track.{end_mark, track_bytes}
use Rattle.track_image.specs.Image.{Image}
use Rattle.track_image.specs.Reading.{count_at}
use Rattle.volume_file.specs.File.{ImageVolume, empty_image}

-- the bytes of a track's room, as the emulators have them: a multiple of 512
abbrev pub room_size : Geometry → ℕ
room_size D3390 = 56832
room_size D3380 = 47616

-- the last byte of the device type
abbrev pub type_byte : Geometry → ℕ
type_byte D3390 = 0x90
type_byte D3380 = 0x80

-- a plain image begins with CKD_P370
abbrev pub signature : List ℕ
signature = 0x43 ∷ 0x4b ∷ 0x44 ∷ 0x5f ∷ 0x50 ∷ 0x33 ∷ 0x37 ∷ 0x30 ∷ []

-- a compressed one with CKD_C370, and what shadows one with CKD_S370
abbrev pub compressed : List ℕ
compressed = 0x43 ∷ 0x4b ∷ 0x44 ∷ 0x5f ∷ 0x43 ∷ 0x33 ∷ 0x37 ∷ 0x30 ∷ []

abbrev pub shadow : List ℕ
shadow = 0x43 ∷ 0x4b ∷ 0x44 ∷ 0x5f ∷ 0x53 ∷ 0x33 ∷ 0x37 ∷ 0x30 ∷ []

-- fifteen heads, in four bytes with the low one first
abbrev pub heads_bytes : List ℕ
heads_bytes = 15 ∷ 0 ∷ 0 ∷ 0 ∷ []

-- the size of a room, in four bytes with the low one first
abbrev pub size_bytes : Geometry → List ℕ
size_bytes D3390 = 0 ∷ 0xde ∷ 0 ∷ 0 ∷ []
size_bytes D3380 = 0 ∷ 0xba ∷ 0 ∷ 0 ∷ []

-- signature, heads, size of a room, device type, file number (0: the only file) and highest cylinder (0: to the file's end)
abbrev pub head_front : Geometry → List ℕ
head_front g = signature ++ (heads_bytes ++ (size_bytes g ++ type_byte g ∷ 0 ∷ 0 ∷ 0 ∷ []))

-- the rest of the head is zero
abbrev pub head_of : Geometry → List ℕ
head_of g = head_front g ++ replicate 492 0

-- where the room of a track begins
abbrev pub place_of : Geometry → ℕ → ℕ
place_of g t = 512 + t * room_size g

-- how long the file of so many cylinders is
abbrev pub file_size : Geometry → ℕ → ℕ
file_size g cylinders = place_of g (cylinders * 15)

-- bytes at the front of a room, and zeros to its end
abbrev pub padded : ℕ → List ℕ → List ℕ
padded size bytes = bytes ++ replicate (size - length bytes) 0

-- the image file of a volume
abbrev pub image_of : ImageVolume → List ℕ
image_of v = head_of v.geometry ++ flat_map (λ (i : Image). padded (room_size v.geometry) (track_bytes i.track)) v.images

-- the image file of so many empty tracks
abbrev pub empty_file : Geometry → ℕ → List ℕ
empty_file g n =
    head_of g ++ flat_map (λ (i : Image). padded (room_size g) (track_bytes i.track)) (map (empty_image g) (range_with_len 0 n))

-- the image file of a volume of empty tracks
abbrev pub new_image : Geometry → ℕ → List ℕ
new_image g cylinders = empty_file g (cylinders * 15)

-- how many bytes the record has that bytes begin with, by its count area
abbrev pub record_size : List ℕ → ℕ
record_size bytes = 8 + (count_at bytes).key + (count_at bytes).body

-- where the end mark ends that is reached in at most so many steps, each over a record, from bytes on that stand at `at`
unfoldable pub end_from : ℕ → ℕ → List ℕ → Option ℕ
end_from zero at bytes = None
end_from (suc steps) at bytes =
    if nat_lt (length bytes) 8 then None
    else if starts_with nat_eq bytes end_mark then Some (at + 8)
    else end_from steps (at + record_size bytes) (drop (record_size bytes) bytes)

-- as many steps as there are count areas in the greatest room
abbrev pub most_steps : ℕ
most_steps = 8192

-- how many bytes the track in a room has, if its records lead to an end mark
abbrev pub end_in : List ℕ → Option ℕ
end_in room = end_from most_steps 5 (drop 5 room)

abbrev pub cut_at : Option ℕ → List ℕ → List ℕ
cut_at (Some n) room = take n room
cut_at None room = room

-- the bytes of the track in a room: up to its end mark, or else the room as it is
abbrev pub track_in_room : List ℕ → List ℕ
track_in_room room = cut_at (end_in room) room

-- the room of a track in a file
abbrev pub room_in : Geometry → List ℕ → ℕ → List ℕ
room_in g all t = take (room_size g) (drop (place_of g t) all)

abbrev pub track_in : Geometry → List ℕ → ℕ → List ℕ
track_in g all t = track_in_room (room_in g all t)

-- the bytes of the tracks that a file holds
abbrev pub tracks_in : Geometry → ℕ → List ℕ → List (List ℕ)
tracks_in g cylinders all = map (track_in g all) (range_with_len 0 (cylinders * 15))

abbrev pub is_at : Option ℕ → ℕ → Bool
is_at (Some n) m = n == m
is_at None m = false

-- whether bytes come back from a room of this size into which they were put
abbrev pub fits_room : ℕ → List ℕ → Bool
fits_room size bytes = nat_le (length bytes) size && is_at (end_in (padded size bytes)) (length bytes)
