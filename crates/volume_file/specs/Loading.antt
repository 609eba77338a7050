-- Loading a file from left to right. A fault is the first field that is wrong or cut, by its offset in the file.
use Rattle.std.specs.Prelude.{
  ℕ,
  zero,
  suc,
  ◌+◌,
  ◌*◌,
  ◌==◌,
  ◌&&◌,
  nat_eq,
  nat_lt,
  nat_le,
  List,
  [],
  ◌∷◌,
  length,
  take,
  drop,
  slice_index,
  Result,
  Ok,
  Err,
  if◌then◌else◌,
}
use Rattle.std.specs.List.{starts_with}
use Rattle.byteorder.specs.Endian.{big_number}
use Rattle.ckd_types.specs.declared.geometry.Geometry.{Geometry}
use Rattle.ckd_types.specs.declared.geometry.Geometry.TheVariants.{D3390, D3380}
use Rattle.ckd_types.specs.declared.record.Track.{Track}
use Rattle.ckd_types.specs.Geometry.{cchh_of}
use Rattle.track_image.specs.Image.{Image}
use Rattle.track_image.specs.Packed.{most_bytes}
use Rattle.track_image.specs.Reading.{reading}
use Rattle.volume_file.specs.declared.fault.LoadFault.{LoadFault}
use Rattle.volume_file.specs.declared.fault.LoadFault.TheVariants.{BadHead, BadTrack, Trailing}
use Rattle.volume_file.specs.declared.head.Head.{Head}
use Rattle.volume_file.specs.File.{ImageVolume, signature, track_part}

infixl 10 ◌>>=◌
abbrev pub ◌>>=◌ : {A B E : Type 0} → Result A E → (A → Result B E) → Result B E
(Ok x) >>= f = f x
(Err fault) >>= f = Err fault

abbrev pub model_in : ℕ → Result Geometry LoadFault
model_in b = if b == 1 then Ok D3390 else if b == 2 then Ok D3380 else Err (BadHead 8)

abbrev pub cylinders_in : ℕ → Result ℕ LoadFault
cylinders_in n = if nat_le 1 n && nat_le n 64 then Ok n else Err (BadHead 9)

-- the head, in at most twelve bytes; past their end is 0, which is no model and no number of cylinders
unfoldable pub head_in : List ℕ → Result Head LoadFault
head_in field =
    if starts_with nat_eq field signature then
    model_in (slice_index field 8) >>= (λ g. cylinders_in (slice_index field 9) >>= (λ n.
    if (length field == 12) && (slice_index field 10 == 0) && (slice_index field 11 == 0)
    then Ok (record { geometry = g; cylinders = n })
    else Err (BadHead 10)))
    else Err (BadHead 0)

-- a file begins with its head
abbrev pub head_at : List ℕ → Result Head LoadFault
head_at bytes = head_in (take 12 bytes)

-- the length of a track's bytes, in at most four bytes that stand at an offset; no track has more than 58,815
unfoldable pub length_in : ℕ → ℕ → List ℕ → Result ℕ LoadFault
length_in t at field =
    if nat_lt (length field) 4 then Err (BadTrack t at)
    else if nat_lt most_bytes (big_number 4 field) then Err (BadTrack t at)
    else Ok (big_number 4 field)

-- what was read of a track's bytes; where that is a track and the file ends within the bytes, the next byte is missing
abbrev pub image_by : Geometry → ℕ → ℕ → ℕ → ℕ → Result Track ℕ → Result Image LoadFault
image_by g t at size found (Err offset) = Err (BadTrack t (at + offset))
image_by g t at size found (Ok track) = if nat_lt found size then Err (BadTrack t (at + found)) else Ok (record { geometry = g; track = track })

-- the image of track t, whose bytes stand at an offset
unfoldable pub image_at : Geometry → ℕ → ℕ → ℕ → List ℕ → Result Image LoadFault
image_at g t at size field = image_by g t at size (length field) (reading g (cchh_of t) field)

-- a track: its length, and then its bytes
unfoldable pub track_at : Geometry → ℕ → ℕ → List ℕ → Result Image LoadFault
track_at g t at bytes = length_in t at (take 4 bytes) >>= (λ size. image_at g t (at + 4) size (take size (drop 4 bytes)))

-- the end of the file
abbrev pub end_at : ℕ → List ℕ → Result (List Image) LoadFault
end_at at [] = Ok []
end_at at (b ∷ bytes) = Err (Trailing at)

-- so many tracks from track t on, and then the end
unfoldable pub tracks_at : ℕ → Geometry → ℕ → ℕ → List ℕ → Result (List Image) LoadFault
tracks_at zero g t at bytes = end_at at bytes
tracks_at (suc n) g t at bytes =
    track_at g t at bytes >>= (λ i.
    tracks_at n g (t + 1) (at + length (track_part i)) (drop (length (track_part i)) bytes) >>= (λ others. Ok (i ∷ others)))

-- the volume of a file
unfoldable pub loading : List ℕ → Result ImageVolume LoadFault
loading bytes =
    head_at bytes >>= (λ h.
    tracks_at (h.cylinders * 15) h.geometry 0 12 (drop 12 bytes) >>= (λ images.
    Ok (record { geometry = h.geometry; cylinders = h.cylinders; images = images })))
