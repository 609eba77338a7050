-- What a file tells of itself. A fault is the first field of its head that is wrong or cut, by its offset, or its length.
use Rattle.std.specs.Prelude.{
  ℕ,
  ◌+◌,
  ◌-◌,
  ◌*◌,
  ◌/◌,
  ◌==◌,
  ◌&&◌,
  ◌||◌,
  nat_eq,
  nat_le,
  List,
  length,
  take,
  drop,
  replicate,
  slice_index,
  Result,
  Ok,
  Err,
  if◌then◌else◌,
}
use Rattle.std.specs.List.{starts_with}
use Rattle.ckd_types.specs.declared.geometry.Geometry.{Geometry}
use Rattle.ckd_types.specs.declared.geometry.Geometry.TheVariants.{D3390, D3380}
use Rattle.disk_image.specs.declared.fault.ImageFault.{ImageFault}
use Rattle.disk_image.specs.declared.fault.ImageFault.TheVariants.{BadHead, BadLength, Compressed, Parts}
use Rattle.disk_image.specs.declared.layout.Layout.{Layout}
use Rattle.disk_image.specs.File.{compressed, file_size, heads_bytes, room_size, shadow, signature, size_bytes, type_byte}

infixl 10 ◌>>=◌
abbrev pub ◌>>=◌ : {A B : Type 0} → Result A ImageFault → (A → Result B ImageFault) → Result B ImageFault
(Ok x) >>= f = f x
(Err fault) >>= f = Err fault

-- the model, by the size of a room
abbrev pub model_in : List ℕ → Result Geometry ImageFault
model_in field =
    if starts_with nat_eq (drop 12 field) (size_bytes D3390) then Ok D3390
    else if starts_with nat_eq (drop 12 field) (size_bytes D3380) then Ok D3380
    else Err (BadHead 12)

-- past the end of a field that is cut is 0, and then its length is wrong
abbrev pub rest_in : Geometry → List ℕ → Result Geometry ImageFault
rest_in g field =
    if slice_index field 16 == type_byte g then
    (if (slice_index field 17 == 0) && ((slice_index field 18 == 0) && (slice_index field 19 == 0)) then
    (if (length field == 512) && starts_with nat_eq (drop 20 field) (replicate 492 0) then Ok g else Err (BadHead 20))
    else Err Parts)
    else Err (BadHead 16)

-- the model that a head tells, of which at most its 512 bytes are given
unfoldable pub head_in : List ℕ → Result Geometry ImageFault
head_in field =
    if starts_with nat_eq field compressed || starts_with nat_eq field shadow then Err Compressed
    else if starts_with nat_eq field signature then
    (if starts_with nat_eq (drop 8 field) heads_bytes then model_in field >>= (λ g. rest_in g field) else Err (BadHead 8))
    else Err (BadHead 0)

-- how many cylinders end within so many bytes
abbrev pub cylinders_within : Geometry → ℕ → ℕ
cylinders_within g size = (size - 512) / (15 * room_size g)

-- a file ends with a cylinder, of which it has 1 to 4369
unfoldable pub layout_by : Geometry → ℕ → Result Layout ImageFault
layout_by g size =
    if nat_le 1 (cylinders_within g size) && (nat_le (cylinders_within g size) 4369 && (size == file_size g (cylinders_within g size)))
    then Ok (record { geometry = g; cylinders = cylinders_within g size })
    else Err (BadLength size)

abbrev pub opening : List ℕ → Result Layout ImageFault
opening all = head_in (take 512 all) >>= (λ g. layout_by g (length all))
