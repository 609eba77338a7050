-- What the parameter bytes of seeks, define extent and locate record mean.
use Rattle.std.specs.Prelude.{
  ℕ,
  ◌+◌,
  ◌*◌,
  ◌-◌,
  ◌/◌,
  ◌==◌,
  ◌&&◌,
  ◌||◌,
  not,
  is_some,
  nat_lt,
  nat_le,
  Bool,
  true,
  false,
  List,
  ◌++◌,
  take,
  replicate,
  length,
  slice_index,
  Option,
  None,
  Some,
  Result,
  Ok,
  Err,
  if◌then◌else◌,
}
use Rattle.std.specs.Int.RustNames.{bit_and}
use Rattle.ckd_types.specs.declared.geometry.Cchh.{Cchh}
use Rattle.ckd_types.specs.declared.channel.Ccw.{Ccw}
use Rattle.ckd_types.specs.declared.parameters.Mode.{Mode}
use Rattle.ckd_types.specs.declared.parameters.Mode.TheVariants.{Normal, Bypass, InhibitLoad, Sequential}
use Rattle.ckd_types.specs.declared.parameters.Extent.{Extent}
use Rattle.ckd_types.specs.declared.parameters.Orientation.{Orientation}
use Rattle.ckd_types.specs.declared.parameters.Orientation.TheVariants.{Count, Home, Body, Index}
use Rattle.ckd_types.specs.declared.parameters.Operation.{Operation}
use Rattle.ckd_types.specs.declared.parameters.Operation.TheVariants.{Orient, WriteData, Format, ReadData, ReadTracks, Read}
use Rattle.ckd_types.specs.declared.parameters.Domain.{Domain}
use Rattle.ckd_types.specs.declared.parameters.ParamFault.{ParamFault}
use Rattle.ckd_types.specs.declared.parameters.ParamFault.TheVariants.{Short, BadMask, BadMode, BadOperation, BadCount, BadAux, BadRange}
use Rattle.ckd_types.specs.Geometry.{track_at}
use Rattle.ckd_types.specs.Mask.{is_mask}

-- the first n bytes that a word gives: those that are missing up to its count are zeros
abbrev pub given : ℕ → Ccw → List ℕ
given n c = take n c.given ++ replicate (n - length c.given) 0

-- two bytes, the high one first
abbrev pub number_at : List ℕ → ℕ → ℕ
number_at bytes i = slice_index bytes i * 256 + slice_index bytes (i + 1)

abbrev pub cchh_at : List ℕ → ℕ → Cchh
cchh_at bytes i = record { cc = number_at bytes i; hh = number_at bytes (i + 2) }

-- seek and seek cylinder go where their bytes say
abbrev pub seek_to : ℕ → List ℕ → Option ℕ
seek_to cylinders bytes = if number_at bytes 0 == 0 then track_at cylinders (cchh_at bytes 2) else None

-- seek head goes to a head of the cylinder at hand; the cylinder that it is given is not looked at
abbrev pub head_to : ℕ → List ℕ → Option ℕ
head_to track bytes = if (number_at bytes 0 == 0) && nat_lt (number_at bytes 4) 15 then Some (track / 15 * 15 + number_at bytes 4) else None

-- bits 3 to 5 of the second byte of define extent
abbrev pub mode_of : ℕ → Option Mode
mode_of n =
    if n == 0 then Some Normal
    else if n == 1 then Some Bypass
    else if n == 2 then Some InhibitLoad
    else if n == 3 then Some Sequential
    else None

-- bits 0 and 1 are set, and bits 3 to 5 are a mode
abbrev pub attributes_mode : ℕ → Option Mode
attributes_mode byte = if not (bit_and byte 0xc0 == 0xc0) then None else mode_of (bit_and byte 0x1c / 4)

-- with bit 6 of the second byte, bytes 4 and 5 are the number of cache fast write data
abbrev pub extent_number : List ℕ → Option ℕ
extent_number bytes = if bit_and (slice_index bytes 1) 2 == 0 then None else Some (number_at bytes 4)

-- from the first to the last track
abbrev pub ranged_extent : ℕ → Mode → Bool → Option ℕ → Option ℕ → Option ℕ → Result Extent ParamFault
ranged_extent mask mode inhibit number (Some first) (Some last) =
    if nat_le first last then
    Ok (record { mask = mask; mode = mode; inhibit_fast = inhibit; number = number; first = first; last = last })
    else Err BadRange
ranged_extent mask mode inhibit number (Some first) None = Err BadRange
ranged_extent mask mode inhibit number None last = Err BadRange

abbrev pub moded_extent : ℕ → List ℕ → Option Mode → Result Extent ParamFault
moded_extent cylinders bytes (Some mode) =
    ranged_extent (slice_index bytes 0) mode (not (bit_and (slice_index bytes 1) 1 == 0)) (extent_number bytes)
    (track_at cylinders (cchh_at bytes 8)) (track_at cylinders (cchh_at bytes 12))
moded_extent cylinders bytes None = Err BadMode

-- the parameters of define extent on a device with this many cylinders
abbrev pub extent_of : ℕ → List ℕ → Result Extent ParamFault
extent_of cylinders bytes =
    if nat_lt (length bytes) 16 then Err Short
    else if not (is_mask (slice_index bytes 0)) then Err BadMask
    else moded_extent cylinders bytes (attributes_mode (slice_index bytes 1))

abbrev pub is_bypass : Mode → Bool
is_bypass Bypass = true
is_bypass _ = false

-- writes under the extent may live in the cache alone
abbrev pub is_provisional : Option Extent → Bool
is_provisional None = false
is_provisional (Some e) = is_some e.number && not (is_bypass e.mode)

-- bits 0 and 1 of the first byte of locate record
abbrev pub orientation_of : ℕ → Orientation
orientation_of n = if n == 0 then Count else if n == 1 then Home else if n == 2 then Body else Index

-- the low six bits of the first byte of locate record
abbrev pub operation_of : ℕ → Option Operation
operation_of n =
    if n == 0x00 then Some Orient
    else if n == 0x01 then Some WriteData
    else if n == 0x03 then Some Format
    else if n == 0x06 then Some ReadData
    else if n == 0x0c then Some ReadTracks
    else if n == 0x16 then Some Read
    else None

abbrev pub operation_code : Operation → ℕ
operation_code Orient = 0x00
operation_code WriteData = 0x01
operation_code Format = 0x03
operation_code ReadData = 0x06
operation_code ReadTracks = 0x0c
operation_code Read = 0x16

abbrev pub is_orient : Operation → Bool
is_orient Orient = true
is_orient WriteData = false
is_orient Format = false
is_orient ReadData = false
is_orient ReadTracks = false
is_orient Read = false

abbrev pub sought_domain : List ℕ → Operation → Option ℕ → Result Domain ParamFault
sought_domain bytes operation (Some seek) = Ok (record {
  orientation = orientation_of (slice_index bytes 0 / 64);
  operation = operation;
  count = slice_index bytes 3;
  seek = seek;
  search = record { cchh = cchh_at bytes 8; r = slice_index bytes 12 };
})
sought_domain bytes operation None = Err BadRange

-- orient has count 0, and every other operation another
abbrev pub is_bad_count : Operation → ℕ → Bool
is_bad_count operation count = if is_orient operation then not (count == 0) else count == 0

-- of byte 1 only bit 0 may be set, and byte 2 is zero
abbrev pub operated_domain : ℕ → List ℕ → Option Operation → Result Domain ParamFault
operated_domain cylinders bytes (Some operation) =
    if is_bad_count operation (slice_index bytes 3) then Err BadCount
    else if not (bit_and (slice_index bytes 1) 0x7f == 0) || not (slice_index bytes 2 == 0) then Err BadAux
    else sought_domain bytes operation (track_at cylinders (cchh_at bytes 4))
operated_domain cylinders bytes None = Err BadOperation

-- the parameters of locate record on a device with this many cylinders
abbrev pub domain_of : ℕ → List ℕ → Result Domain ParamFault
domain_of cylinders bytes =
    if nat_lt (length bytes) 16 then Err Short
    else operated_domain cylinders bytes (operation_of (bit_and (slice_index bytes 0) 0x3f))
