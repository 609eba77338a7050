-- The records of a track, in its bytes and the places where they begin.
use Rattle.std.specs.Prelude.{◌≡◌, ◌≤◌, ◌<◌, ℕ, ◌+◌, List, [], ◌∷◌, length, drop, map, All}
use Rattle.ckd_types.specs.declared.geometry.Cchh.{Cchh}
use Rattle.ckd_types.specs.declared.record.Record.{Record}
use Rattle.ckd_types.specs.declared.geometry.Geometry.{Geometry}
use Rattle.ckd_types.specs.Geometry.{capacity}
use Rattle.ckd_types.specs.Track.{IsRecord, HasZero, cost_of, track_bytes}
use Rattle.track_image.specs.Reading.{count_at, has_areas, size_of}

-- the most bytes of a track: 21 before record 1, 34 for each of 1,729 units, and eight of the end mark
abbrev pub most_bytes : ℕ
most_bytes = 58815

-- the record that stands at the front of bytes
abbrev pub record_from : List ℕ → Record
record_from bytes = has_areas (count_at bytes) (drop 8 bytes)

-- the records that begin at some places of bytes
abbrev pub unpacked : List ℕ → List ℕ → List Record
unpacked bytes places = map (λ (place : ℕ). record_from (drop place bytes)) places

-- where records begin of which the first stands at a place
abbrev pub places_from : ℕ → List Record → List ℕ
places_from at [] = []
places_from at (r ∷ rs) = at ∷ places_from (at + size_of r) rs

-- the bytes are a track with these records, which begin at these places
pub record IsPacked (home : Cchh) (bytes places : List ℕ) (rs : List Record) : Type 0 where
  pub zero : HasZero rs
  pub ranges : All IsRecord rs
  pub bytes_are : bytes ≡ track_bytes (record { home = home; records = rs })
  pub places_are : places ≡ places_from 5 rs
  pub short : length bytes ≤ most_bytes

-- the room that bytes have: for record 0 alone always, and for every track where more records stand
pub record HasRoom (places : List ℕ) (room : ℕ) : Type 0 where
  pub least : 29 ≤ room
  pub most : 1 < length places → most_bytes ≤ room

-- the records that begin at these places of bytes fit together, and these are all places
pub record IsFound (g : Geometry) (bytes places : List ℕ) (spent : ℕ) : Type 0 where
  pub zero : HasZero (unpacked bytes places)
  pub ranges : All IsRecord (unpacked bytes places)
  pub spent_is : spent ≡ cost_of g (unpacked bytes places)
  pub room : spent ≤ capacity g
  pub places_are : places ≡ places_from 5 (unpacked bytes places)
  pub short : length bytes ≤ most_bytes
