-- A track: where it is, and its records, record 0 first.
use Rattle.std.specs.Prelude.{◌≡◌, ℕ, ◌/◌, ◌%◌, ◌^◌, ◌==◌, ◌&&◌, ◌≤◌, ◌<◌, Bool, List, [], ◌∷◌, ◌++◌, length, drop, replicate, sum_by, position, All, Option}
use Rattle.std.specs.List.{flat_map}
use Rattle.ckd_types.specs.declared.geometry.Cchh.{Cchh}
use Rattle.ckd_types.specs.declared.geometry.Geometry.{Geometry}
use Rattle.ckd_types.specs.declared.record.RecId.{RecId}
use Rattle.ckd_types.specs.declared.record.Record.{Record}
use Rattle.ckd_types.specs.declared.record.Track.{Track}
use Rattle.ckd_types.specs.Geometry.{cchh_of, cost, capacity}

-- whether two ids are the same five bytes
abbrev pub is_same_id : RecId → RecId → Bool
is_same_id a b = (a.cchh.cc == b.cchh.cc) && (a.cchh.hh == b.cchh.hh) && (a.r == b.r)

-- the index of the first record with an id
abbrev pub find_id : RecId → List Record → Option ℕ
find_id id records = position (λ (record' : Record). is_same_id record'.id id) records

-- record 0 of an empty track: eight zero bytes
abbrev pub empty_zero : ℕ → Record
empty_zero t = record { id = record { cchh = cchh_of t; r = 0 }; key = []; body = replicate 8 0 }

-- an empty track has record 0 alone
abbrev pub empty_track : ℕ → Track
empty_track t = record { home = cchh_of t; records = empty_zero t ∷ [] }

-- a cylinder and a head are two bytes each
pub record IsCchh (p : Cchh) : Type 0 where
  pub cc : p.cc < 2 ^ 16
  pub hh : p.hh < 2 ^ 16

-- the ranges of an id, and the lengths that a record may have
pub record IsRecord (r : Record) : Type 0 where
  pub cchh : IsCchh r.id.cchh
  pub number : r.id.r < 2 ^ 8
  pub key : length r.key ≤ 255
  pub body : length r.body ≤ 65534

-- there is a record 0, which has no key and eight bytes of data
abbrev pub HasZero : List Record → Type 0
HasZero [] = ⊥
HasZero (r ∷ rest) = (r.key ≡ []) × (length r.body ≡ 8)

-- the units that the records behind record 0 take
abbrev pub cost_of : Geometry → List Record → ℕ
cost_of g records = sum_by (λ (r : Record). cost g (length r.key) (length r.body)) (drop 1 records)

-- a track that a volume of this geometry can hold
pub record Fits (g : Geometry) (t : Track) : Type 0 where
  pub home : IsCchh t.home
  pub zero : HasZero t.records
  pub records : All IsRecord t.records
  pub cost : cost_of g t.records ≤ capacity g

-- two bytes, the high one first
abbrev pub two_bytes : ℕ → List ℕ
two_bytes n = n / 256 % 256 ∷ n % 256 ∷ []

abbrev pub cchh_bytes : Cchh → List ℕ
cchh_bytes p = two_bytes p.cc ++ two_bytes p.hh

-- the home address: a flag of 00, and where the track is
abbrev pub home_bytes : Cchh → List ℕ
home_bytes p = 0 ∷ cchh_bytes p

-- an id, and the lengths of key and data
abbrev pub count_area : Record → List ℕ
count_area r = cchh_bytes r.id.cchh ++ r.id.r ∷ length r.key ∷ two_bytes (length r.body)

abbrev pub record_bytes : Record → List ℕ
record_bytes r = count_area r ++ r.key ++ r.body

-- a count area of eight FF ends a track
abbrev pub end_mark : List ℕ
end_mark = replicate 8 0xff

-- the bytes of a track, as a volume holds them
abbrev pub track_bytes : Track → List ℕ
track_bytes t = home_bytes t.home ++ flat_map record_bytes t.records ++ end_mark
