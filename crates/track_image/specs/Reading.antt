-- Reading the bytes of a track from left to right. A fault is the offset of the first field that is wrong or cut.
use Rattle.std.specs.Prelude.{
  ◌≡◌,
  ◌≤◌,
  ℕ,
  zero,
  suc,
  ◌+◌,
  ◌==◌,
  ◌&&◌,
  nat_eq,
  nat_lt,
  nat_le,
  List,
  ◌∷◌,
  [],
  length,
  take,
  drop,
  slice_index,
  Option,
  Some,
  None,
  Result,
  Ok,
  Err,
  if◌then◌else◌,
}
use Rattle.std.specs.List.{starts_with}
use Rattle.byteorder.specs.Endian.{big_number}
use Rattle.ckd_types.specs.declared.geometry.Cchh.{Cchh}
use Rattle.ckd_types.specs.declared.geometry.Geometry.{Geometry}
use Rattle.ckd_types.specs.declared.record.Record.{Record}
use Rattle.ckd_types.specs.declared.record.Track.{Track}
use Rattle.ckd_types.specs.Geometry.{cost, capacity}
use Rattle.ckd_types.specs.Track.{home_bytes, end_mark}
use Rattle.track_image.specs.declared.count.Count.{Count}
use Rattle.track_image.specs.declared.fault.BytesFault.{BytesFault}
use Rattle.track_image.specs.declared.fault.BytesFault.TheVariants.{BadTrack, NoMemory}

infixl 10 ◌>>=◌
abbrev pub ◌>>=◌ : {A B : Type 0} → Result A ℕ → (A → Result B ℕ) → Result B ℕ
(Ok x) >>= f = f x
(Err at) >>= f = Err at

-- what was read, seen by view, or the same fault
abbrev pub map_ok : {A B : Type 0} → (A → B) → Result A ℕ → Result B ℕ
map_ok view (Ok x) = Ok (view x)
map_ok view (Err at) = Err at

-- What a call gave, seen by view, is what reading gives, unless memory ran out.
abbrev pub Gives : {X Y : Type 0} → (X → Y) → Result X BytesFault → Result Y ℕ → Type 0
Gives view (Ok x) read = read ≡ Ok (view x)
Gives view (Err (BadTrack at)) read = read ≡ Err at
Gives view (Err NoMemory) read = Unit {0}

-- the count area in the first eight bytes
abbrev pub count_at : List ℕ → Count
count_at bytes = record {
  id = record { cchh = record { cc = big_number 2 bytes; hh = big_number 2 (drop 2 bytes) }; r = slice_index bytes 4 };
  key = slice_index bytes 5;
  body = big_number 2 (drop 6 bytes);
}

-- the record with a count area, and then key and data
abbrev pub has_areas : Count → List ℕ → Record
has_areas count bytes = record {
  id = count.id;
  key = take count.key bytes;
  body =
      take count.body (drop count.key bytes);
}

-- key and data, which stand at `at` behind their count area
unfoldable pub areas_at : ℕ → Count → List ℕ → Result Record ℕ
areas_at at count bytes =
    if nat_lt (length bytes) count.key then Err at
    else if nat_lt (length bytes) (count.key + count.body) then Err (at + count.key)
    else Ok (has_areas count bytes)

-- record 0, which has no key and eight bytes of data
unfoldable pub zero_at : ℕ → List ℕ → Result Record ℕ
zero_at at bytes =
    if nat_lt (length bytes) 8 then Err at
    else if ((count_at bytes).key == 0) && ((count_at bytes).body == 8) then areas_at (at + 8) (count_at bytes)
    (drop 8 bytes)
    else Err at

-- the next record, which fits behind those that took `spent` units, or none at the end mark, with nothing behind it
unfoldable pub next_at : Geometry → ℕ → ℕ → List ℕ → Result (Option Record) ℕ
next_at g spent at bytes =
    if nat_lt (length bytes) 8 then Err at
    else if starts_with nat_eq bytes end_mark then (if length bytes == 8 then Ok None else Err (at + 8))
    else if nat_le (spent + cost g (count_at bytes).key (count_at bytes).body) (capacity g) then
    areas_at (at + 8) (count_at bytes) (drop 8 bytes) >>= (λ r. Ok (Some r))
    else Err at

abbrev pub or_end : Option Record → (Record → Result (List Record) ℕ) → Result (List Record) ℕ
or_end None more = Ok []
or_end (Some r) more = more r

-- how many bytes a record has
abbrev pub size_of : Record → ℕ
size_of r = 8 + length r.key + length r.body

-- the records up to the end mark, in at most so many steps
unfoldable pub records_at : ℕ → Geometry → ℕ → ℕ → List ℕ → Result (List Record) ℕ
records_at zero g spent at bytes = Err at
records_at (suc steps) g spent at bytes =
    next_at g spent at bytes >>= (λ next. or_end next (λ r.
    records_at steps g (spent + cost g (length r.key) (length r.body)) (at + size_of r) (drop (size_of r) bytes)
    >>= (λ others. Ok (r ∷ others))))

-- a whole track: no record is shorter than a byte, so there are as many steps as bytes
unfoldable pub reading : Geometry → Cchh → List ℕ → Result Track ℕ
reading g home bytes =
    if starts_with nat_eq bytes (home_bytes home) then
    zero_at 5 (drop 5 bytes) >>= (λ first. records_at (length bytes) g 0 21 (drop 21 bytes)
    >>= (λ others. Ok (record { home = home; records = first ∷ others })))
    else Err 0

-- a record that stands in bytes, and fits behind those that took `spent` units
pub record IsNext (g : Geometry) (spent : ℕ) (bytes : List ℕ) (count : Count) : Type 0 where
  pub here : count ≡ count_at bytes
  pub within : 8 + (count.key + count.body) ≤ length bytes
  pub room : spent + cost g count.key count.body ≤ capacity g
