-- Where a track is, and how much of it a record takes.
use Rattle.std.specs.Prelude.{ℕ, ◌+◌, ◌-◌, ◌*◌, ◌/◌, ◌%◌, ◌==◌, ◌&&◌, nat_lt, Option, Some, None, if◌then◌else◌}
use Rattle.ckd_types.specs.declared.geometry.Cchh.{Cchh}
use Rattle.ckd_types.specs.declared.geometry.Geometry.{Geometry}
use Rattle.ckd_types.specs.declared.geometry.Geometry.TheVariants.{D3390, D3380}

-- fifteen tracks a cylinder
abbrev pub cchh_of : ℕ → Cchh
cchh_of t = record { cc = t / 15; hh = t % 15 }

-- the track at a cylinder and head of a device with this many cylinders
abbrev pub track_at : ℕ → Cchh → Option ℕ
track_at cylinders p = if nat_lt p.hh 15 && nat_lt p.cc cylinders then Some (p.cc * 15 + p.hh) else None

-- how many pieces of d hold n
abbrev pub ceiling : ℕ → ℕ → ℕ
ceiling n d = (n + (d - 1)) / d

-- the units that a record's count area and data take
abbrev pub data_units : Geometry → ℕ → ℕ
data_units D3390 body = 19 + ceiling (body + 6 * (ceiling (body + 6) 232 + 1)) 34
data_units D3380 body = 15 + ceiling (body + 12) 32

-- the units that a key adds
abbrev pub key_units : Geometry → ℕ → ℕ
key_units D3390 key = 9 + ceiling (key + 6 * (ceiling (key + 6) 232 + 1)) 34
key_units D3380 key = 7 + ceiling (key + 12) 32

-- the units that a record takes, by the lengths of its key and its data
abbrev pub cost : Geometry → ℕ → ℕ → ℕ
cost g key body = if key == 0 then data_units g body else data_units g body + key_units g key

-- the units of a track
abbrev pub capacity : Geometry → ℕ
capacity D3390 = 1729
capacity D3380 = 1499
