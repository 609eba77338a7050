-- Whether records fit on a track, as a test.
use Rattle.std.specs.Prelude.{ℕ, ◌+◌, ◌==◌, ◌&&◌, nat_le, nat_lt, sum_by, Bool, false, List, [], ◌∷◌, length}
use Rattle.std.specs.List.{list_all}
use Rattle.ckd_types.specs.declared.geometry.Geometry.{Geometry}
use Rattle.ckd_types.specs.declared.record.RecId.{RecId}
use Rattle.ckd_types.specs.declared.record.Record.{Record}
use Rattle.ckd_types.specs.Geometry.{cost, capacity}
use Rattle.ckd_types.specs.Track.{cost_of}

-- the ranges of an id
abbrev pub is_id : RecId → Bool
is_id id = nat_lt id.cchh.cc 65536 && (nat_lt id.cchh.hh 65536 && nat_lt id.r 256)

abbrev pub is_record : Record → Bool
is_record r = is_id r.id && (nat_le (length r.key) 255 && nat_le (length r.body) 65534)

-- the lengths of a record 0
abbrev pub is_zero : Record → Bool
is_zero r = (length r.key == 0) && (length r.body == 8)

abbrev pub has_zero : List Record → Bool
has_zero [] = false
has_zero (r ∷ rest) = is_zero r

abbrev pub is_fit : Geometry → List Record → Bool
is_fit g records = has_zero records && (list_all is_record records && nat_le (cost_of g records) (capacity g))

-- records fit behind others that take some units
abbrev pub fit_units : Geometry → ℕ → List Record → Bool
fit_units g spent records = list_all is_record records && nat_le
    (spent + sum_by (λ r. cost g (length r.key) (length r.body)) records) (capacity g)
