-- The image of a track: the geometry of its volume, and a track that fits it.
use Rattle.std.specs.Prelude.{ℕ, ◌+◌, nat_le, Bool, take, slice_index_or}
use Rattle.ckd_types.specs.declared.geometry.Geometry.{Geometry}
use Rattle.ckd_types.specs.declared.record.Record.{Record}
use Rattle.ckd_types.specs.declared.record.Track.{Track}
use Rattle.ckd_types.specs.declared.record.Edit.{Edit}
use Rattle.ckd_types.specs.Geometry.{cost, capacity}
use Rattle.ckd_types.specs.Track.{cost_of, empty_zero}
use Rattle.ckd_types.specs.Edit.{apply_edit}

pub record Image : Type 0 where
  pub geometry : Geometry
  pub track : Track

-- the record at a place, which is below their number
abbrev pub record_in : Image → ℕ → Record
record_in i place = slice_index_or i.track.records place (empty_zero 0)

-- the image after an edit of its track
abbrev pub edited_image : Edit → Image → Image
edited_image e i = record i { track = apply_edit e i.track }

-- whether a record with a key and data of these lengths fits behind a record
abbrev pub is_room_behind : Image → ℕ → ℕ → ℕ → Bool
is_room_behind i after key body =
    nat_le (cost_of i.geometry (take (after + 1) i.track.records) + cost i.geometry key body) (capacity i.geometry)
