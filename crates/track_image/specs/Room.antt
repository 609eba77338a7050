-- Room for a record behind the last one of a track.
use Rattle.std.specs.Prelude.{ℕ, nat_le, if◌then◌else◌}
use Rattle.track_image.specs.Packed.{most_bytes}

-- for how many records there is room in so many bytes and places
abbrev pub room_in : ℕ → ℕ → ℕ
room_in bytes places = if nat_le most_bytes bytes then places else 0
