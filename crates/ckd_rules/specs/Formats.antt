-- Formats of one track: a new record, and nothing behind it.
use Rattle.std.specs.Prelude.{ℕ, ◌+◌, ◌==◌, ◌&&◌, nat_le, Bool, List, [], take, length, slice_index, if◌then◌else◌}
use Rattle.ckd_types.specs.declared.channel.Ccw.{Ccw}
use Rattle.ckd_types.specs.declared.geometry.Geometry.{Geometry}
use Rattle.ckd_types.specs.declared.record.Record.{Record}
use Rattle.ckd_types.specs.declared.record.Track.{Track}
use Rattle.ckd_types.specs.declared.record.Edit.TheVariants.{Format, Zero}
use Rattle.ckd_types.specs.Geometry.{cost, capacity}
use Rattle.ckd_types.specs.Parameters.{number_at, cchh_at}
use Rattle.ckd_types.specs.Sense.{track_format_sense}
use Rattle.ckd_types.specs.Track.{cost_of}
use Rattle.ckd_rules.specs.declared.stance.Stance.{Stance}
use Rattle.ckd_rules.specs.declared.stance.Place.TheVariants.{Body}
use Rattle.ckd_rules.specs.declared.stance.After.{After}
use Rattle.ckd_rules.specs.declared.stance.After.TheVariants.{Wrote}
use Rattle.ckd_rules.specs.Area.{given_at}
use Rattle.ckd_rules.specs.Stance.{one_less}
use Rattle.ckd_rules.specs.Ending.{Outcome, normal, refused, outcome_with}
use Rattle.ckd_rules.specs.Looked.{Looked, ends, edits}
use Rattle.ckd_rules.specs.Finding.{place_on, record_of}

-- the first eight bytes are the new count area: an id, and the lengths of key and data
abbrev pub count_given : Ccw → List ℕ
count_given c = given_at 0 8 c

abbrev pub key_given : Ccw → ℕ
key_given c = slice_index (count_given c) 5

abbrev pub body_given : Ccw → ℕ
body_given c = number_at (count_given c) 6

abbrev pub record_given : Ccw → Record
record_given c = record {
  id = record { cchh = cchh_at (count_given c) 0; r = slice_index (count_given c) 4 };
  key = given_at 8 (key_given c) c;
  body = given_at (8 + key_given c) (body_given c) c;
}

-- the capacity holds records 1 to i and one more behind them. None of 65,535 bytes of data does
abbrev pub has_room_behind : Geometry → List Record → ℕ → ℕ → ℕ → Bool
has_room_behind g records i key body = nat_le (cost_of g (take (i + 1) records) + cost g key body) (capacity g)

-- record i is the new one
abbrev pub format_ended : After → Stance → Ccw → ℕ → ℕ → Outcome
format_ended after s c i area = outcome_with (one_less (record s { place = Body i; passes = 0; after = after })) c area normal []

-- the new record stands behind record i
abbrev pub format_behind : Geometry → List Record → After → Stance → Ccw → ℕ → Looked
format_behind g records after s c i =
    if has_room_behind g records i (key_given c) (body_given c) then
    edits (Format i (record_given c)) (format_ended after s c (i + 1) (8 + key_given c + body_given c))
    else ends (refused s c track_format_sense)

abbrev pub format_on : Geometry → Track → Stance → Ccw → Looked
format_on g t s c = format_behind g t.records Wrote s c (record_of (place_on (length t.records) s.place))

-- record 0 has no key and eight bytes of data
abbrev pub is_zero_given : Ccw → Bool
is_zero_given c = (key_given c == 0) && (body_given c == 8)

abbrev pub zero_on : Stance → Ccw → Looked
zero_on s c =
    if is_zero_given c then edits (Zero (record_given c)) (format_ended Wrote s c 0 16)
    else ends (refused s c track_format_sense)
