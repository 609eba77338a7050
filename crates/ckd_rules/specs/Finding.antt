-- How a command finds its record, from the place on its track.
use Rattle.std.specs.Prelude.{ℕ, ◌+◌, ◌-◌, ◌%◌, ◌==◌, ◌&&◌, not, is_some, nat_lt, nat_le, Bool, Option, None, Some, Result, Ok, Err, if◌then◌else◌}
use Rattle.ckd_types.specs.declared.parameters.Extent.{Extent}
use Rattle.ckd_types.specs.declared.sense.Sense.{Sense}
use Rattle.ckd_types.specs.Mask.{permits_move}
use Rattle.ckd_types.specs.Sense.{no_record_sense, end_of_cylinder_sense, file_protected_sense}
use Rattle.ckd_rules.specs.declared.stance.Place.{Place}
use Rattle.ckd_rules.specs.declared.stance.Place.TheVariants.{Index, Home, Count, Key, Body}
use Rattle.ckd_rules.specs.declared.stance.Stance.{Stance}
use Rattle.ckd_rules.specs.declared.finding.Sought.{Sought}
use Rattle.ckd_rules.specs.declared.finding.Sought.TheVariants.{Here, Onward, Nowhere}

-- on a track of n records, a place behind records that are not there counts as the data of the last
abbrev pub kept_place : ℕ → ℕ → Place → Place
kept_place n i place = if nat_lt i n then place else Body (n - 1)

abbrev pub place_on : ℕ → Place → Place
place_on n Index = Index
place_on n Home = Home
place_on n (Count i) = kept_place n i (Count i)
place_on n (Key i) = kept_place n i (Key i)
place_on n (Body i) = kept_place n i (Body i)

-- the record that a place is at; the index and the home address are before record 0
abbrev pub record_of : Place → ℕ
record_of Index = 0
record_of Home = 0
record_of (Count i) = i
record_of (Key i) = i
record_of (Body i) = i

-- the record whose id comes next
abbrev pub next_id : Place → ℕ
next_id Index = 0
next_id Home = 0
next_id (Count i) = i + 1
next_id (Key i) = i + 1
next_id (Body i) = i + 1

-- the record whose count area comes next; record 0 has reads of its own
abbrev pub next_count : Place → ℕ
next_count Index = 1
next_count Home = 1
next_count (Count i) = i + 1
next_count (Key i) = i + 1
next_count (Body i) = i + 1

-- the record whose key comes next
abbrev pub next_key : Place → ℕ
next_key Index = 1
next_key Home = 1
next_key (Count i) = i
next_key (Key i) = i + 1
next_key (Body i) = i + 1

-- the record whose data comes next
abbrev pub next_data : Place → ℕ
next_data Index = 1
next_data Home = 1
next_data (Count i) = i
next_data (Key i) = i
next_data (Body i) = i + 1

-- record 0, which only a place before it shows
abbrev pub zero_from : Place → Option ℕ
zero_from Index = Some 0
zero_from Home = Some 0
zero_from (Count i) = None
zero_from (Key i) = None
zero_from (Body i) = None

-- the home address, which only the index shows
abbrev pub home_from : Place → Option ℕ
home_from Index = Some 0
home_from Home = None
home_from (Count i) = None
home_from (Key i) = None
home_from (Body i) = None

-- record i, where there are more
abbrev pub if_there : ℕ → ℕ → Option ℕ
if_there n i = if nat_lt i n then Some i else None

-- the track behind this one: in the cylinder, or where there is an extent up to its last track
abbrev pub track_after : Option Extent → ℕ → Result ℕ Sense
track_after None t = if t % 15 == 14 then Err end_of_cylinder_sense else Ok (t + 1)
track_after (Some e) t = if nat_le e.last t then Err file_protected_sense else Ok (t + 1)

-- a mask that forbids moves is checked first
abbrev pub next_track : Stance → Result ℕ Sense
next_track s =
    if not (is_some s.domain) && not (permits_move s.mask) then Err file_protected_sense
    else track_after s.extent s.track

abbrev pub moves_on : Result ℕ Sense → Sought
moves_on (Ok t) = Onward t
moves_on (Err sense) = Nowhere sense

-- from the index of the same track once more
abbrev pub from_index : ℕ → Option ℕ → Sought
from_index passes (Some i) = Here i passes
from_index passes None = Nowhere no_record_sense

-- a multitrack command goes on to the next track; any other passes the index, and the second time finds nothing
abbrev pub search_missed : Bool → Stance → Option ℕ → Sought
search_missed multitrack s again =
    if multitrack then moves_on (next_track s)
    else if nat_le 1 s.passes then Nowhere no_record_sense
    else from_index (s.passes + 1) again

-- the candidate from the place, or else the one from the index
abbrev pub find_from : Bool → Stance → Option ℕ → Option ℕ → Sought
find_from multitrack s (Some i) again = Here i s.passes
find_from multitrack s None again = search_missed multitrack s again

-- where a command finds its record, by the candidate that a place shows it
abbrev pub find_on : Bool → Stance → ℕ → (Place → Option ℕ) → Sought
find_on multitrack s n candidate = find_from multitrack s (candidate (place_on n s.place)) (candidate Index)
