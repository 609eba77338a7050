-- Reads of one track.
use Rattle.std.specs.Prelude.{ℕ, ◌-◌, ◌==◌, List, [], ◌++◌, length, drop, slice_index_or, Option, None, Some, if◌then◌else◌}
use Rattle.std.specs.List.{flat_map}
use Rattle.ckd_types.specs.declared.channel.Ccw.{Ccw}
use Rattle.ckd_types.specs.declared.command.Read.{Read}
use Rattle.ckd_types.specs.declared.command.ReadArea.{ReadArea}
use Rattle.ckd_types.specs.declared.command.ReadArea.TheVariants as areas
use Rattle.ckd_types.specs.declared.record.Record.{Record}
use Rattle.ckd_types.specs.declared.record.Track.{Track}
use Rattle.ckd_types.specs.declared.status.UnitStatus.{UnitStatus}
use Rattle.ckd_types.specs.Track.{empty_zero, home_bytes, count_area, record_bytes, end_mark}
use Rattle.ckd_rules.specs.declared.stance.Stance.{Stance}
use Rattle.ckd_rules.specs.declared.stance.Place.{Place}
use Rattle.ckd_rules.specs.declared.stance.Place.TheVariants.{Home, Count, Body}
use Rattle.ckd_rules.specs.declared.stance.After.{After}
use Rattle.ckd_rules.specs.declared.stance.After.TheVariants.{Other, IdEqual, KeyEqual, HomeEqual, Found, Wrote}
use Rattle.ckd_rules.specs.declared.finding.Sought.{Sought}
use Rattle.ckd_rules.specs.declared.finding.Sought.TheVariants.{Here, Onward, Nowhere}
use Rattle.ckd_rules.specs.Stance.{one_less}
use Rattle.ckd_rules.specs.Ending.{Outcome, normal, exception, refused, outcome_with, sent_of}
use Rattle.ckd_rules.specs.Looked.{Looked, ends, onward}
use Rattle.ckd_rules.specs.Finding.{next_data, next_key, next_count, zero_from, home_from, if_there, find_on}

abbrev pub record_at : List Record → ℕ → Record
record_at records i = slice_index_or records i (empty_zero 0)

-- the record that a place shows to a read, on a track of n
abbrev pub read_candidate : ℕ → ReadArea → Place → Option ℕ
read_candidate n areas.Home place = home_from place
read_candidate n areas.Zero place = zero_from place
read_candidate n areas.Count place = if_there n (next_count place)
read_candidate n areas.Data place = if_there n (next_data place)
read_candidate n areas.KeyData place = if_there n (next_key place)
read_candidate n areas.CountKeyData place = if_there n (next_count place)
read_candidate n areas.Multiple place = if_there n (next_count place)
read_candidate n areas.Track place = Some 0

-- the bytes that it reads, of record i or from it on
abbrev pub read_bytes : Track → ReadArea → ℕ → List ℕ
read_bytes t areas.Home i = home_bytes t.home
read_bytes t areas.Zero i = count_area (record_at t.records i) ++ (record_at t.records i).body
read_bytes t areas.Count i = count_area (record_at t.records i)
read_bytes t areas.Data i = (record_at t.records i).body
read_bytes t areas.KeyData i = (record_at t.records i).key ++ (record_at t.records i).body
read_bytes t areas.CountKeyData i = record_bytes (record_at t.records i)
read_bytes t areas.Multiple i = flat_map record_bytes (drop i t.records)
read_bytes t areas.Track i = flat_map record_bytes t.records ++ end_mark

abbrev pub read_place : ℕ → ReadArea → ℕ → Place
read_place n areas.Home i = Home
read_place n areas.Count i = Count i
read_place n areas.Multiple i = Body (n - 1)
read_place n areas.Track i = Body (n - 1)
read_place n _ i = Body i

-- read count and read record 0 leave the passes of the index as they are
abbrev pub read_passes : ReadArea → ℕ → ℕ
read_passes areas.Zero passes = passes
read_passes areas.Count passes = passes
read_passes _ passes = 0

-- a read of data behind a record that was found or written
abbrev pub found_after : After → After
found_after IdEqual = Found
found_after KeyEqual = Found
found_after Found = Found
found_after Wrote = Found
found_after Other = Other
found_after HomeEqual = Other

abbrev pub read_after : ReadArea → After → After
read_after areas.Data after = found_after after
read_after areas.KeyData after = found_after after
read_after _ after = Other

-- a record without data is an end of file
abbrev pub status_of : List ℕ → UnitStatus
status_of body = if length body == 0 then exception else normal

-- which the other reads of it do not tell
abbrev pub read_status : ReadArea → List ℕ → UnitStatus
read_status areas.Data body = status_of body
read_status areas.KeyData body = status_of body
read_status _ body = normal

abbrev pub read_stance : ℕ → ReadArea → Stance → ℕ → ℕ → Stance
read_stance n area s i passes = one_less (record s { place = read_place n area i; passes = read_passes area passes; after = read_after area s.after })

-- record i was read, or the track from it on
abbrev pub read_ended : Track → ReadArea → Stance → Ccw → ℕ → ℕ → Outcome
read_ended t area s c i passes =
    outcome_with (read_stance (length t.records) area s i passes) c (length (read_bytes t area i))
    (read_status area (record_at t.records i).body) (sent_of c (read_bytes t area i))

abbrev pub read_sought : Track → ReadArea → Stance → Ccw → Sought → Looked
read_sought t area s c (Here i passes) = ends (read_ended t area s c i passes)
read_sought t area s c (Onward u) = onward s u
read_sought t area s c (Nowhere sense) = ends (refused s c sense)

abbrev pub read_on : Track → Stance → Ccw → Read → Looked
read_on t s c r = read_sought t r.area s c (find_on r.multitrack s (length t.records) (read_candidate (length t.records) r.area))
