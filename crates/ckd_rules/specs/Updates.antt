-- Updates of a record on one track: of its data, or of its key and data.
use Rattle.std.specs.Prelude.{ℕ, ◌+◌, ◌==◌, Bool, List, [], length, if◌then◌else◌}
use Rattle.ckd_types.specs.declared.channel.Ccw.{Ccw}
use Rattle.ckd_types.specs.declared.record.Record.{Record}
use Rattle.ckd_types.specs.declared.record.Track.{Track}
use Rattle.ckd_types.specs.declared.record.Edit.TheVariants.{Update}
use Rattle.ckd_rules.specs.declared.stance.Stance.{Stance}
use Rattle.ckd_rules.specs.declared.stance.Place.{Place}
use Rattle.ckd_rules.specs.declared.stance.Place.TheVariants.{Body}
use Rattle.ckd_rules.specs.declared.stance.After.{After}
use Rattle.ckd_rules.specs.declared.stance.After.TheVariants.{Other, Wrote}
use Rattle.ckd_rules.specs.declared.finding.Sought.{Sought}
use Rattle.ckd_rules.specs.declared.finding.Sought.TheVariants.{Here, Onward, Nowhere}
use Rattle.ckd_rules.specs.Area.{given_at}
use Rattle.ckd_rules.specs.Stance.{one_less}
use Rattle.ckd_rules.specs.Ending.{Outcome, refused, outcome_with}
use Rattle.ckd_rules.specs.Looked.{Looked, ends, onward, edits}
use Rattle.ckd_rules.specs.Finding.{place_on, next_data, next_key, if_there, find_from}
use Rattle.ckd_rules.specs.Reads.{record_at, status_of}

abbrev pub next_area : Bool → Place → ℕ
next_area with_key place = if with_key then next_key place else next_data place

-- in a domain every update is an update write, which no format follows
abbrev pub after_update : Bool → After
after_update in_domain = if in_domain then Other else Wrote

-- record i was written, or is an end of file
abbrev pub update_ended : Bool → Stance → Ccw → ℕ → List ℕ → ℕ → Outcome
update_ended in_domain s c i body area =
    outcome_with (one_less (record s { place = Body i; passes = 0; after = after_update in_domain })) c area (status_of body) []

-- an end of file has no data to write
abbrev pub update_data : Bool → Stance → Ccw → ℕ → Record → Looked
update_data in_domain s c i r =
    if length r.body == 0 then ends (update_ended in_domain s c i r.body 0)
    else edits (Update i r.key (given_at 0 (length r.body) c)) (update_ended in_domain s c i r.body (length r.body))

-- also the key of an end of file
abbrev pub update_key_data : Bool → Stance → Ccw → ℕ → Record → Looked
update_key_data in_domain s c i r =
    edits (Update i (given_at 0 (length r.key) c) (given_at (length r.key) (length r.body) c))
    (update_ended in_domain s c i r.body (length r.key + length r.body))

abbrev pub update_record : Bool → Bool → Stance → Ccw → ℕ → Record → Looked
update_record with_key in_domain s c i r = if with_key then update_key_data in_domain s c i r else update_data in_domain s c i r

abbrev pub update_sought : Bool → Bool → List Record → Stance → Ccw → Sought → Looked
update_sought with_key in_domain records s c (Here i passes) = update_record with_key in_domain s c i (record_at records i)
update_sought with_key in_domain records s c (Onward t) = onward s t
update_sought with_key in_domain records s c (Nowhere sense) = ends (refused s c sense)

abbrev pub update_on : Bool → Bool → Track → Stance → Ccw → Looked
update_on with_key in_domain t s c =
    update_sought with_key in_domain t.records s c (find_from in_domain s
    (if_there (length t.records) (next_area with_key (place_on (length t.records) s.place)))
    (if_there (length t.records) 1))
