-- Searches of one track.
use Rattle.std.specs.Prelude.{ℕ, ◌+◌, ◌==◌, not, min, Bool, List, [], ◌∷◌, ◌++◌, length, take, drop, position, Option, None, Some, if◌then◌else◌}
use Rattle.std.specs.declared.cmp.Ordering.{Ordering}
use Rattle.std.specs.Ordering.{is_eq, is_gt, is_ge, nat_cmp}
use Rattle.std.specs.Cmp.Lexicographic.{slice_cmp}
use Rattle.ckd_types.specs.declared.channel.Ccw.{Ccw}
use Rattle.ckd_types.specs.declared.command.Search.{Search}
use Rattle.ckd_types.specs.declared.command.SearchArea.{SearchArea}
use Rattle.ckd_types.specs.declared.command.SearchArea.TheVariants as areas
use Rattle.ckd_types.specs.declared.command.Comparison.{Comparison}
use Rattle.ckd_types.specs.declared.command.Comparison.TheVariants.{Equal, High, EqualOrHigh}
use Rattle.ckd_types.specs.declared.record.RecId.{RecId}
use Rattle.ckd_types.specs.declared.record.Record.{Record}
use Rattle.ckd_types.specs.declared.record.Track.{Track}
use Rattle.ckd_types.specs.declared.status.UnitStatus.{UnitStatus}
use Rattle.ckd_types.specs.Track.{cchh_bytes}
use Rattle.ckd_rules.specs.declared.stance.Stance.{Stance}
use Rattle.ckd_rules.specs.declared.stance.Place.{Place}
use Rattle.ckd_rules.specs.declared.stance.Place.TheVariants.{Home, Count, Key}
use Rattle.ckd_rules.specs.declared.stance.After.{After}
use Rattle.ckd_rules.specs.declared.stance.After.TheVariants.{Other, IdEqual, KeyEqual, HomeEqual}
use Rattle.ckd_rules.specs.declared.finding.Sought.{Sought}
use Rattle.ckd_rules.specs.declared.finding.Sought.TheVariants.{Here, Onward, Nowhere}
use Rattle.ckd_rules.specs.Area.{given_at}
use Rattle.ckd_rules.specs.Ending.{Outcome, normal, satisfied, refused, outcome_with}
use Rattle.ckd_rules.specs.Finding.{next_id, next_key, home_from, if_there, find_on}
use Rattle.ckd_rules.specs.Looked.{Looked, ends, onward}
use Rattle.ckd_rules.specs.Reads.{record_at}

abbrev pub has_key : Record → Bool
has_key r = not (length r.key == 0)

abbrev pub plus : ℕ → Option ℕ → Option ℕ
plus i (Some k) = Some (i + k)
plus i None = None

-- the first record with a key, from record i on
abbrev pub key_from : List Record → ℕ → Option ℕ
key_from records i = plus i (position has_key (drop i records))

-- the record that a place shows to a search
abbrev pub search_candidate : List Record → SearchArea → Place → Option ℕ
search_candidate records (areas.Id comparison) place = if_there (length records) (next_id place)
search_candidate records (areas.Key comparison) place = key_from records (next_key place)
search_candidate records areas.Home place = home_from place

abbrev pub id_bytes : RecId → List ℕ
id_bytes id = cchh_bytes id.cchh ++ id.r ∷ []

-- the area that is compared with the bytes given
abbrev pub search_area : Track → SearchArea → ℕ → List ℕ
search_area t (areas.Id comparison) i = id_bytes (record_at t.records i).id
search_area t (areas.Key comparison) i = (record_at t.records i).key
search_area t areas.Home i = cchh_bytes t.home

-- as many bytes of the area as are moved, against those given
abbrev pub compared : Ccw → List ℕ → Ordering
compared c area = slice_cmp nat_cmp (take c.count area) (given_at 0 (min c.count (length area)) c)

abbrev pub comparison_of : SearchArea → Comparison
comparison_of (areas.Id comparison) = comparison
comparison_of (areas.Key comparison) = comparison
comparison_of areas.Home = Equal

-- high: the record's are greater than those given
abbrev pub satisfies : Comparison → Ordering → Bool
satisfies Equal order = is_eq order
satisfies High order = is_gt order
satisfies EqualOrHigh order = is_ge order

abbrev pub search_place : SearchArea → ℕ → Place
search_place (areas.Id comparison) i = Count i
search_place (areas.Key comparison) i = Key i
search_place areas.Home i = Home

-- only a search that is satisfied by equal bytes lets a write follow
abbrev pub equal_after : SearchArea → After
equal_after (areas.Id Equal) = IdEqual
equal_after (areas.Key Equal) = KeyEqual
equal_after areas.Home = HomeEqual
equal_after _ = Other

abbrev pub search_after : SearchArea → Bool → After
search_after area met = if met then equal_after area else Other

-- a search that is satisfied skips the next word
abbrev pub search_status : Bool → UnitStatus
search_status met = if met then satisfied else normal

-- as many bytes of record i's area were compared as it has
abbrev pub search_ended : SearchArea → Stance → Ccw → ℕ → ℕ → ℕ → Bool → Outcome
search_ended area s c i passes len met =
    outcome_with (record s { place = search_place area i; passes = passes; after = search_after area met }) c len (search_status met) []

abbrev pub search_found : SearchArea → Stance → Ccw → ℕ → ℕ → List ℕ → Outcome
search_found area s c i passes bytes = search_ended area s c i passes (length bytes) (satisfies (comparison_of area) (compared c bytes))

abbrev pub search_sought : Track → SearchArea → Stance → Ccw → Sought → Looked
search_sought t area s c (Here i passes) = ends (search_found area s c i passes (search_area t area i))
search_sought t area s c (Onward u) = onward s u
search_sought t area s c (Nowhere sense) = ends (refused s c sense)

abbrev pub search_on : Track → Stance → Ccw → Search → Looked
search_on t s c x = search_sought t x.area s c (find_on x.multitrack s (length t.records) (search_candidate t.records x.area))
