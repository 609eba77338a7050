-- A device that forgot: what it keeps in the place of what happened so far, while no program runs.
use Rattle.std.specs.Prelude.{ℕ, ◌-◌, ◌==◌, Bool, false, List, [], ◌∷◌, ◌++◌, count_by, drop, min, take, if◌then◌else◌}
use Rattle.ckd_types.specs.declared.channel.Ccw.{Ccw}
use Rattle.plain_defs.specs.declared.journal.How.TheVariants.{Full}
use Rattle.plain_defs.specs.declared.journal.Item.{Item}
use Rattle.plain_defs.specs.declared.journal.Item.TheVariants.{Program, Reset, Power}
use Rattle.plain_defs.specs.History.{History, has_used}
use Rattle.plain_defs.specs.Journal.{Plans, planned}
use Rattle.plain_defs.specs.Legal.{is_of_path, is_started}
use Rattle.device_defs.specs.Device.{Device}
use Rattle.device_defs.specs.Start.{started_count}
use Rattle.past_laws.specs.PutAway.{PutAway, whole_items, whole_plan}

-- the first program of a path, without its ends
abbrev pub stub : ℕ → Item
stub path = Program (record { path = path; ordinal = 1; how = Full; ends = []; acts = [] })

-- a path that started none needs no stub; one that used nothing since its last reset was reset behind it
abbrev pub stub_by : Bool → Bool → ℕ → List Item
stub_by none used path = if none then [] else if used then stub path ∷ [] else stub path ∷ Reset path ∷ []

abbrev pub stub_of : History → ℕ → List Item
stub_of h path = stub_by (started_count h path == 0) (has_used h path) path

-- behind a loss of power none used anything
abbrev pub power_by : Bool → List Item
power_by started = if started then [] else Power ∷ []

abbrev pub stubs_of : History → List Item
stubs_of h = stub_of h 1 ++ stub_of h 2 ++ stub_of h 3 ++ stub_of h 4 ++ power_by (is_started false h.items)

-- of a path the last program that it started, and those that wait
abbrev pub left_of : History → Plans → ℕ → List (List Ccw)
left_of h plans path = drop (started_count h path - 1) (planned plans path)

abbrev pub plans_left : History → Plans → Plans
plans_left h plans = left_of h plans 1 ∷ left_of h plans 2 ∷ left_of h plans 3 ∷ left_of h plans 4 ∷ []

abbrev pub forgotten : {F P H : Type 0} → Device F P H → Device F P H
forgotten d = record d { plans = plans_left d.history d.plans; history = record d.history { items = stubs_of d.history } }

-- What is put away then, with what was put away before: all that happened, and all programs that were started

abbrev pub taken_of : {F P H : Type 0} → PutAway → Device F P H → ℕ → List (List Ccw)
taken_of w d path = take (count_by (is_of_path path) (whole_items w d.history.items)) (whole_plan w d.plans path)

abbrev pub kept_of : {F P H : Type 0} → Device F P H → ℕ → List (List Ccw)
kept_of d path = take (min (started_count d.history path) 1) (left_of d.history d.plans path)

abbrev pub put_away : {F P H : Type 0} → PutAway → Device F P H → PutAway
put_away w d = record {
  items = whole_items w d.history.items;
  programs = taken_of w d 1 ∷ taken_of w d 2 ∷ taken_of w d 3 ∷ taken_of w d 4 ∷ [];
  stubs = stubs_of d.history;
  kept = kept_of d 1 ∷ kept_of d 2 ∷ kept_of d 3 ∷ kept_of d 4 ∷ [];
}
