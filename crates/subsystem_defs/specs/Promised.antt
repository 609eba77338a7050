-- What is promised of the run of a deck.
use Rattle.std.specs.Prelude.{◌≡◌, ℕ, ◌-◌, ◌==◌, ◌&&◌, ◌||◌, not, Bool, true, List, [], ◌∷◌, All}
use Rattle.ckd_types.specs.declared.record.Track.{Track}
use Rattle.ckd_types.specs.Volume.{empty_volume}
use Rattle.plain_defs.specs.declared.journal.Item.{Item}
use Rattle.plain_defs.specs.declared.journal.Item.TheVariants as items
use Rattle.plain_defs.specs.Entry.{ProgramEntry}
use Rattle.plain_defs.specs.History.{IsPlain}
use Rattle.plain_defs.specs.Journal.{replay, last_sense}
use Rattle.plain_defs.specs.PlainState.{PlainState, empty_state}
use Rattle.deck_text.specs.DeckLines.{DeckLines}
use Rattle.device_defs.specs.Command.{has_loss}
use Rattle.device_defs.specs.Excused.{LastCommand, last_command, has_lost, is_checked, is_equipment_check, is_data_check, count_lost}
use Rattle.device_defs.specs.Marks.{MarksDevice}
use Rattle.device_defs.specs.Store.{some_up}
use Rattle.subsystem_defs.specs.Beside.{new_items}
use Rattle.subsystem_defs.specs.Calm.{is_calm}
use Rattle.subsystem_defs.specs.Decks.{Firsts, empty_firsts, run_on}
use Rattle.subsystem_defs.specs.Lines.{Logged}
use Rattle.subsystem_defs.specs.Subsystem.{Subsystem, devices_of}

-- The journals: at every event each device's history is one of a plain device, with the programs one after another

abbrev pub empty_of : MarksDevice → PlainState
empty_of d = empty_state d.store.geometry d.store.cylinders

-- on a volume that held these tracks first, where it has so many cylinders
abbrev pub first_of : (ℕ → List Track) → MarksDevice → PlainState
first_of first d = record (empty_of d) { volume = first d.store.cylinders }

abbrev pub HasPlainHistory : MarksDevice → Type 0
HasPlainHistory d = IsPlain d.plans (empty_of d) d.history

-- where the volume of the device of its number held these tracks first
abbrev pub HasPlainHistoryOn : Firsts → MarksDevice → Type 0
HasPlainHistoryOn firsts d = IsPlain d.plans (first_of (firsts d.store.device) d) d.history

abbrev pub HasPlainHistories : Subsystem → Type 0
HasPlainHistories s = All HasPlainHistory (devices_of s)

abbrev pub IsPlainBehind : Logged → Type 0
IsPlainBehind x = HasPlainHistories x.happened.behind

abbrev pub IsPlainBehindOn : Firsts → Logged → Type 0
IsPlainBehindOn firsts x = All (HasPlainHistoryOn firsts) (devices_of x.happened.behind)

-- Checks: what makes a command end with equipment check

-- a track that it looked at is lost, a call failed, it is a write and no side was up, or data of cache fast write were lost in its program
abbrev pub explains : MarksDevice → MarksDevice → ProgramEntry → LastCommand → Bool
explains before behind e c =
    has_lost behind.store.lost c.touched || not (behind.store.counts.failed - before.store.counts.failed == 0)
    || (c.writes && not (some_up before.store)) || has_loss e.acts

abbrev pub is_explained_by : (ℕ → List Track) → MarksDevice → MarksDevice → ProgramEntry → Bool
is_explained_by first before behind e =
    not (is_checked e.how && is_equipment_check (last_sense e.ends))
    || explains before behind e (last_command before.plans (replay before.plans (first_of first before) before.history.items) e)

-- a program that ended in the event is the first item that came
abbrev pub explained_first_by : (ℕ → List Track) → MarksDevice → MarksDevice → List Item → Bool
explained_first_by first before behind [] = true
explained_first_by first before behind (items.Program e ∷ xs) = is_explained_by first before behind e
explained_first_by first before behind (x ∷ xs) = true

abbrev pub explained_on_by : (ℕ → List Track) → MarksDevice → MarksDevice → Bool
explained_on_by first before behind = explained_first_by first before behind (new_items before.history behind.history)

-- in a run, whose devices began on volumes that held these tracks
abbrev pub explained_from : Firsts → MarksDevice → MarksDevice → Bool
explained_from firsts before behind = explained_on_by (firsts before.store.device) before behind

abbrev pub all_explained_from : Firsts → List MarksDevice → List MarksDevice → Bool
all_explained_from firsts (x ∷ xs) (y ∷ ys) = explained_from firsts x y && all_explained_from firsts xs ys
all_explained_from firsts _ _ = true

abbrev pub explained_in : Firsts → Logged → Bool
explained_in firsts x = all_explained_from firsts (devices_of x.happened.before) (devices_of x.happened.behind)

unfoldable pub are_explained_from : Firsts → List Logged → Bool
are_explained_from firsts [] = true
are_explained_from firsts (x ∷ xs) = explained_in firsts x && are_explained_from firsts xs

-- on empty ones
abbrev pub are_explained : List Logged → Bool
are_explained xs = are_explained_from empty_firsts xs

-- While each failure comes after the last one was repaired: no check but behind a loss of the program's own data of cache fast write, and
-- no lost track

abbrev pub is_served : ProgramEntry → Bool
is_served e =
    not (is_checked e.how) || not (is_data_check (last_sense e.ends) || (is_equipment_check (last_sense e.ends) && not (has_loss e.acts)))

abbrev pub are_served : List Item → Bool
are_served [] = true
are_served (items.Program e ∷ xs) = is_served e && are_served xs
are_served (x ∷ xs) = are_served xs

-- a device's journal has every program that ended
abbrev pub misses_nothing : MarksDevice → Bool
misses_nothing d = are_served d.history.items && (count_lost d.store.lost == 0)

abbrev pub all_miss_nothing : List MarksDevice → Bool
all_miss_nothing [] = true
all_miss_nothing (d ∷ ds) = misses_nothing d && all_miss_nothing ds

unfoldable pub miss_nothing : List Logged → Bool
miss_nothing [] = true
miss_nothing (x ∷ xs) = all_miss_nothing (devices_of x.happened.behind) && miss_nothing xs

-- The whole, on volumes that held these tracks first

pub record IsPromisedOn (firsts : Firsts) (deck : DeckLines) : Type 0 where
  pub plain : All (IsPlainBehindOn firsts) (run_on firsts deck).events
  pub explained : are_explained_from firsts (run_on firsts deck).events ≡ true
  pub calm : is_calm (run_on firsts deck).events ≡ true → miss_nothing (run_on firsts deck).events ≡ true

-- on empty ones
abbrev pub IsPromised : DeckLines → Type 0
IsPromised deck = IsPromisedOn empty_firsts deck
