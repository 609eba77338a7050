-- The run of a deck.
use Rattle.std.specs.Prelude.{[], ◌≡◌, ℕ, ◌*◌, ◌==◌, ◌&&◌, not, Bool, true, false, List, ◌∷◌, length, map, if◌then◌else◌}
use Rattle.ckd_types.specs.declared.record.Track.{Track}
use Rattle.ckd_types.specs.Volume.{empty_volume}
use Rattle.deck_text.specs.declared.line.DeviceLine.{DeviceLine}
use Rattle.deck_text.specs.declared.line.FaultLine.{FaultLine}
use Rattle.deck_text.specs.DeckLines.{DeckLines}
use Rattle.deck_text.specs.Plans.{plans_of}
use Rattle.device_outside.specs.Pool.{new_pool}
use Rattle.device_outside.specs.Volume.{Plan}
use Rattle.subsystem_defs.specs.Closing.{HandedOut, handed_out}
use Rattle.subsystem_defs.specs.Lines.{Asked, Logged, asked_by, run_lines, last_behind}
use Rattle.subsystem_defs.specs.Subsystem.{Mounted, Subsystem, mounted_on}

abbrev pub is_same : Bool → Bool → Bool
is_same a b = if a then b else not b

-- the numbers of a device's FAULT lines of this kind
abbrev pub failing_of : Bool → ℕ → List FaultLine → List ℕ
failing_of write d [] = []
failing_of write d (f ∷ fs) =
    if (f.device == d) && is_same f.write write then f.call ∷ failing_of write d fs else failing_of write d fs

-- the volume that is made for a device fails these calls, wherever it is
abbrev pub plan_for : List FaultLine → ℕ → Plan
plan_for faults d = record { reads = failing_of false d faults; writes = failing_of true d faults }

-- what the volumes of devices hold first: the tracks of that of a device's number, where it has so many cylinders
abbrev pub Firsts : Type 0
Firsts = ℕ → ℕ → List Track

-- a track for each that a device has
abbrev pub AreWhole : Firsts → Type 0
AreWhole firsts = (d cylinders : ℕ) → length (firsts d cylinders) ≡ cylinders * 15

abbrev pub empty_firsts : Firsts
empty_firsts d cylinders = empty_volume cylinders

abbrev pub opened_device_on : Firsts → DeckLines → DeviceLine → Mounted
opened_device_on firsts deck d =
    mounted_on d.number d.geometry d.cylinders (firsts d.number d.cylinders) (plans_of deck.programs d.number) (plan_for deck.faults d.number)

-- the pool and the devices that a deck states, on volumes that hold these tracks
abbrev pub opened_on : Firsts → DeckLines → Subsystem
opened_on firsts deck = record { pool = new_pool deck.frames deck.slots; mounted = map (opened_device_on firsts deck) deck.devices }

-- on empty ones
abbrev pub opened_device : DeckLines → DeviceLine → Mounted
opened_device deck d = opened_device_on empty_firsts deck d

abbrev pub opened : DeckLines → Subsystem
opened deck = opened_on empty_firsts deck

-- the events with RUN and SETTLE written out, each with its end and its volume calls, and the subsystem behind them
pub record DeckRun : Type 0 where
  pub events : List Logged
  pub behind : Subsystem

abbrev pub run_from : Subsystem → List Logged → DeckRun
run_from s ts = record { events = ts; behind = last_behind s ts }

-- of what is asked of a deck's subsystem, on volumes that hold these tracks
unfoldable pub run_asked_on : Firsts → DeckLines → List Asked → DeckRun
run_asked_on firsts deck asked = run_from (opened_on firsts deck) (run_lines asked (opened_on firsts deck))

abbrev pub run_on : Firsts → DeckLines → DeckRun
run_on firsts deck = run_asked_on firsts deck (map asked_by deck.events)

-- on empty ones
abbrev pub run_asked : DeckLines → List Asked → DeckRun
run_asked deck asked = run_asked_on empty_firsts deck asked

abbrev pub run_of : DeckLines → DeckRun
run_of deck = run_on empty_firsts deck

abbrev pub handed_out_of : DeckLines → List HandedOut
handed_out_of deck = handed_out (run_of deck).behind
