-- Which devices of a deck can be opened, on which volumes, and which event lines run. In a deck that was read all can.
use Rattle.std.specs.Prelude.{◌≡◌, ℕ, ◌*◌, ◌&&◌, nat_le, nat_lt, Bool, true, false, List, [], ◌∷◌, Option, Some, None, Ok, map, if◌then◌else◌}
use Rattle.std.specs.List.{AllZip}
use Rattle.deck_plan.specs.declared.event.EventLine.{EventLine}
use Rattle.deck_plan.specs.declared.event.EventLine.TheVariants as lines
use Rattle.ckd_types.specs.Volume.{IsVolume}
use Rattle.device_outside.specs.Both.{SideIs}
use Rattle.device_outside.specs.Lists.{is_in}
use Rattle.device_outside.specs.Volume.{VolumeView}
use Rattle.device_laws.specs.NewDevice.{volume_contents}
use Rattle.deck_text.specs.declared.line.DeviceLine.{DeviceLine}
use Rattle.deck_text.specs.DeckLines.{DeckLines}
use Rattle.deck_text.specs.Parse.{parsed}
use Rattle.subsystem_defs.specs.Decks.{Firsts, plan_for}
use Rattle.subsystem_defs.specs.Subsystem.{new_calls}

-- some text is this deck
abbrev pub WasRead : DeckLines → Type 0
WasRead d = (text : List ℕ) × (parsed text ≡ Ok d)

abbrev pub is_open_device : DeviceLine → Bool
is_open_device d = nat_le 1 d.cylinders && nat_le d.cylinders 64

abbrev pub is_behind : Option ℕ → ℕ → Bool
is_behind (Some last) n = nat_lt last n
is_behind None n = true

abbrev pub are_open_behind : Option ℕ → List DeviceLine → Bool
are_open_behind last [] = true
are_open_behind last (d ∷ ds) = if is_behind last d.number && is_open_device d then are_open_behind (Some d.number) ds else false

-- numbers rise, and each has 1 to 64 cylinders
abbrev pub are_open : List DeviceLine → Bool
are_open ds = are_open_behind None ds

abbrev pub numbers_in : List DeviceLine → List ℕ
numbers_in ds = map (λ (d : DeviceLine). d.number) ds

-- a volume with as many tracks as the device of this line has
abbrev pub HasTracks : DeviceLine → VolumeView (List ℕ) → Type 0
HasTracks d v = v.tracks ≡ d.cylinders * 15

-- one for each of these devices
abbrev pub HaveTracks : List DeviceLine → List (VolumeView (List ℕ)) → Type 0
HaveTracks ds vs = AllZip HasTracks ds vs

-- it holds first what these volumes hold, each track of which fits there, and fails the calls of the device's FAULT lines
pub record HoldsFirst (firsts : Firsts) (deck : DeckLines) (d : DeviceLine) (v : VolumeView (List ℕ)) : Type 0 where
  pub fits : IsVolume d.geometry d.cylinders (firsts d.number d.cylinders)
  pub tells : SideIs v (volume_contents (firsts d.number d.cylinders)) (new_calls (plan_for deck.faults d.number))

-- so does the volume of each of these devices, and there is one for each
abbrev pub AllHold : Firsts → DeckLines → List DeviceLine → List (VolumeView (List ℕ)) → Type 0
AllHold firsts deck ds vs = AllZip (HoldsFirst firsts deck) ds vs

-- the devices that a line names are there
abbrev pub is_open_line : List ℕ → EventLine → Bool
is_open_line ns (lines.Start path d) = is_in d ns
is_open_line ns (lines.Step d) = is_in d ns
is_open_line ns (lines.Run d) = is_in d ns
is_open_line ns (lines.Back d) = is_in d ns
is_open_line ns (lines.Settle d) = is_in d ns
is_open_line ns (lines.Reset path d) = is_in d ns
is_open_line ns (lines.FailVolume d side) = is_in d ns
is_open_line ns lines.FailCache = true
is_open_line ns lines.FailStore = true
is_open_line ns lines.RepairCache = true
is_open_line ns lines.RepairStore = true
is_open_line ns (lines.Replace d side) = is_in d ns
is_open_line ns (lines.Suspend d) = is_in d ns
is_open_line ns (lines.Resume d) = is_in d ns
is_open_line ns (lines.Pair a b) = is_in a ns && is_in b ns
is_open_line ns (lines.Unpair a) = is_in a ns
is_open_line ns lines.Power = true

abbrev pub are_open_lines : List ℕ → List EventLine → Bool
are_open_lines ns [] = true
are_open_lines ns (e ∷ es) = if is_open_line ns e then are_open_lines ns es else false
