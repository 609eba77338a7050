-- What is seen of a bay: what the volumes hold that it hands out, and which it took back.
use Rattle.std.specs.Prelude.{◌≡◌, ℕ, List, [], Option, Some, map}
use Rattle.ckd_types.specs.declared.paths.Side.{Side}
use Rattle.ckd_types.specs.Volume.{IsVolume}
use Rattle.deck_text.specs.declared.line.DeviceLine.{DeviceLine}
use Rattle.device_laws.specs.NewDevice.{volume_contents}
use Rattle.device_outside.specs.Bay.{Bay}
use Rattle.device_outside.specs.Both.{SideIs}
use Rattle.device_outside.specs.declared.bay.Spoiled.{Spoiled}
use Rattle.device_outside.specs.declared.bay.Taken.{Taken}
use Rattle.device_outside.specs.Disk.{Disk}
use Rattle.device_outside.specs.Volume.{Plan, VolumeView}
use Rattle.subsystem_defs.specs.Decks.{Firsts, empty_firsts}
use Rattle.subsystem_defs.specs.Subsystem.{new_calls}

-- a volume that was taken back, and where it stood
pub record Back (V : Type 0) : Type 0 where
  pub device : ℕ
  pub side : Side
  pub volume : V

pub record BayView (V : Type 0) : Type 0 where
  pub firsts : Option Firsts  -- what its volumes hold first, where told
  pub spoiled : List Spoiled  -- but for these tracks
  pub made : ℕ  -- how many it handed out
  pub taken : List (Back V)

-- it is told that each volume that it hands out holds these tracks first
pub record HandsOut {V : Type 0} (bay : BayView V) (firsts : Firsts) : Type 0 where
  pub told : bay.firsts ≡ Some firsts
  pub whole : bay.spoiled ≡ []

-- a volume for the device of this line holds them, each of which fits there, and fails the calls of this plan
pub record BeginsOn (firsts : Firsts) (d : DeviceLine) (plan : Plan) (v : VolumeView (List ℕ)) : Type 0 where
  pub fits : IsVolume d.geometry d.cylinders (firsts d.number d.cylinders)
  pub tells : SideIs v (volume_contents (firsts d.number d.cylinders)) (new_calls plan)

-- A bay of volumes in memory, which are empty first

abbrev pub back_of : Taken → Back Disk
back_of t = record { device = t.device; side = t.side; volume = t.volume }

abbrev pub memory_view : Bay → BayView Disk
memory_view b = record { firsts = Some empty_firsts; spoiled = b.spoiled; made = b.made; taken = map back_of b.taken }
