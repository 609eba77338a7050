-- What the volumes hold that a rack opens, and why it may open none.
use Rattle.std.specs.Prelude.{◌≡◌, ◌≢◌, ⊤, ℕ, List, Option, Some, None}
use Rattle.ckd_types.specs.declared.record.Track.{Track}
use Rattle.ckd_types.specs.Volume.{IsVolume, empty_volume}
use Rattle.deck_text.specs.declared.line.DeviceLine.{DeviceLine}
use Rattle.device_laws.specs.NewDevice.{volume_contents}
use Rattle.device_outside.specs.Both.{SideIs}
use Rattle.device_outside.specs.Volume.{Plan, VolumeView}
use Rattle.disk_image.specs.declared.layout.Layout.{Layout}
use Rattle.subsystem_defs.specs.Decks.{Firsts}
use Rattle.subsystem_defs.specs.Subsystem.{new_calls}
use Rattle.image_runner.specs.declared.mounting.MountFault.{MountFault}
use Rattle.image_runner.specs.declared.mounting.MountFault.TheVariants as faults
use Rattle.image_runner.specs.Words.{path_for}

-- the tracks that stand at a path, of so many cylinders
abbrev pub Holding : Type 0
Holding = List ℕ → ℕ → List Track

-- where no path is named, they are empty
abbrev pub tracks_at : Holding → Option (List ℕ) → ℕ → List Track
tracks_at holding (Some path) cylinders = holding path cylinders
tracks_at holding None cylinders = empty_volume cylinders

-- each device of a run begins with what stands at the path that the words name for it
abbrev pub firsts_by : Holding → List (List ℕ) → Firsts
firsts_by holding words d cylinders = tracks_at holding (path_for words d) cylinders

-- a volume holds these tracks first, each of which fits there, and the calls of the plan fail
pub record Begins (holding : Holding) (d : DeviceLine) (path : Option (List ℕ)) (plan : Plan) (v : VolumeView (List ℕ)) : Type 0 where
  pub fits : IsVolume d.geometry d.cylinders (tracks_at holding path d.cylinders)
  pub tells : SideIs v (volume_contents (tracks_at holding path d.cylinders)) (new_calls plan)

abbrev pub BeginsWhereTold : Option Holding → DeviceLine → Option (List ℕ) → Plan → VolumeView (List ℕ) → Type 0
BeginsWhereTold None d path plan v = ⊤
BeginsWhereTold (Some holding) d path plan v = Begins holding d path plan v

-- the layout that a DEVICE line wants
abbrev pub wanted_by : DeviceLine → Layout
wanted_by d = record { geometry = d.geometry; cylinders = d.cylinders }

-- an image is refused for its layout only where that is another one than the line's
abbrev pub IsMountFault : DeviceLine → MountFault → Type 0
IsMountFault d (faults.Other image device) = (device ≡ wanted_by d) × (image ≢ device)
IsMountFault d faults.Device = ⊥
IsMountFault d fault = ⊤
