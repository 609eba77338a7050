-- A mirror of a device of a deck stands as one over a run.
use Rattle.std.specs.Prelude.{◌≡◌, ℕ, false, List, [], ◌∷◌, Option, Some, None}
use Rattle.ckd_types.specs.declared.record.Track.{Track}
use Rattle.deck_text.specs.DeckLines.{DeckLines}
use Rattle.deck_run.specs.Opening.{numbers_in}
use Rattle.subsystem_core.specs.Devices.{device_at, numbers_of}
use Rattle.subsystem_defs.specs.Decks.{opened}
use Rattle.subsystem_defs.specs.Subsystem.{Mounted, mounted_in}
use Rattle.line_drive.specs.Driven.{Occurred, Comes}
use Rattle.volume_file.specs.File.{ImageVolume}
use Rattle.remote_copy.specs.Linking.{LinkView, PutCalls}
use Rattle.remote_copy.specs.Mirroring.{IsMirror, MirrorRun, is_lending, mirror_begun}
use Rattle.copy_tool.specs.declared.mirroring.MirrorStage.{MirrorStage}
use Rattle.copy_tool.specs.Mirroring.{volume_as}
use Rattle.copy_tool.specs.Standing.{cylinders_of}

-- this doesn't lend the device of a number
abbrev pub IsKept : ℕ → Occurred → Type 0
IsKept d (Comes e) = is_lending e d ≡ false
IsKept d _ = Unit {0}

abbrev pub mirror_cylinders : MirrorStage → ℕ → ℕ
mirror_cylinders x d = cylinders_of (device_at x.mirror.sub.devices.items d)

-- As the run of a deck begins

abbrev pub firm_at : Option Mounted → List Track
firm_at (Some m) = m.device.store.firm
firm_at None = []

-- no put has number 0
abbrev pub failing : ℕ → PutCalls
failing n = record { done = 0; failing = n ∷ [] }

-- the far volume is the firm one of the device, which is empty, and the n-th put fails
abbrev pub mirror_from : DeckLines → ℕ → ℕ → MirrorRun
mirror_from deck d n = mirror_begun (opened deck) d (firm_at (mounted_in (opened deck).mounted d)) (Some (failing n))

pub record IsMirrorBegun (deck : DeckLines) (d n : ℕ) (x : MirrorStage) : Type 0 where
  pub stands : IsMirror x.mirror (mirror_from deck d n)
  pub numbers : numbers_of x.mirror.sub.devices.items ≡ numbers_in deck.devices
  pub device : x.mirror.sender.device ≡ d

-- Behind all lines

-- the volume has the tracks that a link tells of the far one, and the model and size of this device
pub record IsFarVolume (v : LinkView) (m : Mounted) (volume : ImageVolume) : Type 0 where
  pub far : List Track
  pub told : v.far ≡ Some far
  pub is : volume ≡ volume_as m far
