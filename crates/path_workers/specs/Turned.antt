-- What a worker is told of its turn.
use Rattle.std.specs.Prelude.{◌≡◌, ◌⊎◌, ℕ, true, Option}
use Rattle.device_outside.specs.declared.volume.Volume.{Ghosts}
use Rattle.device_turn.specs.Rule.{KeptBy}
use Rattle.device_core.specs.declared.device.Device.{Device}
use Rattle.device_core.specs.State.{device_of}
use Rattle.path_workers.specs.declared.events.Came.{Came}
use Rattle.path_workers.specs.declared.events.Came.TheVariants.{Again, Over}
use Rattle.path_workers.specs.declared.promise.Promise.{Promise}
use Rattle.path_workers.specs.Keeping.{KeepsPromise}
use Rattle.path_workers.specs.Visits.{is_done, path_came}

module _ {V : Type 0} {G : Ghosts V} where
  -- another has the turn, or the path is told how a device stands that keeps what was promised
  abbrev pub PathTurned : Option (Promise V G) → ℕ → Came → Type 0
  PathTurned pledge path came = (came ≡ Again) ⊎ ((d : Device V G) × KeptBy KeepsPromise pledge d × (came ≡ path_came (device_of d) path))

  -- it is over where nothing is left to do at such a device
  abbrev pub BackgroundTurned : Option (Promise V G) → Came → Type 0
  BackgroundTurned pledge came = came ≡ Over → (d : Device V G) × KeptBy KeepsPromise pledge d × (is_done (device_of d) ≡ true)
