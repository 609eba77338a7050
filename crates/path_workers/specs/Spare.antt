-- A volume that may come in the place of a failed side's.
use Rattle.std.specs.Prelude.{◌≡◌, ◌*◌, ℕ, true, List, length, Option, Some, None, is_some}
use Rattle.device_outside.specs.declared.volume.Volume.{Ghosts}
use Rattle.device_laws.specs.Handed.{allowance_in}
use Rattle.device_core.specs.declared.device.Device.{Device}
use Rattle.device_core.specs.State.{device_of}
use Rattle.device_defs.specs.Store.{tracks_of}
use Rattle.path_workers.specs.Keeping.{tells_all, told_of}
use Rattle.path_workers.specs.Planned.{as_planned}

-- what each of so many tracks holds is told
abbrev pub TellsTracks : Option (List (List ℕ)) → ℕ → Type 0
TellsTracks None n = ⊥
TellsTracks (Some all) n = length all ≡ n

module _ {V : Type 0} {G : Ghosts V} where
  -- It has as many tracks as the device. Where the device's volumes tell what they hold, it does; where they tell how many of their calls may still
  -- fail, none of its own will
  pub record IsSpare (d : Device V G) (volume : V) : Type 0 where
    pub tracks : (G.view volume).tracks ≡ tracks_of (device_of d).store
    pub tells : tells_all d ≡ true → TellsTracks (G.view volume).contents (tracks_of (device_of d).store)
    pub sure : is_some (allowance_in (told_of d)) ≡ true → (as_planned (G.view volume)).allowance ≡ Some 0
