-- A subsystem of the code beside that of a run.
use Rattle.std.specs.Prelude.{◌≡◌, List, map, option_map}
use Rattle.device_outside.specs.declared.volume.Volume.{Ghosts}
use Rattle.device_outside.specs.Pool.{counted_slots}
use Rattle.device_core.specs.declared.device.Device.{Device}
use Rattle.device_core.specs.State.{device_of, volume_a, volume_b}
use Rattle.subsystem_core.specs.declared.subsystem.Subsystem.{Subsystem}
use Rattle.subsystem_defs.specs.Subsystem as defs
use Rattle.subsystem_laws.specs.WholeStood.{Stood, AreMounted}

module _ {V : Type 0} {G : Ghosts V} where
  -- a device, with what the volume of each side tells
  abbrev pub stood_of : Device V G → Stood
  stood_of x = record { device = device_of x; a = option_map G.view (volume_a x); b = option_map G.view (volume_b x) }

  abbrev pub all_stood : List (Device V G) → List Stood
  all_stood ds = map stood_of ds

  -- its pool is that of the run but for the numbers of its slots, and each device stands as the run has it
  pub record StandsAs (s : Subsystem V G) (run : defs.Subsystem) : Type 0 where
    pub pool : run.pool ≡ counted_slots s.pool.pool
    pub mounted : AreMounted s.pool.pool (all_stood s.devices.items) run.mounted
