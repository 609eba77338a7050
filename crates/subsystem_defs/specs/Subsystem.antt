-- The subsystem of a run: the pool, and the devices in rising order of their numbers, each with the calls that its volumes have had.
use Rattle.std.specs.Prelude.{ℕ, ◌==◌, List, [], ◌∷◌, Option, Some, None, map, if◌then◌else◌}
use Rattle.ckd_types.specs.declared.geometry.Geometry.{Geometry}
use Rattle.ckd_types.specs.declared.paths.Side.{Side}
use Rattle.ckd_types.specs.declared.paths.Side.TheVariants.{A, B}
use Rattle.plain_defs.specs.Journal.{Plans}
use Rattle.device_outside.specs.Pool.{Pool}
use Rattle.device_outside.specs.Told.{Calls}
use Rattle.device_outside.specs.Volume.{Plan}
use Rattle.ckd_types.specs.declared.record.Track.{Track}
use Rattle.ckd_types.specs.Volume.{empty_volume}
use Rattle.device_defs.specs.Marks.{MarksDevice, MarksStore, new_device, new_store}

-- the calls of the volume of each side. Those of a side that isn't there count for nothing
pub record Mounted : Type 0 where
  pub device : MarksDevice
  pub a : Calls
  pub b : Calls

pub record Subsystem : Type 0 where
  pub pool : Pool
  pub mounted : List Mounted

abbrev pub new_calls : Plan → Calls
new_calls plan = record { reads = 0; writes = 0; plan = plan }

abbrev pub no_failing : Plan
no_failing = record { reads = []; writes = [] }

-- of a new volume of which no call fails
abbrev pub unfailing : Calls
unfailing = new_calls no_failing

-- a new device whose volume holds these tracks
abbrev pub first_store : ℕ → Geometry → ℕ → List Track → MarksStore
first_store d g cylinders tracks = record (new_store d g cylinders) { plain = tracks; firm = tracks }

abbrev pub first_device : ℕ → Geometry → ℕ → List Track → Plans → MarksDevice
first_device d g cylinders tracks plans = record (new_device d g cylinders plans) { store = first_store d g cylinders tracks }

-- a device on its one volume, which holds these tracks
abbrev pub mounted_on : ℕ → Geometry → ℕ → List Track → Plans → Plan → Mounted
mounted_on d g cylinders tracks plans failing = record {
  device = first_device d g cylinders tracks plans;
  a = new_calls failing;
  b = unfailing;
}

-- a device on its one empty volume
abbrev pub newly_mounted : ℕ → Geometry → ℕ → Plans → Plan → Mounted
newly_mounted d g cylinders plans failing = mounted_on d g cylinders (empty_volume cylinders) plans failing

abbrev pub number_of : Mounted → ℕ
number_of m = m.device.store.device

abbrev pub devices_of : Subsystem → List MarksDevice
devices_of s = map (λ (m : Mounted). m.device) s.mounted

abbrev pub mounted_in : List Mounted → ℕ → Option Mounted
mounted_in [] n = None
mounted_in (m ∷ ms) n = if number_of m == n then Some m else mounted_in ms n

-- in the place of the device of this number
abbrev pub put_in : List Mounted → ℕ → Mounted → List Mounted
put_in [] n x = []
put_in (m ∷ ms) n x = if number_of m == n then x ∷ ms else m ∷ put_in ms n x

abbrev pub with_mounted : Subsystem → ℕ → Mounted → Subsystem
with_mounted s n x = record s { mounted = put_in s.mounted n x }

abbrev pub with_calls : Mounted → Side → Calls → Mounted
with_calls m A v = record m { a = v }
with_calls m B v = record m { b = v }

abbrev pub calls_behind : Mounted → Side → Calls
calls_behind m A = m.a
calls_behind m B = m.b
