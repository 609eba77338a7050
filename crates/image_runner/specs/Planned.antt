-- A volume with failing calls of its own, in front of another one.
use Rattle.std.specs.Prelude.{ℕ, None}
use Rattle.device_outside.specs.Volume.{VolumeView}

-- it counts its calls and faults itself, and tells no plan, since the one behind it may fail too
abbrev pub planned_view : {R : Type 0} → VolumeView R → ℕ → ℕ → ℕ → VolumeView R
planned_view v reads writes faults = record v { reads = reads; writes = writes; faults = faults; plan = None; allowance = None }
