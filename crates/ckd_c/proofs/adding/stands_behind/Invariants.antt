use Rattle.std.proofs.Common.{◌≡◌, ◌<◌, ℕ, Some, None}
use Rattle.std.specs.Prelude.{slice_get}
use Rattle.device_core.specs.State.{device_of}
use Rattle.subsystem_core.specs.Devices.{number_of}
use Rattle.ckd_c.specs.Calls.{Device}
use Rattle.ckd_c.proofs.adding.stands_behind.Given as goal

abbrev pub invariant-loop-i : goal.invariant-loop-i
invariant-loop-i l = (j : ℕ) (d : Device) → j < l.i → slice_get l.devices j ≡ Some d → (number_of d < l.number) × ((device_of d).store.lent ≡ None)
