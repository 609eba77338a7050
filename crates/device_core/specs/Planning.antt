-- When a program is planned, and what an answer to it tells.
use Rattle.std.specs.Prelude.{◌==◌, ℕ, Bool, true, false, Result, Ok, Err, length}
use Rattle.plain_defs.specs.Journal.{planned}
use Rattle.device_defs.specs.Device.{Device}
use Rattle.device_core.specs.declared.plan.NotPlanned.{NotPlanned}
use Rattle.device_core.specs.declared.plan.NotPlanned.TheVariants.{Full, NoMemory}

-- a path has as many programs as are counted
abbrev pub is_full : {F P H : Type 0} → Device F P H → ℕ → Bool
is_full d path = length (planned d.plans path) == 65535

abbrev pub full_told : Result (Unit {0}) NotPlanned → Bool
full_told (Ok u) = false
full_told (Err Full) = true
full_told (Err NoMemory) = false
