-- How a device answers where it is to forget, and whether a path of it started any program.
use Rattle.std.specs.Prelude.{◌==◌, ◌||◌, not, Bool, true, false, List, min, Result, Ok, Err}
use Rattle.device_core.specs.declared.forget.NotForgotten.{NotForgotten}
use Rattle.device_core.specs.declared.forget.NotForgotten.TheVariants.{Running, NoMemory}
use Rattle.device_core.specs.declared.history.KeptPath.{KeptPath}
use Rattle.device_core.specs.Kept.{of_path}

abbrev pub is_running : NotForgotten → Bool
is_running Running = true
is_running NoMemory = false

-- whether it told that a program runs
abbrev pub refused_told : {T : Type 0} → Result T NotForgotten → Bool
refused_told (Ok x) = false
refused_told (Err e) = is_running e

abbrev pub any_started : List KeptPath → Bool
any_started kept =
    not ((of_path kept 1).started == 0) || not ((of_path kept 2).started == 0) || not ((of_path kept 3).started == 0) || not ((of_path kept 4).started == 0)

-- of its programs one is kept
abbrev pub one_kept : KeptPath → KeptPath
one_kept k = record k { started = min k.started 1 }
