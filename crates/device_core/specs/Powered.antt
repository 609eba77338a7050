-- What is kept of a path behind a loss of power.
use Rattle.std.specs.Prelude.{false}
use Rattle.device_core.specs.declared.history.KeptPath.{KeptPath}

-- it used nothing since, and no reset of it waits
abbrev pub off_path : KeptPath → KeptPath
off_path k = record k { used = false; waits = false }
