use Rattle.std.proofs.Common.{All}
use Rattle.path_workers.specs.Keeping.{IsReady}
use Rattle.path_trials.specs.Small.{IsSmall}
use Rattle.path_trials.proofs.runs.devices_of.Given as goal

abbrev pub invariant-loop-plan : goal.invariant-loop-plan
invariant-loop-plan l = All IsReady l.devices.items × All IsSmall l.devices.items
