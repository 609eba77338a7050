use Rattle.std.proofs.Common.{All}
use Rattle.path_trials.specs.Small.{IsNew}
use Rattle.path_trials.proofs.pools.losses.Given as goal

abbrev pub invariant-loop : goal.invariant-loop
invariant-loop l = All IsNew l.orders.items
