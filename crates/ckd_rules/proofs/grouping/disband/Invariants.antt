use Rattle.std.proofs.Common.{◌≡◌, ◌++◌, map, take, drop}
use Rattle.ckd_rules.specs.Grouping.{disbanded}
use Rattle.ckd_rules.proofs.grouping.disband.Given as goal

abbrev pub invariant-loop-state : goal.invariant-loop-state
invariant-loop-state l = l.paths ≡ map (disbanded l.id) (take l.state-index l.initial.paths) ++ drop l.state-index l.initial.paths
