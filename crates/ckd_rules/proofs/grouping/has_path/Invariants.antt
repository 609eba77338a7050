use Rattle.std.proofs.Common.{◌≡◌, false, take}
use Rattle.std.specs.List.{list_any}
use Rattle.ckd_rules.specs.Grouping.{is_in_group}
use Rattle.ckd_rules.proofs.grouping.has_path.Given as goal

abbrev pub invariant-loop-state : goal.invariant-loop-state
invariant-loop-state l = list_any (is_in_group l.group) (take l.state-index l.paths) ≡ false
