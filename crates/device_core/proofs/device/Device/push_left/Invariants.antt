use Rattle.std.proofs.Common.{◌≡◌, ◌≤◌, ◌-◌, set, take, drop}
use Rattle.deck_plan.specs.Plans.{plan_of}
use Rattle.device_core.proofs.device.Device.push_left.Given as goal

abbrev pub invariant-loop-i : goal.invariant-loop-i
invariant-loop-i g l = record {
  plans : l.plans ≡ set l.initial.plans (l.path - 1) (take (l.i - l.first) (drop l.first (plan_of l.self.plans l.path)));
  from : l.first ≤ l.i;
}
