use Rattle.std.proofs.Common.{◌≤◌, ◌-◌, ◌∙◌, rules, arith}
use Rattle.deck_plan.specs.Plans.{plan_of}
use Rattle.device_core.proofs.Forgetting.{program_more}
use Rattle.device_core.proofs.device.Device.push_left.Goals as goal

pub loop-i-preserved : goal.loop-i-preserved
loop-i-preserved g c =
    let path = c.args.path in
    let most : path ≤ 4 = search rules in
    let programs = plan_of c.args.self.now.plans path in
    record {
      plans = (rw c.loop-i.invariant.plans at c.in_ok-push.ensures.ok)
          ∙ program_more c.args.plans.now (path - 1) c.from-first.result c.loop-i.i programs c.in_ok-copy.field-0 (omega (arith, c.requires.four, most))
          c.loop-i.invariant.from (omega (arith, c.loop-i-test.true, c.len-i-end.ensures.value)) (c.in_ok-copy.ensures ∙ c.at.ensures);
      from = omega (arith, c.loop-i.invariant.from);
    }
