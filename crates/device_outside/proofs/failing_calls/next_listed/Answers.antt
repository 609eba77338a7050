use Rattle.std.proofs.Common.{◌^◌, ◌-◌}
use Rattle.device_outside.proofs.Calls.{none_listed, quiet_more, quiet_all}
use Rattle.device_outside.proofs.failing_calls.next_listed.Goals as goal

pub loop-n-init : goal.loop-n-init
loop-n-init c = none_listed c.args.made (2 ^ 64 - 1)

pub loop-n-preserved : goal.loop-n-preserved
loop-n-preserved c =
    quiet_more c.args.made c.loop-n.next c.sooner-next.result c.args.numbers.now c.loop-n.n-index c.loop-n-test.true c.loop-n.invariant
    c.sooner-next.ensures.least c.sooner-next.ensures.beyond

pub returns : goal.returns
returns c = quiet_all c.args.made c.loop-n.next c.args.numbers.now c.loop-n.n-index c.loop-n-test.false c.loop-n.invariant
