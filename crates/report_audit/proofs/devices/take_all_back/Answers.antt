use Rattle.report_audit.specs.Auditor.{taken_back}
use Rattle.report_audit.proofs.AllDevices.{changes_all}
use Rattle.report_audit.proofs.devices.take_all_back.Goals as goal

pub loop-kept-preserved : goal.loop-kept-preserved
loop-kept-preserved c = changes_all (taken_back c.args.a) c.args.devices.now c.loop-kept.devices c.loop-kept.kept-index c.take_back.new.kept
    c.kept-item.result c.loop-kept-test.true c.loop-kept.invariant c.in_ok-take_back.ensures
