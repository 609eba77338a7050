use Rattle.std.proofs.Common.{ap}
use Rattle.std.specs.Prelude.{slice_index_or}
use Rattle.report_audit.specs.Auditor.{dark_kept}
use Rattle.deck_audit.specs.Replayed.{ReplayedState}
use Rattle.report_audit.proofs.AllDevices.{changes_all}
use Rattle.report_audit.proofs.devices.lose_power.Goals as goal

pub loop-kept-preserved : goal.loop-kept-preserved
loop-kept-preserved c = changes_all dark_kept c.args.devices.now c.loop-kept.devices c.loop-kept.kept-index _
    c.kept-item.result c.loop-kept-test.true c.loop-kept.invariant
    (ap (λ (d : ReplayedState). record { device = d; ended = (slice_index_or c.loop-kept.devices c.loop-kept.kept-index c.kept-item.result).ended })
    c.lose_power.ensures)
