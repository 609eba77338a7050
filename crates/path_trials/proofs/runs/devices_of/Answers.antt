use Rattle.std.proofs.lemmas.List.Elements.{All-push}
use Rattle.path_workers.specs.Keeping.{IsReady}
use Rattle.path_trials.specs.Small.{IsSmall}
use Rattle.path_trials.proofs.runs.devices_of.Goals as goal

pub loop-plan-preserved : goal.loop-plan-preserved
loop-plan-preserved c =
    rw c.in_ok-push.ensures.items
    (All-push IsReady _ _ c.loop-plan.invariant.0 c.in_ok-device.ensures.ready, All-push IsSmall _ _ c.loop-plan.invariant.1 c.in_ok-device.ensures.small)
