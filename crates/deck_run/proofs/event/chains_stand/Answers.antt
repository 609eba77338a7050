use Rattle.deck_run.proofs.Found.{stand_more}
use Rattle.deck_run.proofs.event.chains_stand.Goals as goal

pub loop-device-preserved : goal.loop-device-preserved
loop-device-preserved g c =
    stand_more c.args.devices.now c.loop-device.device-index c.device-item.result c.loop-device-test.true c.device-item.is c.loop-device.invariant
    c.recall_chain.ensures
