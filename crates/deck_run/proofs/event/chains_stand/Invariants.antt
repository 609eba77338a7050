use Rattle.std.proofs.Common.{take}
use Rattle.deck_run.specs.Owning.{ChainsStand}
use Rattle.deck_run.proofs.event.chains_stand.Given as goal

abbrev pub invariant-loop-device : goal.invariant-loop-device
invariant-loop-device g l = ChainsStand (take l.device-index l.devices)
