use Rattle.std.proofs.Common.{true}
use Rattle.device_outside.specs.Interaction.{Done}
use Rattle.device_outside.specs.Outside.{done}
use Rattle.device_outside.proofs.Runs.{joined, tells}
use Rattle.device_store.proofs.store.DeviceStore.second_done.Goals as goal

pub returns-in-OfCommand-clause-run : goal.returns-in-OfCommand-clause-run
returns-in-OfCommand-clause-run g c =
    rw c.in-OfCommand.is (tells tt c.firm.ensures tt (joined (λ z _. Done z true) (c.write_done.ensures.run _) done))

pub returns-in-OfCut-clause-run : goal.returns-in-OfCut-clause-run
returns-in-OfCut-clause-run g c = rw c.in-OfCut.is (joined (λ z _. Done z true) (c.write_done-in-OfCut.ensures.run _) done)

pub returns-clause-run : goal.returns-clause-run
returns-clause-run g c = rw c.in-OfBackground.is (joined (λ z _. Done z true) (c.write_done-in-OfBackground.ensures.run _) done)
