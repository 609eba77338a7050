use Rattle.device_outside.specs.Interaction.{Done}
use Rattle.device_outside.specs.Outside.{done}
use Rattle.device_outside.proofs.Runs.{joined, tells}
use Rattle.device_defs.specs.declared.answers.Took.TheVariants.{Whole}
use Rattle.device_store.proofs.store.DeviceStore.whole.Goals as goal

pub returns-clause-run : goal.returns-clause-run
returns-clause-run g c = λ e. tells tt c.firm.ensures tt (joined (λ y _. Done y Whole) (c.write_done.ensures.run _) done)
