use Rattle.device_outside.proofs.Runs.{joined}
use Rattle.device_defs.specs.Contents.{contents}
use Rattle.device_defs.specs.Owed.{waiting_told}
use Rattle.device_store.proofs.store.DeviceStore.end_event.Goals as goal

pub returns-clause-run : goal.returns-clause-run
returns-clause-run g c = λ k. joined (λ z _. waiting_told contents c.args.before z) (c.tell_all.ensures.run k) (c.tell_waiting.ensures.run k)
