use Rattle.device_store.specs.State.{state_of}
use Rattle.device_store.proofs.Telling.{none_waits}
use Rattle.device_store.proofs.store.DeviceStore.none_waits.Goals as goal

pub returns-then-is_empty : goal.returns-then-is_empty
returns-then-is_empty g c = λ is t. none_waits (state_of c.args.self.now) t (c.is_empty.ensures c.if-is_empty.true t) (c.none_modified.ensures is t)
