use Rattle.device_outside.specs.Outside.{done}
use Rattle.device_store.proofs.store.DeviceStore.fast_or_through.Goals as goal

pub returns-then-may_be_fast-clause-run : goal.returns-then-may_be_fast-clause-run
returns-then-may_be_fast-clause-run g c = λ k. rw (← c.may_be_fast.ensures, c.if-may_be_fast.true) (c.choose_fast.ensures.run k)

pub returns-clause-run : goal.returns-clause-run
returns-clause-run g c = λ k. rw (← c.may_be_fast.ensures, c.if-may_be_fast.false) done
