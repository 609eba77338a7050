use Rattle.device_defs.specs.Choosing.{choose}
use Rattle.device_store.proofs.store.DeviceStore.choose.Goals as goal

pub returns-then-has-clause-run : goal.returns-then-has-clause-run
unfolding choose
returns-then-has-clause-run g c = λ k. rw (← c.has.ensures, c.if-has.true) (c.choose_loose.ensures.run k)

pub returns-clause-run : goal.returns-clause-run
unfolding choose
returns-clause-run g c = λ k. rw (← c.has.ensures, c.if-has.false) (c.choose_firm.ensures.run k)
