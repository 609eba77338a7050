use Rattle.device_defs.specs.Writing.{write_done}
use Rattle.device_store.proofs.store.DeviceStore.write_done.Goals as goal

pub returns-then-has-clause-run : goal.returns-then-has-clause-run
unfolding write_done
returns-then-has-clause-run g c = λ k. rw (← c.has.ensures, c.if-has.true) (c.framed_done.ensures.run k)

pub returns-clause-run : goal.returns-clause-run
unfolding write_done
returns-clause-run g c = λ k. rw (← c.has.ensures, c.if-has.false) (c.free_patch.ensures.run k)
