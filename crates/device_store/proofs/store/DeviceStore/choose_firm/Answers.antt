use Rattle.device_store.proofs.store.DeviceStore.choose_firm.Goals as goal

pub returns-then-may_be_provisional-clause-run : goal.returns-then-may_be_provisional-clause-run
returns-then-may_be_provisional-clause-run g c = λ k. rw (← c.may_be_provisional.ensures, c.if-may_be_provisional.true) (c.choose_clean.ensures.run k)

pub returns-clause-run : goal.returns-clause-run
returns-clause-run g c = λ k. rw (← c.may_be_provisional.ensures, c.if-may_be_provisional.false) (c.fast_or_through.ensures.run k)
