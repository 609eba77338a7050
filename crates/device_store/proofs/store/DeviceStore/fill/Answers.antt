use Rattle.std.proofs.Common.{ap, refl, sym}
use Rattle.device_outside.proofs.Runs.{ended, asks}
use Rattle.device_store.specs.State.{outside_of}
use Rattle.device_store.proofs.Moves.{lands}
use Rattle.device_store.proofs.store.DeviceStore.fill.Goals as goal

pub returns-then-has-clause-run : goal.returns-then-has-clause-run
returns-then-has-clause-run g c =
    λ k. rw (← c.has.ensures, c.if-has.true) (lands
    (ap (λ x. outside_of (g.P.Port.view c.set_modified.new.self) g.V.Volume.view x k) (sym c.put_frame.ensures.leaves.volume))
    (asks c.set_modified.ensures (ended (sym c.put_frame.ensures.state) refl)))

pub returns-clause-run : goal.returns-clause-run
returns-clause-run g c =
    λ k. rw (← c.has.ensures, c.if-has.false) (lands
    (ap (λ x. outside_of (g.P.Port.view c.args.port.now) g.V.Volume.view x k) (sym c.put_frame-2.ensures.leaves.volume))
    (ended (sym c.put_frame-2.ensures.state) refl))
