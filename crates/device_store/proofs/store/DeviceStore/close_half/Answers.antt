use Rattle.std.proofs.Common.{ap, refl, sym}
use Rattle.device_outside.proofs.Runs.{ended}
use Rattle.device_store.specs.State.{outside_of}
use Rattle.device_store.proofs.Moves.{lands}
use Rattle.device_store.proofs.store.DeviceStore.close_half.Goals as goal

pub returns-then-has_level-clause-run : goal.returns-then-has_level-clause-run
returns-then-has_level-clause-run g c = rw (← c.has_level.ensures, c.if-has_level.true) c.second_done.ensures.run

pub returns-clause-run : goal.returns-clause-run
returns-clause-run g c =
    rw (← c.has_level.ensures, c.if-has_level.false)
    (lands (ap (λ x. outside_of (g.P.Port.view c.args.port.now) g.V.Volume.view x.volumes c.args.keep.now) (sym c.second_absent.ensures.volume))
    (ended (sym c.second_absent.ensures.state) refl))
