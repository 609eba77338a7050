use Rattle.std.proofs.Common.{ap, refl, sym}
use Rattle.device_outside.proofs.Runs.{ended, tells}
use Rattle.device_store.specs.State.{outside_of}
use Rattle.device_store.proofs.Moves.{lands}
use Rattle.device_store.proofs.store.DeviceStore.write_by.Goals as goal

pub returns-in-Provisional-clause-run : goal.returns-in-Provisional-clause-run
returns-in-Provisional-clause-run g c =
    rw c.in-Provisional.is (lands (ap (λ x. outside_of (g.P.Port.view c.args.port.now) g.V.Volume.view x c.args.keep.now)
    (sym c.write_provisional.ensures.leaves.volume))
    (ended (sym (c.write_provisional.ensures.state c.args.edit)) refl))

pub returns-in-Fast-clause-run : goal.returns-in-Fast-clause-run
returns-in-Fast-clause-run g c =
    rw c.in-Fast.is (lands (ap (λ x. outside_of (g.P.Port.view c.args.port.now) g.V.Volume.view x c.firm.new.self) (sym c.write_fast.ensures.leaves.volume))
    (tells tt c.firm.ensures tt (ended (sym c.write_fast.ensures.state) refl)))
