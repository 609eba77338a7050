use Rattle.std.proofs.Common.{ap}
use Rattle.std.specs.Prelude.{is_some}
use Rattle.device_store.specs.State.{state_of}
use Rattle.device_store.proofs.Orders.{pair_is}
use Rattle.device_store.proofs.store.DeviceStore.hold.Goals as goal

pub returns-clause-state : goal.returns-clause-state
returns-clause-state g c =
    let e = c.hold.ensures in
    pair_is (state_of c.args.self.now) c.hold.new.self (ap (λ v. is_some v.b) e.volumes) e.rest.1 e.rest.0 e.sides.0 e.sides.1
