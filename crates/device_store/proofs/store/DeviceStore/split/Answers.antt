use Rattle.std.proofs.Common.{◌∙◌, ap}
use Rattle.std.specs.Prelude.{is_some}
use Rattle.device_defs.specs.Store.{no_side}
use Rattle.device_store.specs.State.{state_of}
use Rattle.device_store.proofs.Orders.{pair_is}
use Rattle.device_store.proofs.store.DeviceStore.split.Goals as goal

pub returns-clause-state : goal.returns-clause-state
returns-clause-state g c =
    let e = c.split.ensures in
    pair_is (state_of c.args.self.now) c.split.new.self (ap is_some e.b) e.rest.1 e.rest.0 e.other (e.marks ∙ ap no_side c.args.self.now.stale_of_each)
