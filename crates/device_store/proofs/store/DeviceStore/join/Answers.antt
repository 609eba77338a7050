use Rattle.std.proofs.Common.{◌∙◌, ap, sym, true}
use Rattle.std.specs.Prelude.{is_some}
use Rattle.device_defs.specs.Store.{new_side}
use Rattle.device_store.specs.State.{state_of}
use Rattle.device_store.proofs.Orders.{pair_is}
use Rattle.device_store.proofs.store.DeviceStore.join.Goals as goal

pub join-requires-clause-size : goal.join-requires-clause-size
join-requires-clause-size g c = c.requires.size ∙ sym c.args.self.now.stale_of_each

pub returns-clause-state : goal.returns-clause-state
returns-clause-state g c =
    let e = c.join.ensures in
    pair_is (state_of c.args.self.now) c.join.new.self (ap is_some e.b) e.rest.1 e.rest.0 e.other
    (e.marks ∙ ap (λ n. new_side n true) c.args.self.now.stale_of_each)
