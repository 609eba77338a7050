use Rattle.std.proofs.Common.{◌∙◌, ◌*◌, ap, sym, true}
use Rattle.std.specs.Prelude.{is_some}
use Rattle.device_defs.specs.Store.{new_side}
use Rattle.device_store.proofs.Orders.{replaced, sized}
use Rattle.device_store.proofs.store.DeviceStore.replace.Goals as goal

pub replace-requires-clause-size : goal.replace-requires-clause-size
replace-requires-clause-size g c = c.requires.size ∙ sym c.args.self.now.stale_of_each

pub invariant_of-self-clause-stale_of_each : goal.invariant_of-self-clause-stale_of_each
invariant_of-self-clause-stale_of_each g c =
    sized c.args.self.now.pair c.replace.new.self c.args.side true (c.args.self.now.cylinders * 15) c.args.self.now.stale_of_each
    c.replace.ensures.marks c.replace.ensures.other

pub returns-clause-state : goal.returns-clause-state
returns-clause-state g c =
    let e = c.replace.ensures in
    replaced c.args.self.now c.replace.new.self c.args.side _ c.args.volume e.volume e.others c.requires.there e.rest
    (e.marks ∙ ap (λ n. new_side n true) c.args.self.now.stale_of_each) e.other

pub invariant_of-self-clause-loose_modified : goal.invariant_of-self-clause-loose_modified
invariant_of-self-clause-loose_modified g c = λ here. c.args.self.now.loose_modified (ap is_some c.requires.here)
