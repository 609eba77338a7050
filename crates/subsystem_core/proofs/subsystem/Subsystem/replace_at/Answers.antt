use Rattle.subsystem_core.proofs.Standing.{replaces_down, set_stands, stays_home}
use Rattle.std.proofs.Common.{◌≡◌, ◌*◌, None}
use Rattle.subsystem_defs.specs.Refusals.{replace_fault}
use Rattle.subsystem_core.proofs.Coming.{is_home, is_there, same_replaced}
use Rattle.device_core.specs.State.{device_of}
use Rattle.subsystem_core.proofs.Found.{changed, held, numbers_kept}
use Rattle.subsystem_core.proofs.Seating.{alike_kept, sits_replaced}
use Rattle.subsystem_core.proofs.subsystem.Subsystem.replace_at.Goals as goal

pub invariant_of-self : goal.invariant_of-self
invariant_of-self g c =
    let same = numbers_kept c.args.self.now.devices.items c.place-at.result c.index_mut.result.now c.replace-old.new.self c.index_mut.ensures.value
    (same_replaced c.index_mut.result.now c.replace-old.new.self c.args.side c.replace-old.ensures.device) in
    record {
      rising = rw same c.args.self.now.rising;
      table = rw same c.args.self.now.table;
      alike = alike_kept c.args.self.now.devices.items c.place-at.result c.index_mut.result.now c.replace-old.new.self c.index_mut.ensures.value
          (sits_replaced _ _ c.args.side c.replace-old.ensures.device) c.args.self.now.alike;
    }

pub returns-clause-numbers : goal.returns-clause-numbers
returns-clause-numbers g c =
    numbers_kept c.args.self.now.devices.items c.place-at.result c.index_mut.result.now c.replace-old.new.self c.index_mut.ensures.value
    (same_replaced c.index_mut.result.now c.replace-old.new.self c.args.side c.replace-old.ensures.device)

pub returns-clause-replaced : goal.returns-clause-replaced
returns-clause-replaced g c =
    changed c.args.self.now.devices.items c.args.d c.place-at.result c.index_mut.result.now c.replace-old.new.self _ c.args.self.now.rising
    c.place-at.ensures.range c.place-at.ensures.found c.index_mut.ensures.value
    (c.replace-old.ensures.device, c.replace-old.ensures.volume, c.replace-old.ensures.other)

pub replace-old-requires-clause-here : goal.replace-old-requires-clause-here
replace-old-requires-clause-here g c =
    is_home c.index_mut.result.now c.args.side
    (held c.args.self.now.devices.items c.args.d c.place-at.result c.index_mut.result.now (λ x. replace_fault (device_of x) c.args.side ≡ None)
    c.args.self.now.rising c.place-at.ensures.range c.place-at.ensures.found c.index_mut.ensures.value c.requires.fine)

pub replace-old-requires-clause-there : goal.replace-old-requires-clause-there
replace-old-requires-clause-there g c =
    is_there c.index_mut.result.now c.args.side
    (held c.args.self.now.devices.items c.args.d c.place-at.result c.index_mut.result.now (λ x. replace_fault (device_of x) c.args.side ≡ None)
    c.args.self.now.rising c.place-at.ensures.range c.place-at.ensures.found c.index_mut.ensures.value c.requires.fine)

pub replace-old-requires-clause-size : goal.replace-old-requires-clause-size
replace-old-requires-clause-size g c =
    (held c.args.self.now.devices.items c.args.d c.place-at.result c.index_mut.result.now (λ x.
    (g.V.Volume.view c.args.volume).tracks ≡ x.store.cylinders * 15) c.args.self.now.rising
    c.place-at.ensures.range c.place-at.ensures.found c.index_mut.ensures.value c.requires.size)

pub returns-clause-stands : goal.returns-clause-stands
returns-clause-stands g c =
    λ told.
    let x = c.index_mut.result.now in
    let free = held c.args.self.now.devices.items c.args.d c.place-at.result x (λ z. replace_fault (device_of z) c.args.side ≡ None)
    c.args.self.now.rising c.place-at.ensures.range c.place-at.ensures.found c.index_mut.ensures.value c.requires.fine in
    let size = held c.args.self.now.devices.items c.args.d c.place-at.result x (λ z. (g.V.Volume.view c.args.volume).tracks ≡ z.store.cylinders * 15)
    c.args.self.now.rising c.place-at.ensures.range c.place-at.ensures.found c.index_mut.ensures.value c.requires.size in
    set_stands c.args.self.now.devices.items c.place-at.result x c.replace-old.new.self c.place-at.ensures.range c.index_mut.ensures.value
    (same_replaced x c.replace-old.new.self c.args.side c.replace-old.ensures.device)
    (stays_home x c.replace-old.new.self (sits_replaced x c.replace-old.new.self c.args.side c.replace-old.ensures.device).lent
    (c.replace-old.ensures.plain (rw size at told) (replaces_down (device_of x) c.args.side free)).stands (is_home x c.args.side free))
