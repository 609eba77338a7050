use Rattle.subsystem_defs.specs.Refusals.{unpair_fault}
use Rattle.device_core.specs.State.{device_of}
use Rattle.subsystem_defs.proofs.Unrefused.{parts_up}
use Rattle.subsystem_core.proofs.Standing.{parts_home, set_stands, stays_home}
use Rattle.std.proofs.Common.{ap, refl, ◌≡◌, None}
use Rattle.subsystem_core.proofs.Found.{changed, numbers_kept, held}
use Rattle.subsystem_core.proofs.Seating.{alike_kept, sits_by}
use Rattle.subsystem_core.proofs.subsystem.Subsystem.split_at.Goals as goal

pub invariant_of-self : goal.invariant_of-self
invariant_of-self g c =
    let same = numbers_kept c.args.self.now.devices.items c.place-at.result c.index_mut.result.now c.split-volume.new.self c.index_mut.ensures.value
    (ap (λ d. d.store.device) c.split-volume.ensures.device) in
    record {
      rising = rw same c.args.self.now.rising;
      table = rw same c.args.self.now.table;
      alike = alike_kept c.args.self.now.devices.items c.place-at.result c.index_mut.result.now c.split-volume.new.self c.index_mut.ensures.value
          (sits_by _ _ _ c.split-volume.ensures.device refl refl refl) c.args.self.now.alike;
    }

pub returns-clause-numbers : goal.returns-clause-numbers
returns-clause-numbers g c =
    numbers_kept c.args.self.now.devices.items c.place-at.result c.index_mut.result.now c.split-volume.new.self c.index_mut.ensures.value
    (ap (λ d. d.store.device) c.split-volume.ensures.device)

pub returns-clause-split : goal.returns-clause-split
returns-clause-split g c =
    changed c.args.self.now.devices.items c.args.d c.place-at.result c.index_mut.result.now c.split-volume.new.self _ c.args.self.now.rising
    c.place-at.ensures.range c.place-at.ensures.found c.index_mut.ensures.value (record {
      device = c.split-volume.ensures.device;
      a = c.split-volume.ensures.a;
      b = c.split-volume.ensures.b;
    })

pub returns-clause-stands : goal.returns-clause-stands
returns-clause-stands g c =
    let x = c.index_mut.result.now in
    let free = held c.args.self.now.devices.items c.args.d c.place-at.result x (λ z. unpair_fault (device_of z) ≡ None)
    c.args.self.now.rising c.place-at.ensures.range c.place-at.ensures.found c.index_mut.ensures.value c.requires.fine in
    set_stands c.args.self.now.devices.items c.place-at.result x c.split-volume.new.self c.place-at.ensures.range c.index_mut.ensures.value
    (ap (λ d. d.store.device) c.split-volume.ensures.device)
    (stays_home x c.split-volume.new.self (ap (λ d. d.store.lent) c.split-volume.ensures.device) (c.split-volume.ensures.plain free).stands
    (parts_home x (parts_up (device_of x) free)))
