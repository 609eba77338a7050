use Rattle.subsystem_core.proofs.Standing.{set_stands, stays_home}
use Rattle.std.proofs.Common.{◌≡◌, ◌*◌, ap, false, is_some, refl}
use Rattle.device_core.specs.State.{device_of}
use Rattle.subsystem_core.proofs.Found.{changed, held, numbers_kept}
use Rattle.subsystem_core.proofs.Hearing.{spans_kept}
use Rattle.subsystem_core.proofs.Seating.{alike_kept, sits_by}
use Rattle.subsystem_core.proofs.subsystem.Subsystem.join_at.Goals as goal

pub join_volume-requires-clause-here : goal.join_volume-requires-clause-here
join_volume-requires-clause-here g c =
    held c.args.self.now.devices.items c.args.d c.place-at.result c.index_mut.result.now (λ x. is_some (device_of x).store.lent ≡ false)
    c.args.self.now.rising c.place-at.ensures.range c.place-at.ensures.found c.index_mut.ensures.value c.requires.free

pub join_volume-requires-clause-size : goal.join_volume-requires-clause-size
join_volume-requires-clause-size g c =
    held c.args.self.now.devices.items c.args.d c.place-at.result c.index_mut.result.now (λ x. (g.V.Volume.view c.args.volume).tracks ≡ x.store.cylinders * 15)
    c.args.self.now.rising c.place-at.ensures.range c.place-at.ensures.found c.index_mut.ensures.value c.requires.size

pub invariant_of-self : goal.invariant_of-self
invariant_of-self g c =
    let same = numbers_kept c.args.self.now.devices.items c.place-at.result c.index_mut.result.now c.join_volume.new.self c.index_mut.ensures.value
    (ap (λ d. d.store.device) c.join_volume.ensures.device) in
    record {
      rising = rw same c.args.self.now.rising;
      table = rw same c.args.self.now.table;
      alike = alike_kept c.args.self.now.devices.items c.place-at.result c.index_mut.result.now c.join_volume.new.self c.index_mut.ensures.value
          (sits_by _ _ _ c.join_volume.ensures.device refl refl refl) c.args.self.now.alike;
    }

pub returns-clause-spans : goal.returns-clause-spans
returns-clause-spans g c =
    spans_kept c.args.self.now.devices.items c.place-at.result c.index_mut.result.now c.join_volume.new.self c.index_mut.ensures.value
    (ap (λ d. d.store.device) c.join_volume.ensures.device) (ap (λ d. d.store.cylinders) c.join_volume.ensures.device)
    (ap (λ d. d.store.geometry) c.join_volume.ensures.device)

pub returns-clause-joined : goal.returns-clause-joined
returns-clause-joined g c =
    changed c.args.self.now.devices.items c.args.d c.place-at.result c.index_mut.result.now c.join_volume.new.self _ c.args.self.now.rising
    c.place-at.ensures.range c.place-at.ensures.found c.index_mut.ensures.value (record {
      device = c.join_volume.ensures.device;
      a = c.join_volume.ensures.a;
      b = c.join_volume.ensures.b;
    })

pub returns-clause-stands : goal.returns-clause-stands
returns-clause-stands g c =
    λ told.
    let single = (held c.args.self.now.devices.items c.args.d c.place-at.result c.index_mut.result.now (λ x. (device_of x).store.paired ≡ false)
    c.args.self.now.rising c.place-at.ensures.range c.place-at.ensures.found c.index_mut.ensures.value c.requires.single) in
    let size = (held c.args.self.now.devices.items c.args.d c.place-at.result c.index_mut.result.now (λ x. (g.V.Volume.view c.args.volume).tracks ≡ x.store.cylinders * 15)
    c.args.self.now.rising c.place-at.ensures.range c.place-at.ensures.found c.index_mut.ensures.value c.requires.size) in
    let home = (held c.args.self.now.devices.items c.args.d c.place-at.result c.index_mut.result.now (λ x. is_some (device_of x).store.lent ≡ false)
    c.args.self.now.rising c.place-at.ensures.range c.place-at.ensures.found c.index_mut.ensures.value c.requires.free) in
    set_stands c.args.self.now.devices.items c.place-at.result c.index_mut.result.now c.join_volume.new.self c.place-at.ensures.range c.index_mut.ensures.value
    (ap (λ d. d.store.device) c.join_volume.ensures.device)
    (stays_home c.index_mut.result.now c.join_volume.new.self (ap (λ d. d.store.lent) c.join_volume.ensures.device)
    (c.join_volume.ensures.plain (rw size at told) single).stands home)
