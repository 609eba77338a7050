use Rattle.device_core.specs.State.{device_of}
use Rattle.subsystem_core.proofs.Standing.{set_stands, stays_paired}
use Rattle.std.proofs.Common.{ap, refl, ◌≡◌, true}
use Rattle.subsystem_core.proofs.Found.{changed, numbers_kept, held}
use Rattle.subsystem_core.proofs.Hearing.{spans_kept}
use Rattle.subsystem_core.proofs.Seating.{alike_kept, sits_by}
use Rattle.subsystem_core.proofs.subsystem.Subsystem.hold_at.Goals as goal

pub invariant_of-self : goal.invariant_of-self
invariant_of-self g c =
    let same = numbers_kept c.args.self.now.devices.items c.place-at.result c.index_mut.result.now c.hold.new.self c.index_mut.ensures.value
    (ap (λ d. d.store.device) c.hold.ensures.device) in
    record {
      rising = rw same c.args.self.now.rising;
      table = rw same c.args.self.now.table;
      alike = alike_kept c.args.self.now.devices.items c.place-at.result c.index_mut.result.now c.hold.new.self c.index_mut.ensures.value
          (sits_by _ _ _ c.hold.ensures.device refl refl refl) c.args.self.now.alike;
    }

pub returns-clause-spans : goal.returns-clause-spans
returns-clause-spans g c =
    spans_kept c.args.self.now.devices.items c.place-at.result c.index_mut.result.now c.hold.new.self c.index_mut.ensures.value
    (ap (λ d. d.store.device) c.hold.ensures.device) (ap (λ d. d.store.cylinders) c.hold.ensures.device) (ap (λ d. d.store.geometry) c.hold.ensures.device)

pub returns-clause-held : goal.returns-clause-held
returns-clause-held g c =
    changed c.args.self.now.devices.items c.args.d c.place-at.result c.index_mut.result.now c.hold.new.self _ c.args.self.now.rising
    c.place-at.ensures.range c.place-at.ensures.found c.index_mut.ensures.value (c.hold.ensures.device, c.hold.ensures.volume)

pub returns-clause-stands : goal.returns-clause-stands
returns-clause-stands g c =
    set_stands c.args.self.now.devices.items c.place-at.result c.index_mut.result.now c.hold.new.self c.place-at.ensures.range c.index_mut.ensures.value
    (ap (λ d. d.store.device) c.hold.ensures.device)
    (stays_paired c.index_mut.result.now c.hold.new.self (ap (λ d. d.store.lent) c.hold.ensures.device) c.hold.ensures.plain.stands
    (held c.args.self.now.devices.items c.args.d c.place-at.result c.index_mut.result.now (λ x. (device_of x).store.paired ≡ true)
    c.args.self.now.rising c.place-at.ensures.range c.place-at.ensures.found c.index_mut.ensures.value c.requires.two))
