use Rattle.subsystem_core.proofs.Standing.{set_stands, stays_home}
use Rattle.std.specs.Prelude.{◌*◌, ◌≡◌, false, is_some}
use Rattle.device_store.specs.State.{Takes}
use Rattle.device_defs.specs.Contents.{contents}
use Rattle.device_laws.proofs.BasedEvents.{lose_based}
use Rattle.device_core.specs.State.{device_of}
use Rattle.subsystem_core.proofs.Found.{changed, held, numbers_kept}
use Rattle.subsystem_core.proofs.Hearing.{spans_kept}
use Rattle.subsystem_core.proofs.Seating.{alike_kept, ran_lent}
use Rattle.subsystem_core.proofs.subsystem.Subsystem.lose_at.Goals as goal

pub invariant_of-self : goal.invariant_of-self
invariant_of-self g c =
    let same = numbers_kept c.args.self.now.devices.items c.place-at.result c.index_mut.result.now c.lose_with.new.self c.index_mut.ensures.value
    c.lose_with.ensures.fixed.0 in
    record {
      rising = rw same c.args.self.now.rising;
      table = rw same c.args.self.now.table;
      alike = alike_kept c.args.self.now.devices.items c.place-at.result c.index_mut.result.now c.lose_with.new.self c.index_mut.ensures.value (record {
        number = c.lose_with.ensures.fixed.0;
        cylinders = c.lose_with.ensures.fixed.1;
        lent = ran_lent (lose_based contents (device_of c.index_mut.result.now) c.args.loss) c.lose_with.ensures.run;
      }) c.args.self.now.alike;
    }

pub returns-clause-spans : goal.returns-clause-spans
returns-clause-spans g c =
    spans_kept c.args.self.now.devices.items c.place-at.result c.index_mut.result.now c.lose_with.new.self c.index_mut.ensures.value c.lose_with.ensures.fixed.0
    c.lose_with.ensures.fixed.1 c.lose_with.ensures.fixed.2

pub returns-clause-asked : goal.returns-clause-asked
returns-clause-asked g c =
    changed c.args.self.now.devices.items c.args.d c.place-at.result c.index_mut.result.now c.lose_with.new.self _ c.args.self.now.rising
    c.place-at.ensures.range c.place-at.ensures.found c.index_mut.ensures.value c.lose_with.ensures.run

pub lose_with-requires : goal.lose_with-requires
lose_with-requires g c =
    held c.args.self.now.devices.items c.args.d c.place-at.result c.index_mut.result.now
    (λ x. Takes g.K.Keep.takes c.args.keep.now x.store.number x.store.geometry (x.store.cylinders * 15))
    c.args.self.now.rising c.place-at.ensures.range c.place-at.ensures.found c.index_mut.ensures.value c.requires.takes

pub returns-clause-stands : goal.returns-clause-stands
returns-clause-stands g c =
    set_stands c.args.self.now.devices.items c.place-at.result c.index_mut.result.now c.lose_with.new.self c.place-at.ensures.range c.index_mut.ensures.value
    c.lose_with.ensures.fixed.0
    (stays_home c.index_mut.result.now c.lose_with.new.self (ran_lent (lose_based contents (device_of c.index_mut.result.now) c.args.loss) c.lose_with.ensures.run)
    c.lose_with.ensures.plain.stands (held c.args.self.now.devices.items c.args.d c.place-at.result c.index_mut.result.now (λ x. is_some (device_of x).store.lent ≡ false)
    c.args.self.now.rising c.place-at.ensures.range c.place-at.ensures.found c.index_mut.ensures.value c.requires.home))
