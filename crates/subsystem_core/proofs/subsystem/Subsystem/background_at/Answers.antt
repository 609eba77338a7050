use Rattle.subsystem_core.proofs.Standing.{none_lent_at, set_stands, stays_worked}
use Rattle.device_store.specs.State.{Takes}
use Rattle.device_core.specs.State.{device_of}
use Rattle.std.specs.Prelude.{◌≡◌, false, is_some, ◌*◌}
use Rattle.device_defs.specs.Contents.{contents}
use Rattle.device_laws.proofs.BasedEvents.{background_based}
use Rattle.subsystem_core.proofs.Found.{changed, held, numbers_kept}
use Rattle.subsystem_core.proofs.Hearing.{spans_kept}
use Rattle.subsystem_core.proofs.Seating.{alike_kept, ran_lent}
use Rattle.subsystem_core.proofs.subsystem.Subsystem.background_at.Goals as goal

pub invariant_of-self : goal.invariant_of-self
invariant_of-self g c =
    let same = numbers_kept c.args.self.now.devices.items c.place-at.result c.index_mut.result.now c.background_with.new.self c.index_mut.ensures.value
    c.background_with.ensures.fixed.0 in
    record {
      rising = rw same c.args.self.now.rising;
      table = rw same c.args.self.now.table;
      alike = alike_kept c.args.self.now.devices.items c.place-at.result c.index_mut.result.now c.background_with.new.self c.index_mut.ensures.value (record {
        number = c.background_with.ensures.fixed.0;
        cylinders = c.background_with.ensures.fixed.1;
        lent = ran_lent (background_based contents (device_of c.index_mut.result.now)) c.background_with.ensures.run;
      }) c.args.self.now.alike;
    }

pub returns-clause-spans : goal.returns-clause-spans
returns-clause-spans g c =
    spans_kept c.args.self.now.devices.items c.place-at.result c.index_mut.result.now c.background_with.new.self c.index_mut.ensures.value
    c.background_with.ensures.fixed.0 c.background_with.ensures.fixed.1 c.background_with.ensures.fixed.2

pub returns-clause-asked : goal.returns-clause-asked
returns-clause-asked g c =
    changed c.args.self.now.devices.items c.args.d c.place-at.result c.index_mut.result.now c.background_with.new.self _ c.args.self.now.rising
    c.place-at.ensures.range c.place-at.ensures.found c.index_mut.ensures.value c.background_with.ensures.run

pub background_with-requires-clause-whole : goal.background_with-requires-clause-whole
background_with-requires-clause-whole g c =
    held c.args.self.now.devices.items c.args.d c.place-at.result c.index_mut.result.now (λ x. is_some (device_of x).store.half ≡ false)
    c.args.self.now.rising c.place-at.ensures.range c.place-at.ensures.found c.index_mut.ensures.value c.requires.whole

pub background_with-requires-clause-takes : goal.background_with-requires-clause-takes
background_with-requires-clause-takes g c =
    held c.args.self.now.devices.items c.args.d c.place-at.result c.index_mut.result.now
    (λ x. Takes g.K.Keep.takes c.args.keep.now x.store.number x.store.geometry (x.store.cylinders * 15))
    c.args.self.now.rising c.place-at.ensures.range c.place-at.ensures.found c.index_mut.ensures.value c.requires.takes

pub returns-clause-stands : goal.returns-clause-stands
returns-clause-stands g c =
    λ none.
    set_stands c.args.self.now.devices.items c.place-at.result c.index_mut.result.now c.background_with.new.self c.place-at.ensures.range c.index_mut.ensures.value
    c.background_with.ensures.fixed.0
    (stays_worked c.index_mut.result.now c.background_with.new.self (ran_lent (background_based contents (device_of c.index_mut.result.now)) c.background_with.ensures.run)
    c.background_with.ensures.plain.stands c.background_with.result c.background_with.ensures.lent
    (none_lent_at c.background_with.result c.args.self.now.devices.items c.place-at.result c.index_mut.result.now c.place-at.ensures.range c.index_mut.ensures.value none))
