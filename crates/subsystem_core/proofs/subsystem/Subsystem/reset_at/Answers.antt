use Rattle.subsystem_core.proofs.Standing.{set_stands, stays_by}
use Rattle.std.specs.Prelude.{◌*◌}
use Rattle.device_store.specs.State.{Takes}
use Rattle.device_defs.specs.Contents.{contents}
use Rattle.device_laws.proofs.BasedEvents.{reset_body}
use Rattle.device_outside.specs.Outside as P
use Rattle.device_core.specs.State.{device_of}
use Rattle.subsystem_core.proofs.Found.{changed, held, numbers_kept}
use Rattle.subsystem_core.proofs.Hearing.{spans_kept}
use Rattle.subsystem_core.proofs.Seating.{alike_kept, ran_lent}
use Rattle.subsystem_core.proofs.subsystem.Subsystem.reset_at.Goals as goal

pub invariant_of-self : goal.invariant_of-self
invariant_of-self g c =
    let same = numbers_kept c.args.self.now.devices.items c.place-at.result c.index_mut.result.now c.reset_with.new.self c.index_mut.ensures.value
    c.reset_with.ensures.fixed.0 in
    record {
      rising = rw same c.args.self.now.rising;
      table = rw same c.args.self.now.table;
      alike = alike_kept c.args.self.now.devices.items c.place-at.result c.index_mut.result.now c.reset_with.new.self c.index_mut.ensures.value (record {
        number = c.reset_with.ensures.fixed.0;
        cylinders = c.reset_with.ensures.fixed.1;
        lent = ran_lent (reset_body contents (device_of c.index_mut.result.now) c.args.path) (c.reset_with.ensures.run (P.no_pool 0));
      }) c.args.self.now.alike;
    }

pub returns-clause-spans : goal.returns-clause-spans
returns-clause-spans g c =
    spans_kept c.args.self.now.devices.items c.place-at.result c.index_mut.result.now c.reset_with.new.self c.index_mut.ensures.value
    c.reset_with.ensures.fixed.0 c.reset_with.ensures.fixed.1 c.reset_with.ensures.fixed.2

pub returns-clause-asked : goal.returns-clause-asked
returns-clause-asked g c =
    changed c.args.self.now.devices.items c.args.d c.place-at.result c.index_mut.result.now c.reset_with.new.self _ c.args.self.now.rising
    c.place-at.ensures.range c.place-at.ensures.found c.index_mut.ensures.value (c.reset_with.ensures.run _)

pub reset_with-requires : goal.reset_with-requires
reset_with-requires g c = record {
  takes =
      held c.args.self.now.devices.items c.args.d c.place-at.result c.index_mut.result.now
      (λ x. Takes g.K.Keep.takes c.args.keep.now x.store.number x.store.geometry (x.store.cylinders * 15))
      c.args.self.now.rising c.place-at.ensures.range c.place-at.ensures.found c.index_mut.ensures.value c.requires.takes;
}

pub returns-clause-stands : goal.returns-clause-stands
returns-clause-stands g c =
    set_stands c.args.self.now.devices.items c.place-at.result c.index_mut.result.now c.reset_with.new.self c.place-at.ensures.range c.index_mut.ensures.value
    c.reset_with.ensures.fixed.0
    (stays_by c.index_mut.result.now c.reset_with.new.self (ran_lent (reset_body contents (device_of c.index_mut.result.now) c.args.path) (c.reset_with.ensures.run (P.no_pool 0)))
    c.reset_with.ensures.plain.stands c.reset_with.ensures.lent.stands)
