use Rattle.subsystem_core.proofs.Standing.{set_stands, stays_half}
use Rattle.std.specs.Prelude.{◌*◌, ◌≡◌, is_some, true}
use Rattle.device_store.specs.State.{Takes}
use Rattle.device_core.specs.State.{last_end, second_seen, device_of}
use Rattle.subsystem_core.proofs.Found.{changed, held, numbers_kept}
use Rattle.subsystem_core.proofs.Hearing.{spans_kept}
use Rattle.subsystem_core.proofs.Seating.{alike_kept, second_lent}
use Rattle.subsystem_core.proofs.subsystem.Subsystem.second_at.Goals as goal

pub invariant_of-self : goal.invariant_of-self
invariant_of-self g c =
    let same = numbers_kept c.args.self.now.devices.items c.place-at.result c.index_mut.result.now c.second_with.new.self c.index_mut.ensures.value
    c.second_with.ensures.fixed.0 in
    record {
      rising = rw same c.args.self.now.rising;
      table = rw same c.args.self.now.table;
      alike = alike_kept c.args.self.now.devices.items c.place-at.result c.index_mut.result.now c.second_with.new.self c.index_mut.ensures.value (record {
        number = c.second_with.ensures.fixed.0;
        cylinders = c.second_with.ensures.fixed.1;
        lent = second_lent (second_seen (last_end c.second_with.new.self) c.second_with.result) c.index_mut.result.now c.second_with.new.self _ _
            c.second_with.ensures.seen c.second_with.ensures.run;
      }) c.args.self.now.alike;
    }

pub returns-clause-spans : goal.returns-clause-spans
returns-clause-spans g c =
    spans_kept c.args.self.now.devices.items c.place-at.result c.index_mut.result.now c.second_with.new.self c.index_mut.ensures.value
    c.second_with.ensures.fixed.0 c.second_with.ensures.fixed.1 c.second_with.ensures.fixed.2

pub returns-clause-asked : goal.returns-clause-asked
returns-clause-asked g c =
    changed c.args.self.now.devices.items c.args.d c.place-at.result c.index_mut.result.now c.second_with.new.self _ c.args.self.now.rising
    c.place-at.ensures.range c.place-at.ensures.found c.index_mut.ensures.value (c.second_with.ensures.seen, c.second_with.ensures.run)

pub second_with-requires : goal.second_with-requires
second_with-requires g c = record {
  takes =
      held c.args.self.now.devices.items c.args.d c.place-at.result c.index_mut.result.now
      (λ x. Takes g.K.Keep.takes c.args.keep.now x.store.number x.store.geometry (x.store.cylinders * 15))
      c.args.self.now.rising c.place-at.ensures.range c.place-at.ensures.found c.index_mut.ensures.value c.requires.takes;
}

pub returns-clause-stands : goal.returns-clause-stands
returns-clause-stands g c =
    set_stands c.args.self.now.devices.items c.place-at.result c.index_mut.result.now c.second_with.new.self c.place-at.ensures.range c.index_mut.ensures.value
    c.second_with.ensures.fixed.0
    (let half = (held c.args.self.now.devices.items c.args.d c.place-at.result c.index_mut.result.now (λ x. is_some (device_of x).store.half ≡ true)
    c.args.self.now.rising c.place-at.ensures.range c.place-at.ensures.found c.index_mut.ensures.value c.requires.open) in
    stays_half c.index_mut.result.now c.second_with.new.self (second_lent (second_seen (last_end c.second_with.new.self) c.second_with.result) c.index_mut.result.now c.second_with.new.self _ _
    c.second_with.ensures.seen c.second_with.ensures.run) (c.second_with.ensures.plain half).stands half)
