use Rattle.std.specs.Prelude.{◌*◌, ◌<◌, ◌≡◌, false}
use Rattle.device_defs.specs.Contents.{contents}
use Rattle.device_laws.proofs.BasedEvents.{peek_based}
use Rattle.device_core.specs.State.{device_of}
use Rattle.device_store.specs.State.{Takes}
use Rattle.subsystem_core.proofs.Found.{changed, held, numbers_kept}
use Rattle.subsystem_core.proofs.Hearing.{spans_kept}
use Rattle.subsystem_core.proofs.Seating.{alike_kept, ran_lent}
use Rattle.subsystem_core.proofs.Standing.{set_stands, stays_by}
use Rattle.subsystem_laws.specs.Looking.{is_written_at}
use Rattle.subsystem_core.proofs.subsystem.Subsystem.peek_at.Goals as goal

pub peek_with-requires-clause-track : goal.peek_with-requires-clause-track
peek_with-requires-clause-track g c =
    held c.args.self.now.devices.items c.args.d c.place-at.result c.index_mut.result.now (λ x. c.args.t < x.store.cylinders * 15)
    c.args.self.now.rising c.place-at.ensures.range c.place-at.ensures.found c.index_mut.ensures.value c.requires.track

pub peek_with-requires-clause-takes : goal.peek_with-requires-clause-takes
peek_with-requires-clause-takes g c =
    held c.args.self.now.devices.items c.args.d c.place-at.result c.index_mut.result.now
    (λ x. Takes g.K.Keep.takes c.args.keep.now x.store.number x.store.geometry (x.store.cylinders * 15))
    c.args.self.now.rising c.place-at.ensures.range c.place-at.ensures.found c.index_mut.ensures.value c.requires.takes

pub invariant_of-self : goal.invariant_of-self
invariant_of-self g c =
    let same = numbers_kept c.args.self.now.devices.items c.place-at.result c.index_mut.result.now c.peek_with.new.self c.index_mut.ensures.value
    c.peek_with.ensures.fixed.0 in
    record {
      rising = rw same c.args.self.now.rising;
      table = rw same c.args.self.now.table;
      alike = alike_kept c.args.self.now.devices.items c.place-at.result c.index_mut.result.now c.peek_with.new.self c.index_mut.ensures.value (record {
        number = c.peek_with.ensures.fixed.0;
        cylinders = c.peek_with.ensures.fixed.1;
        lent = ran_lent (peek_based contents (device_of c.index_mut.result.now) c.args.t) c.peek_with.ensures.run;
      }) c.args.self.now.alike;
    }

pub returns-clause-spans : goal.returns-clause-spans
returns-clause-spans g c =
    spans_kept c.args.self.now.devices.items c.place-at.result c.index_mut.result.now c.peek_with.new.self c.index_mut.ensures.value
    c.peek_with.ensures.fixed.0 c.peek_with.ensures.fixed.1 c.peek_with.ensures.fixed.2

pub returns-clause-asked : goal.returns-clause-asked
returns-clause-asked g c =
    changed c.args.self.now.devices.items c.args.d c.place-at.result c.index_mut.result.now c.peek_with.new.self _ c.args.self.now.rising
    c.place-at.ensures.range c.place-at.ensures.found c.index_mut.ensures.value (c.peek_with.ensures.there, c.peek_with.ensures.run)

pub returns-clause-stands : goal.returns-clause-stands
returns-clause-stands g c = λ unwritten.
    let x = c.index_mut.result.now in
    set_stands c.args.self.now.devices.items c.place-at.result x c.peek_with.new.self c.place-at.ensures.range c.index_mut.ensures.value
    c.peek_with.ensures.fixed.0
    (stays_by x c.peek_with.new.self (ran_lent (peek_based contents (device_of x) c.args.t) c.peek_with.ensures.run)
    (c.peek_with.ensures.plain (held c.args.self.now.devices.items c.args.d c.place-at.result x (λ d. is_written_at (device_of d).store.half c.args.t ≡ false)
    c.args.self.now.rising c.place-at.ensures.range c.place-at.ensures.found c.index_mut.ensures.value unwritten)).stands c.peek_with.ensures.lent.stands)
