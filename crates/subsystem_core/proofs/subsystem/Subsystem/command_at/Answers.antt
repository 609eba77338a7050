use Rattle.subsystem_core.proofs.Standing.{set_stands, stays_running}
use Rattle.device_store.specs.State.{Takes}
use Rattle.std.specs.Prelude.{◌≡◌, IsSome, false, is_some, ◌*◌}
use Rattle.device_core.specs.State.{device_of}
use Rattle.device_defs.specs.Contents.{contents}
use Rattle.device_laws.proofs.BasedEvents.{command_based}
use Rattle.subsystem_core.proofs.Found.{changed, held, numbers_kept}
use Rattle.subsystem_core.proofs.Hearing.{spans_kept}
use Rattle.subsystem_core.proofs.Seating.{alike_kept, ran_lent}
use Rattle.subsystem_core.proofs.subsystem.Subsystem.command_at.Goals as goal

pub command_with-requires-clause-whole : goal.command_with-requires-clause-whole
command_with-requires-clause-whole g c =
    held c.args.self.now.devices.items c.args.d c.place-at.result c.index_mut.result.now (λ x. is_some (device_of x).store.half ≡ false)
    c.args.self.now.rising c.place-at.ensures.range c.place-at.ensures.found c.index_mut.ensures.value c.requires.whole

pub command_with-requires-clause-running : goal.command_with-requires-clause-running
command_with-requires-clause-running g c =
    held c.args.self.now.devices.items c.args.d c.place-at.result c.index_mut.result.now (λ x. IsSome (device_of x).history.running) c.args.self.now.rising
    c.place-at.ensures.range c.place-at.ensures.found c.index_mut.ensures.value c.requires.running

pub command_with-requires-clause-takes : goal.command_with-requires-clause-takes
command_with-requires-clause-takes g c =
    held c.args.self.now.devices.items c.args.d c.place-at.result c.index_mut.result.now
    (λ x. Takes g.K.Keep.takes c.args.keep.now x.store.number x.store.geometry (x.store.cylinders * 15))
    c.args.self.now.rising c.place-at.ensures.range c.place-at.ensures.found c.index_mut.ensures.value c.requires.takes

pub invariant_of-self : goal.invariant_of-self
invariant_of-self g c =
    let same = numbers_kept c.args.self.now.devices.items c.place-at.result c.index_mut.result.now c.command_with.new.self c.index_mut.ensures.value
    c.command_with.ensures.fixed.0 in
    record {
      rising = rw same c.args.self.now.rising;
      table = rw same c.args.self.now.table;
      alike = alike_kept c.args.self.now.devices.items c.place-at.result c.index_mut.result.now c.command_with.new.self c.index_mut.ensures.value (record {
        number = c.command_with.ensures.fixed.0;
        cylinders = c.command_with.ensures.fixed.1;
        lent = ran_lent (command_based contents (device_of c.index_mut.result.now)) c.command_with.ensures.run;
      }) c.args.self.now.alike;
    }

pub returns-clause-spans : goal.returns-clause-spans
returns-clause-spans g c =
    spans_kept c.args.self.now.devices.items c.place-at.result c.index_mut.result.now c.command_with.new.self c.index_mut.ensures.value
    c.command_with.ensures.fixed.0 c.command_with.ensures.fixed.1 c.command_with.ensures.fixed.2

pub returns-clause-asked : goal.returns-clause-asked
returns-clause-asked g c =
    changed c.args.self.now.devices.items c.args.d c.place-at.result c.index_mut.result.now c.command_with.new.self _ c.args.self.now.rising
    c.place-at.ensures.range c.place-at.ensures.found c.index_mut.ensures.value c.command_with.ensures.run

pub returns-clause-stands : goal.returns-clause-stands
returns-clause-stands g c =
    set_stands c.args.self.now.devices.items c.place-at.result c.index_mut.result.now c.command_with.new.self c.place-at.ensures.range c.index_mut.ensures.value
    c.command_with.ensures.fixed.0
    (stays_running c.index_mut.result.now c.command_with.new.self (ran_lent (command_based contents (device_of c.index_mut.result.now)) c.command_with.ensures.run)
    c.command_with.ensures.plain.stands (held c.args.self.now.devices.items c.args.d c.place-at.result c.index_mut.result.now (λ x. IsSome (device_of x).history.running)
    c.args.self.now.rising c.place-at.ensures.range c.place-at.ensures.found c.index_mut.ensures.value c.requires.running))
