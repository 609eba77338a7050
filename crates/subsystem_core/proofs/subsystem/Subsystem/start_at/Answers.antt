use Rattle.subsystem_core.proofs.Standing.{set_stands, starts_home, stays_home}
use Rattle.std.proofs.Common.{◌≡◌, ◌∙◌, None, ap, false, sym}
use Rattle.plain_defs.specs.History.{is_path_of}
use Rattle.device_defs.specs.Start.{start_fault}
use Rattle.device_core.specs.State.{device_of}
use Rattle.subsystem_core.proofs.Coming.{starts_by}
use Rattle.subsystem_core.proofs.Found.{changed, numbers_kept, held}
use Rattle.subsystem_core.proofs.Hearing.{spans_kept}
use Rattle.subsystem_core.proofs.Seating.{alike_kept, sits_store}
use Rattle.subsystem_core.proofs.subsystem.Subsystem.start_at.Goals as goal

pub start-outcome-requires : goal.start-outcome-requires
start-outcome-requires g c =
    record {
      idle = held c.args.self.now.devices.items c.args.d c.place-at.result c.index_mut.result.now (λ x. is_path_of
          (device_of x).history.running c.args.path ≡ false) c.args.self.now.rising
          c.place-at.ensures.range c.place-at.ensures.found c.index_mut.ensures.value c.requires.idle;
    }

pub not_refused-requires : goal.not_refused-requires
not_refused-requires g c =
    sym c.start-outcome.ensures.fault
    ∙ held c.args.self.now.devices.items c.args.d c.place-at.result c.index_mut.result.now (λ x. start_fault (device_of x) c.args.path ≡ None)
    c.args.self.now.rising c.place-at.ensures.range c.place-at.ensures.found c.index_mut.ensures.value c.requires.free

pub invariant_of-self : goal.invariant_of-self
invariant_of-self g c =
    let same = numbers_kept c.args.self.now.devices.items c.place-at.result c.index_mut.result.now c.start-outcome.new.self c.index_mut.ensures.value (ap
    (λ s. s.number) c.start-outcome.ensures.store) in
    record {
      rising = rw same c.args.self.now.rising;
      table = rw same c.args.self.now.table;
      alike = alike_kept c.args.self.now.devices.items c.place-at.result c.index_mut.result.now c.start-outcome.new.self c.index_mut.ensures.value
          (sits_store _ _ c.start-outcome.ensures.store) c.args.self.now.alike;
    }

pub returns-clause-spans : goal.returns-clause-spans
returns-clause-spans g c =
    spans_kept c.args.self.now.devices.items c.place-at.result c.index_mut.result.now c.start-outcome.new.self c.index_mut.ensures.value
    (ap (λ s. s.number) c.start-outcome.ensures.store) (ap (λ s. s.cylinders) c.start-outcome.ensures.store)
    (ap (λ s. s.geometry) c.start-outcome.ensures.store)

pub returns-clause-done : goal.returns-clause-done
returns-clause-done g c =
    changed c.args.self.now.devices.items c.args.d c.place-at.result c.index_mut.result.now c.start-outcome.new.self _ c.args.self.now.rising
    c.place-at.ensures.range c.place-at.ensures.found c.index_mut.ensures.value
    (starts_by c.args.path c.not_refused.result c.start-outcome.result c.index_mut.result.now c.start-outcome.new.self _ c.not_refused.ensures.ordinal
    c.not_refused.ensures.lacked c.start-outcome.ensures.ordinal c.start-outcome.ensures.started c.start-outcome.ensures.same
    c.start-outcome.ensures.store)

pub returns-clause-stands : goal.returns-clause-stands
returns-clause-stands g c =
    set_stands c.args.self.now.devices.items c.place-at.result c.index_mut.result.now c.start-outcome.new.self c.place-at.ensures.range c.index_mut.ensures.value
    (ap (λ s. s.number) c.start-outcome.ensures.store)
    (stays_home c.index_mut.result.now c.start-outcome.new.self (ap (λ s. s.pair.lent) c.start-outcome.ensures.store) c.start-outcome.ensures.plain.stands
    (starts_home (device_of c.index_mut.result.now) c.args.path (held c.args.self.now.devices.items c.args.d c.place-at.result c.index_mut.result.now (λ x. start_fault (device_of x) c.args.path ≡ None)
    c.args.self.now.rising c.place-at.ensures.range c.place-at.ensures.found c.index_mut.ensures.value c.requires.free)))
