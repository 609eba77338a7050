use Rattle.subsystem_core.proofs.Standing.{set_stands, stay_plain, stays_by}
use Rattle.std.proofs.Common.{ap}
use Rattle.subsystem_core.proofs.Found.{changed, numbers_kept}
use Rattle.subsystem_core.proofs.Planned.{planned_by}
use Rattle.subsystem_core.proofs.Seating.{alike_kept, sits_store}
use Rattle.subsystem_core.proofs.subsystem.Subsystem.plan.Goals as goal

pub invariant_of-self : goal.invariant_of-self
invariant_of-self g c =
    let same = numbers_kept c.args.self.now.devices.items c.place-at.result c.index_mut.result.now c.plan.new.self c.index_mut.ensures.value (ap
    (λ s. s.number) c.plan.ensures.store) in
    record {
      rising = rw same c.args.self.now.rising;
      table = rw same c.args.self.now.table;
      alike = alike_kept c.args.self.now.devices.items c.place-at.result c.index_mut.result.now c.plan.new.self c.index_mut.ensures.value
          (sits_store _ _ c.plan.ensures.store) c.args.self.now.alike;
    }

pub returns-clause-numbers : goal.returns-clause-numbers
returns-clause-numbers g c =
    numbers_kept c.args.self.now.devices.items c.place-at.result c.index_mut.result.now c.plan.new.self c.index_mut.ensures.value
    (ap (λ s. s.number) c.plan.ensures.store)

pub returns-clause-planned : goal.returns-clause-planned
returns-clause-planned g c =
    changed c.args.self.now.devices.items c.args.d c.place-at.result c.index_mut.result.now c.plan.new.self _ c.args.self.now.rising
    c.place-at.ensures.range c.place-at.ensures.found c.index_mut.ensures.value
    (planned_by c.args.path c.args.program c.plan.result c.index_mut.result.now c.plan.new.self c.plan.ensures.full c.plan.ensures.device c.plan.ensures.same c.plan.ensures.store
    c.plan.ensures.sound c.plan.ensures.plain c.plan.ensures.excused c.plan.ensures.lent)

pub returns-clause-plain : goal.returns-clause-plain
returns-clause-plain g c =
    stay_plain _ _
    (set_stands c.args.self.now.devices.items c.place-at.result c.index_mut.result.now c.plan.new.self c.place-at.ensures.range c.index_mut.ensures.value
    (ap (λ s. s.number) c.plan.ensures.store)
    (stays_by c.index_mut.result.now c.plan.new.self (ap (λ s. s.pair.lent) c.plan.ensures.store) c.plan.ensures.plain.stands c.plan.ensures.lent.stands))
