use Rattle.std.proofs.Common.{ap}
use Rattle.subsystem_core.proofs.Found.{changed, found, is_at, numbers_kept, put}
use Rattle.subsystem_core.proofs.Planned.{forgot_by}
use Rattle.subsystem_core.proofs.Seating.{alike_kept, sits_store}
use Rattle.subsystem_core.proofs.Standing.{stay_forgetting, still_stands}
use Rattle.subsystem_core.proofs.subsystem.Subsystem.forget.Goals as goal

pub invariant_of-self : goal.invariant_of-self
invariant_of-self g c =
    let same = numbers_kept c.args.self.now.devices.items c.place-at.result c.index_mut.result.now c.forget.new.self c.index_mut.ensures.value (ap
    (λ s. s.number) c.forget.ensures.store) in
    record {
      rising = rw same c.args.self.now.rising;
      table = rw same c.args.self.now.table;
      alike = alike_kept c.args.self.now.devices.items c.place-at.result c.index_mut.result.now c.forget.new.self c.index_mut.ensures.value
          (sits_store _ _ c.forget.ensures.store) c.args.self.now.alike;
    }

pub returns-clause-numbers : goal.returns-clause-numbers
returns-clause-numbers g c =
    numbers_kept c.args.self.now.devices.items c.place-at.result c.index_mut.result.now c.forget.new.self c.index_mut.ensures.value
    (ap (λ s. s.number) c.forget.ensures.store)

pub returns-clause-forgot : goal.returns-clause-forgot
returns-clause-forgot g c =
    changed c.args.self.now.devices.items c.args.d c.place-at.result c.index_mut.result.now c.forget.new.self _ c.args.self.now.rising
    c.place-at.ensures.range c.place-at.ensures.found c.index_mut.ensures.value
    (forgot_by c.forget.result c.index_mut.result.now c.forget.new.self c.forget.ensures.refused c.forget.ensures.device c.forget.ensures.same c.forget.ensures.store
    c.forget.ensures.forgets)

pub returns-clause-stands : goal.returns-clause-stands
returns-clause-stands g c =
    let ds = c.args.self.now.devices.items in
    let x = c.index_mut.result.now in
    let at = is_at ds c.args.d c.place-at.result x c.place-at.ensures.range c.place-at.ensures.found c.index_mut.ensures.value in
    stay_forgetting c.forget.result ds _ c.args.d x c.forget.new.self c.args.self.now.rising (found ds c.args.d c.place-at.result x c.args.self.now.rising at)
    (put ds c.args.d c.place-at.result x c.forget.new.self c.args.self.now.rising at) c.forget.ensures.store c.forget.ensures.forgets
    (still_stands c.forget.result ds c.place-at.result x c.forget.new.self c.place-at.ensures.range c.index_mut.ensures.value c.forget.ensures.same
    c.forget.ensures.store)
