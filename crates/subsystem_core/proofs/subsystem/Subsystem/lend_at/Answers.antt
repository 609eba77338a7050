use Rattle.subsystem_core.proofs.Standing.{set_stands, stays_away}
use Rattle.device_core.specs.State.{device_of}
use Rattle.subsystem_core.specs.Devices.{device_at}
use Rattle.subsystem_core.proofs.Found.{changed, found, is_at, numbers_kept}
use Rattle.subsystem_core.proofs.Hearing.{spans_kept}
use Rattle.subsystem_core.proofs.Pairing.{may_lend, told_of}
use Rattle.subsystem_core.proofs.Seating.{alike_lent, lend_based, ran_lent}
use Rattle.subsystem_core.proofs.subsystem.Subsystem.lend_at.Goals as goal

pub lend_with-requires : goal.lend_with-requires
lend_with-requires g c =
    let ds = c.args.self.now.devices.items in
    let at = is_at ds c.args.d c.place-at.result c.index_mut.result.now c.place-at.ensures.range c.place-at.ensures.found c.index_mut.ensures.value in
    let l = may_lend (device_at ds c.args.to) (device_at ds c.args.d) c.index_mut.result.now
    (found ds c.args.d c.place-at.result c.index_mut.result.now c.args.self.now.rising at) c.requires.fine in
    l.may.single_y

pub invariant_of-self : goal.invariant_of-self
invariant_of-self g c =
    let ds = c.args.self.now.devices.items in
    let x = c.index_mut.result.now in
    let at = is_at ds c.args.d c.place-at.result x c.place-at.ensures.range c.place-at.ensures.found c.index_mut.ensures.value in
    let l = may_lend (device_at ds c.args.to) (device_at ds c.args.d) x (found ds c.args.d c.place-at.result x c.args.self.now.rising at) c.requires.fine in
    let same = numbers_kept ds c.place-at.result x c.lend_with.new.self c.index_mut.ensures.value c.lend_with.ensures.fixed.0 in
    record {
      rising = rw same c.args.self.now.rising;
      table = rw same c.args.self.now.table;
      alike = alike_lent ds c.place-at.result c.args.to x c.lend_with.new.self l.to at.stands c.lend_with.ensures.fixed.0 c.lend_with.ensures.fixed.1
          (ran_lent (lend_based (device_of x) c.args.to) (c.lend_with.ensures.run c.args._keep.now)) l.stands l.may.alike c.args.self.now.alike;
    }

pub returns-clause-spans : goal.returns-clause-spans
returns-clause-spans g c =
    spans_kept c.args.self.now.devices.items c.place-at.result c.index_mut.result.now c.lend_with.new.self c.index_mut.ensures.value
    c.lend_with.ensures.fixed.0 c.lend_with.ensures.fixed.1 c.lend_with.ensures.fixed.2

pub returns-clause-lent : goal.returns-clause-lent
returns-clause-lent g c =
    changed c.args.self.now.devices.items c.args.d c.place-at.result c.index_mut.result.now c.lend_with.new.self _ c.args.self.now.rising
    c.place-at.ensures.range c.place-at.ensures.found c.index_mut.ensures.value (record {
      asked = c.lend_with.ensures.run;
      number = c.lend_with.ensures.fixed.0;
      gone = c.lend_with.ensures.a;
      volume_is = c.lend_with.ensures.back;
    })

pub returns-clause-stands : goal.returns-clause-stands
returns-clause-stands g c =
    let ds = c.args.self.now.devices.items in
    let x = c.index_mut.result.now in
    let at = is_at ds c.args.d c.place-at.result x c.place-at.ensures.range c.place-at.ensures.found c.index_mut.ensures.value in
    let l = may_lend (device_at ds c.args.to) (device_at ds c.args.d) x (found ds c.args.d c.place-at.result x c.args.self.now.rising at) c.requires.fine in
    set_stands ds c.place-at.result x c.lend_with.new.self c.place-at.ensures.range c.index_mut.ensures.value c.lend_with.ensures.fixed.0
    (stays_away x c.lend_with.new.self c.args.to (ran_lent (lend_based (device_of x) c.args.to) (c.lend_with.ensures.run c.args._keep.now)) l.may.free_y
    (c.lend_with.ensures.plain c.args._keep.now l.may.idle).stands)

pub returns-clause-told : goal.returns-clause-told
returns-clause-told g c =
    λ pasts firsts all.
    let ds = c.args.self.now.devices.items in
    let x = c.index_mut.result.now in
    let at = is_at ds c.args.d c.place-at.result x c.place-at.ensures.range c.place-at.ensures.found c.index_mut.ensures.value in
    let l = may_lend (device_at ds c.args.to) (device_at ds c.args.d) x (found ds c.args.d c.place-at.result x c.args.self.now.rising at) c.requires.fine in
    told_of pasts firsts ds c.place-at.result x c.place-at.ensures.range c.index_mut.ensures.value l.may.up l.may.free_y c.lend_with.result
    c.lend_with.ensures.back all
