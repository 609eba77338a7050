use Rattle.subsystem_core.proofs.Standing.{restored_stands}
use Rattle.subsystem_core.proofs.Found.{numbers_kept}
use Rattle.subsystem_core.proofs.Numbers.{below_same}
use Rattle.subsystem_core.proofs.Parting.{all_restored, all_still, place_of, restored_alike, restored_number, restored_size, stands_there}
use Rattle.subsystem_core.proofs.subsystem.Subsystem.restore_at.Goals as goal

pub index_mut-requires : goal.index_mut-requires
index_mut-requires g c = below_same (place_of c.args.a c.args.self.now.devices.items c.args.at c.requires.lent) c.args.self.now.devices.ok.0

pub restore-requires : goal.restore-requires
restore-requires g c =
    let ds = c.args.self.now.devices.items in
    let x = c.index_mut.result.now in
    let p = stands_there c.args.a ds c.args.at x c.requires.lent c.index_mut.ensures.value in
    restored_size c.args.a c.args.at c.args.volume ds x p.stands p.lent c.args.self.now.alike c.requires.size

pub invariant_of-self : goal.invariant_of-self
invariant_of-self g c =
    let ds = c.args.self.now.devices.items in
    let x = c.index_mut.result.now in
    let y = c.restore.new.self in
    let p = stands_there c.args.a ds c.args.at x c.requires.lent c.index_mut.ensures.value in
    let same = numbers_kept ds c.args.at x y c.index_mut.ensures.value (restored_number x y c.restore.result c.restore.ensures.device c.restore.ensures.same) in
    record {
      rising = rw same c.args.self.now.rising;
      table = rw same c.args.self.now.table;
      alike = restored_alike x y ds c.args.at c.index_mut.ensures.value p.stands c.restore.result c.restore.ensures.device c.restore.ensures.same
          c.args.self.now.alike;
    }

pub returns-clause-numbers : goal.returns-clause-numbers
returns-clause-numbers g c =
    numbers_kept c.args.self.now.devices.items c.args.at c.index_mut.result.now c.restore.new.self c.index_mut.ensures.value
    (restored_number c.index_mut.result.now c.restore.new.self c.restore.result c.restore.ensures.device c.restore.ensures.same)

pub returns-clause-restored : goal.returns-clause-restored
returns-clause-restored g c =
    let ds = c.args.self.now.devices.items in
    let x = c.index_mut.result.now in
    let p = stands_there c.args.a ds c.args.at x c.requires.lent c.index_mut.ensures.value in
    all_restored x c.restore.new.self ds c.args.at c.index_mut.ensures.value p.stands c.restore.result c.args.a c.args.volume c.restore.ensures.device
    c.restore.ensures.a c.restore.ensures.b p.lent c.requires.lent.1

pub returns-clause-still : goal.returns-clause-still
returns-clause-still g c =
    let ds = c.args.self.now.devices.items in
    let x = c.index_mut.result.now in
    let p = stands_there c.args.a ds c.args.at x c.requires.lent c.index_mut.ensures.value in
    all_still x c.restore.new.self ds c.args.at c.index_mut.ensures.value p.stands c.restore.result c.restore.ensures.same

pub returns-clause-stands : goal.returns-clause-stands
returns-clause-stands g c =
    let ds = c.args.self.now.devices.items in
    let x = c.index_mut.result.now in
    let p = stands_there c.args.a ds c.args.at x c.requires.lent c.index_mut.ensures.value in
    restored_stands c.restore.result ds c.args.at c.args.a x c.restore.new.self (g.V.Volume.view c.args.volume)
    (place_of c.args.a ds c.args.at c.requires.lent) c.index_mut.ensures.value
    (restored_number x c.restore.new.self c.restore.result c.restore.ensures.device c.restore.ensures.same) p.lent
    (restored_size c.args.a c.args.at c.args.volume ds x p.stands p.lent c.args.self.now.alike c.requires.size)
    c.restore.ensures.device c.restore.ensures.same c.restore.ensures.plain
