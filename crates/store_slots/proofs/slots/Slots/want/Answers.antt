use Rattle.std.proofs.Common.{arith, ap, ℕ, Bool, List}
use Rattle.std.proofs.lemmas.Bool.Decides.{nat_tests}
use Rattle.store_slots.specs.Slots.{Store}
use Rattle.store_slots.proofs.Numbers.{numbers_more, not_a_number, how_many}
use Rattle.store_slots.proofs.slots.Slots.want.Goals as goal

abbrev seen : ℕ → Bool → List ℕ → Store
seen most up used = record { slots = most; used = used; up = up }

pub returns-then-len-from-clause-grant : goal.returns-then-len-from-clause-grant
returns-then-len-from-clause-grant c = rw (← c.self.view_is) (let h = how_many 0 c.self.inside.used.slots in grind (arith, nat_tests))

pub returns-clause-grant : goal.returns-clause-grant
returns-clause-grant c = rw (← c.self.view_is) (let h = how_many 0 c.self.inside.used.slots in grind (arith, nat_tests))

pub returns-clause-free : goal.returns-clause-free
returns-clause-free c = rw (← c.self.view_is) (not_a_number c.insert_reserved.result 0 c.insert_reserved.result
    c.self.inside.used.slots (omega arith) c.insert_reserved.ensures.was_vacant)

pub returns-clause-after : goal.returns-clause-after
returns-clause-after c =
    let s = c.self.inside in
    let u = c.insert_reserved.ensures.updates in
    let k = c.insert_reserved.result in
    rw (← c.self.view_is) (ap (seen s.most s.up) (numbers_more k 0 k s.used.slots c.insert_reserved.new.self.slots
    tt (omega arith) c.insert_reserved.ensures.was_vacant u.changed u.others))
