use Rattle.std.proofs.Common.{arith, ap, ℕ, Bool, List}
use Rattle.store_slots.specs.Slots.{Store}
use Rattle.store_slots.proofs.Numbers.{numbers_less}
use Rattle.store_slots.proofs.slots.Slots.free.Goals as goal

abbrev seen : ℕ → Bool → List ℕ → Store
seen most up used = record { slots = most; used = used; up = up }

pub returns : goal.returns
returns c =
    let s = c.self.inside in
    let u = c.try_remove.ensures.updates in
    rw (← c.self.view_is) (ap (seen s.most s.up) (numbers_less c.args.slot 0 c.args.slot s.used.slots
    c.try_remove.new.self.slots (omega arith) u.changed u.others))
