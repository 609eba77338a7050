use Rattle.std.proofs.Common.{◌≡◌, ◌+◌, ◌∷◌, length, ap, arith}
use Rattle.track_table.specs.Marked.{marked_left}
use Rattle.track_table.proofs.Rising.{next_marked, none_marked}
use Rattle.track_table.proofs.bits.MarkedIterator.next.Goals as goal

pub returns-in-Some-clause-steps : goal.returns-in-Some-clause-steps
returns-in-Some-clause-steps c = rw c.get.ensures.value (next_marked c.args.self.now.bits.now c.args.self.now.from c.in-Some.t c.in-Some.ensures)

pub returns-in-None-clause-steps : goal.returns-in-None-clause-steps
returns-in-None-clause-steps c = let none = none_marked c.args.self.now.bits.now c.args.self.now.from c.in-None.ensures in (none, none)

pub returns-in-Some-clause-goes : goal.returns-in-Some-clause-goes
returns-in-Some-clause-goes c =
    let e : marked_left c.args.self.now ≡ c.in-Some.t ∷ marked_left (record { bits = c.args.self.now.bits; from = c.get.result + 1 }) =
    rw c.get.ensures.value (next_marked c.args.self.now.bits.now c.args.self.now.from c.in-Some.t c.in-Some.ensures) in
    record { on = λ finite. (tt, tt, omega (arith, ap length e)); keeps = tt; rests = λ finite. tt }
