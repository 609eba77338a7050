use Rattle.std.proofs.Common.{◌≡◌, ◌∙◌, ◌≤◌, arith, ap, length}
use Rattle.subsystem_core.specs.Keepers.{spans_of}
use Rattle.subsystem_core.specs.Seats.{seats_of}
use Rattle.subsystem_core.proofs.Found.{all_written}
use Rattle.subsystem_core.proofs.Hearing.{numbers_by_spans}
use Rattle.subsystem_core.proofs.subsystem.Subsystem.lose_all.Goals as goal

pub lose_each-requires : goal.lose_each-requires
lose_each-requires g c = record { takes = rw c.deref_mut.ensures.value c.requires.takes; no_side = c.requires.no_side }

pub invariant_of-self : goal.invariant_of-self
invariant_of-self g c =
    let ds = c.args.self.now.devices.items in
    let count : length c.lose_each.new.devices ≡ length ds = c.lose_each.auto.devices ∙ ap length c.deref_mut.ensures.value in
    let room : length ds ≤ c.args.self.now.devices.len = omega (arith, ap length c.deref_mut.ensures.value, c.deref_mut.ensures.len) in
    let seats = ap seats_of (all_written c.args.self.now.devices.len ds c.lose_each.new.devices room count)
    ∙ c.lose_each.ensures.seats ∙ ap seats_of c.deref_mut.ensures.value in
    let spans = ap spans_of (all_written c.args.self.now.devices.len ds c.lose_each.new.devices room count)
    ∙ c.lose_each.ensures.spans ∙ ap spans_of c.deref_mut.ensures.value in
    let same = numbers_by_spans _ _ spans in
    record { rising = rw same c.args.self.now.rising; table = rw same c.args.self.now.table; alike = rw seats c.args.self.now.alike }

pub returns-clause-spans : goal.returns-clause-spans
returns-clause-spans g c =
    let ds = c.args.self.now.devices.items in
    let count : length c.lose_each.new.devices ≡ length ds = c.lose_each.auto.devices ∙ ap length c.deref_mut.ensures.value in
    let room : length ds ≤ c.args.self.now.devices.len = omega (arith, ap length c.deref_mut.ensures.value, c.deref_mut.ensures.len) in
    ap spans_of (all_written c.args.self.now.devices.len ds c.lose_each.new.devices room count)
    ∙ c.lose_each.ensures.spans ∙ ap spans_of c.deref_mut.ensures.value

pub returns-clause-each : goal.returns-clause-each
returns-clause-each g c =
    let ds = c.args.self.now.devices.items in
    let count : length c.lose_each.new.devices ≡ length ds = c.lose_each.auto.devices ∙ ap length c.deref_mut.ensures.value in
    let room : length ds ≤ c.args.self.now.devices.len = omega (arith, ap length c.deref_mut.ensures.value, c.deref_mut.ensures.len) in
    rw (all_written c.args.self.now.devices.len ds c.lose_each.new.devices room count)
    (rw c.deref_mut.ensures.value at c.lose_each.ensures.each)

pub returns-clause-stands : goal.returns-clause-stands
returns-clause-stands g c =
    let ds = c.args.self.now.devices.items in
    let count : length c.lose_each.new.devices ≡ length ds = c.lose_each.auto.devices ∙ ap length c.deref_mut.ensures.value in
    let room : length ds ≤ c.args.self.now.devices.len = omega (arith, ap length c.deref_mut.ensures.value, c.deref_mut.ensures.len) in
    rw (all_written c.args.self.now.devices.len ds c.lose_each.new.devices room count)
    (rw c.deref_mut.ensures.value at c.lose_each.ensures.stands)
