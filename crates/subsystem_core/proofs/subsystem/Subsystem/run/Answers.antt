use Rattle.subsystem_core.proofs.Standing.{stay_plain}
use Rattle.std.proofs.Common.{◌∙◌, arith, refl}
use Rattle.std.proofs.lemmas.List.{take_more, take_all}
use Rattle.subsystem_core.specs.Devices.{numbers_of}
use Rattle.subsystem_core.specs.Runs.{over, before}
use Rattle.subsystem_core.proofs.Running.{may_come_at, one_more, stops_at}
use Rattle.subsystem_core.proofs.subsystem.Subsystem.run.Goals as goal

pub loop-e-init : goal.loop-e-init
loop-e-init g c = record {
  numbers = refl;
  stands = λ pasts firsts all. all;
  room = omega (arith, c.in-Ok.ensures.room);
  ran = rw (c.in-Ok.ensures.same, c.new-ends.ensures) over;
}

pub loop-e-preserved : goal.loop-e-preserved
loop-e-preserved g c =
    let taken = take_more c.args.events.now c.loop-e.e-index c.e-item.result c.loop-e-test.true in
    record {
      numbers = c.in-Ok-event.ensures.numbers ∙ c.loop-e.invariant.numbers;
      stands = λ pasts firsts all. (c.in-Ok-event.ensures.plain tt).stand pasts firsts (c.loop-e.invariant.stands pasts firsts all);
      room = omega (arith, c.push.ensures.spare, c.loop-e.invariant.room);
      ran = rw (taken, ← c.e-item.is, c.push.ensures.items)
          (one_more c.e-item.result c.in-Ok-event.end c.loop-e.invariant.ran c.in-Ok-event.ensures.came);
    }

pub event-requires : goal.event-requires
event-requires g c =
    rw c.loop-e.invariant.numbers
    (may_come_at (numbers_of c.args.self.now.devices.items) c.args.events.now c.e-item.result c.loop-e.e-index c.loop-e-test.true c.e-item.is c.requires)

pub returns-clause-ran : goal.returns-clause-ran
returns-clause-ran g c =
    rw (take_all c.loop-e.e-index c.args.events.now c.loop-e-test.false) at c.loop-e.invariant.ran

pub returns-in-Err-clause-stopped : goal.returns-in-Err-clause-stopped
returns-in-Err-clause-stopped g c = before

pub returns-in-Err-event-clause-stopped : goal.returns-in-Err-event-clause-stopped
returns-in-Err-event-clause-stopped g c =
    stops_at c.args.events.now c.e-item.result c.loop-e.e-index c.loop-e-test.true c.e-item.is c.loop-e.invariant.ran c.in-Err-event.ensures.came

pub returns-clause-plain : goal.returns-clause-plain
returns-clause-plain g c = stay_plain _ _ c.loop-e.invariant.stands
