use Rattle.std.proofs.Common.{subst}
use Rattle.subsystem_core.specs.Devices.{numbers_of}
use Rattle.deck_run.specs.Owning.{ChainsStand}
use Rattle.deck_run.proofs.Sweeping.{all_happens, all_may_come, all_own, all_told}
use Rattle.deck_run.proofs.orders_of_all.do_all.Goals as goal

pub event-requires : goal.event-requires
event-requires g c = all_may_come (numbers_of c.args.sub.now.devices.items) c.args.e c.requires.on

pub returns-clause-own : goal.returns-clause-own
returns-clause-own g c =
    all_own c.args.e c.args.sub.now c.event.new.self c.in-Ok.end c.requires.on c.requires.own c.in-Ok.ensures.numbers c.in-Ok.ensures.came

pub returns-clause-told : goal.returns-clause-told
returns-clause-told g c = λ run all.
    rw c.order_end.ensures
    (all_told c.args.e c.args.sub.now c.event.new.self c.in-Ok.end c.requires.on c.requires.own c.in-Ok.ensures.numbers c.in-Ok.ensures.came run
    (subst ChainsStand c.devices.ensures c.chains_stand.ensures) all)

pub returns-clause-happened : goal.returns-clause-happened
returns-clause-happened g c = λ run all.
    rw c.order_end.ensures
    (all_happens c.args.e c.args.sub.now c.event.new.self c.in-Ok.end c.requires.on c.requires.own c.in-Ok.ensures.numbers c.in-Ok.ensures.came run
    (subst ChainsStand c.devices.ensures c.chains_stand.ensures) all)
