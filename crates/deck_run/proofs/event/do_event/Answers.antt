use Rattle.std.proofs.Common.{subst}
use Rattle.subsystem_core.specs.Devices.{numbers_of}
use Rattle.deck_run.specs.Owning.{ChainsStand}
use Rattle.deck_run.proofs.Events.{own_behind, shows_end, told_so, happens_so, open_may_come}
use Rattle.deck_run.proofs.event.do_event.Goals as goal

pub event-requires : goal.event-requires
event-requires g c = open_may_come (numbers_of c.args.sub.now.devices.items) c.args.d c.args.e c.requires.on c.requires.here

pub returns-clause-own : goal.returns-clause-own
returns-clause-own g c =
    own_behind c.args.d c.args.sub.now c.event.new.self c.in-Ok.end c.requires.here c.requires.own c.in-Ok.ensures.numbers c.args.e c.requires.on
    c.in-Ok.ensures.came

pub returns-clause-shows : goal.returns-clause-shows
returns-clause-shows g c =
    shows_end c.args.d c.args.sub.now c.event.new.self c.in-Ok.end c.requires.here c.requires.own c.in-Ok.ensures.numbers c.args.e c.requires.on
    c.in-Ok.ensures.came

pub returns-clause-happened : goal.returns-clause-happened
returns-clause-happened g c = λ run all.
    happens_so c.args.d c.args.sub.now c.event.new.self c.in-Ok.end c.requires.here c.requires.own c.in-Ok.ensures.numbers c.args.e
    c.requires.on c.in-Ok.ensures.came run (subst ChainsStand c.devices.ensures c.chains_stand.ensures) all

pub returns-clause-told : goal.returns-clause-told
returns-clause-told g c = λ run all.
    told_so c.args.d c.args.sub.now c.event.new.self c.in-Ok.end c.requires.here c.requires.own c.in-Ok.ensures.numbers c.args.e c.requires.on
    c.in-Ok.ensures.came run (subst ChainsStand c.devices.ensures c.chains_stand.ensures) all
