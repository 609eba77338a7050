use Rattle.std.proofs.Common.{subst}
use Rattle.deck_run.specs.Owning.{ChainsStand}
use Rattle.deck_run.proofs.Events.{has_one}
use Rattle.deck_run.proofs.Pairing.{both_so, pair_ordered, pair_owns}
use Rattle.deck_run.proofs.pair.join.Goals as goal

pub event-requires : goal.event-requires
event-requires g c = both_so _ _ c.requires.a c.requires.b

pub returns-clause-own : goal.returns-clause-own
returns-clause-own g c =
    let x = has_one c.args.sub.now.devices.items c.args.a c.requires.a in
    let y = has_one c.args.sub.now.devices.items c.args.b c.requires.b in
    pair_owns c.args.a c.args.b c.args.sub.now c.event.new.self c.in-Ok.end x.device y.device x.found y.found c.requires.own c.in-Ok.ensures.came

pub returns-clause-happened : goal.returns-clause-happened
returns-clause-happened g c = λ run all.
    let x = has_one c.args.sub.now.devices.items c.args.a c.requires.a in
    let y = has_one c.args.sub.now.devices.items c.args.b c.requires.b in
    rw c.order_end.ensures
    (pair_ordered c.args.a c.args.b c.args.sub.now c.event.new.self c.in-Ok.end x.device y.device x.found y.found c.requires.own c.in-Ok.ensures.came run
    (subst ChainsStand c.devices.ensures c.chains_stand.ensures) all)
