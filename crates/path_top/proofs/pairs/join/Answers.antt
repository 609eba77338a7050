use Rattle.std.proofs.Common.{subst}
use Rattle.deck_run.specs.Owning.{ChainsStand}
use Rattle.deck_run.proofs.Events.{has_one}
use Rattle.deck_run.proofs.Pairing.{both_so, pair_ordered, pair_owns}
use Rattle.path_top.proofs.Unused.{pair_unused}
use Rattle.path_top.proofs.pairs.join.Goals as goal

pub event-requires : goal.event-requires
event-requires g c = both_so _ _ c.requires.a c.requires.b

pub returns-in-Ok-clause-own : goal.returns-in-Ok-clause-own
returns-in-Ok-clause-own g c =
    let x = has_one c.args.sub.now.devices.items c.args.a c.requires.a in
    let y = has_one c.args.sub.now.devices.items c.args.b c.requires.b in
    pair_owns c.args.a c.args.b c.args.sub.now c.event.new.self c.in-Ok.field-0 x.device y.device x.found y.found c.requires.own c.in-Ok.ensures.came

pub returns-in-Ok-clause-unused : goal.returns-in-Ok-clause-unused
returns-in-Ok-clause-unused g c = λ all.
    pair_unused c.args.sub.now c.event.new.self c.in-Ok.field-0 all c.args.a c.args.b c.in-Ok.ensures.came

pub returns-in-Ok-clause-stands : goal.returns-in-Ok-clause-stands
returns-in-Ok-clause-stands g c = λ run all.
    let x = has_one c.args.sub.now.devices.items c.args.a c.requires.a in
    let y = has_one c.args.sub.now.devices.items c.args.b c.requires.b in
    (pair_ordered c.args.a c.args.b c.args.sub.now c.event.new.self c.in-Ok.field-0 x.device y.device x.found y.found c.requires.own c.in-Ok.ensures.came run
    (subst ChainsStand c.devices.ensures c.chains_stand.ensures) all).stands
