use Rattle.std.proofs.Common.{subst}
use Rattle.subsystem_core.specs.Comes.{Unpaired}
use Rattle.deck_run.proofs.Events.{has_one}
use Rattle.deck_run.proofs.Parting.{unpaired_ordered, unpaired_own}
use Rattle.deck_run.proofs.NewVolumes.{told_for}
use Rattle.deck_run.proofs.pair.part.Goals as goal

pub returns-clause-own : goal.returns-clause-own
returns-clause-own g c =
    let x = has_one c.args.sub.now.devices.items c.args.a c.requires.here in
    unpaired_own c.args.a c.args.volume x.device c.args.sub.now c.unpair.new.self c.in-Ok.end x.found c.requires.own
    (subst (λ o. Unpaired c.args.a c.args.volume o c.args.sub.now c.in-Ok.end c.unpair.new.self) x.found c.in-Ok.ensures.unpaired)

pub returns-clause-happened : goal.returns-clause-happened
returns-clause-happened g c = λ run all.
    let x = has_one c.args.sub.now.devices.items c.args.a c.requires.here in
    rw c.order_end.ensures
    (unpaired_ordered c.args.a c.args.volume x.device c.args.sub.now c.unpair.new.self c.in-Ok.end x.found c.requires.own run all
    (told_for _ _ x.device x.found c.requires.empty)
    (subst (λ o. Unpaired c.args.a c.args.volume o c.args.sub.now c.in-Ok.end c.unpair.new.self) x.found c.in-Ok.ensures.unpaired))
