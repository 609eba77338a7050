use Rattle.std.proofs.Common.{subst}
use Rattle.subsystem_core.specs.Comes.{Replaced}
use Rattle.deck_run.specs.Owning.{ChainsStand}
use Rattle.deck_run.proofs.Events.{has_one}
use Rattle.deck_run.proofs.NewVolumes.{empty_long, told_for}
use Rattle.deck_run.proofs.Replacing.{replaced_own, swapped}
use Rattle.deck_run.proofs.replace.put_volume.Goals as goal

pub returns-clause-own : goal.returns-clause-own
returns-clause-own g c =
    let x = has_one c.args.sub.now.devices.items c.args.d c.requires.here in
    replaced_own c.args.d c.args.side c.args.volume x.device c.args.sub.now c.replace.new.self c.in-Ok.end x.found c.requires.own
    (subst (λ o. Replaced c.args.d c.args.side c.args.volume o c.args.sub.now c.in-Ok.end c.replace.new.self) x.found c.in-Ok.ensures.replaced)

pub returns-clause-happened : goal.returns-clause-happened
returns-clause-happened g c = λ run all.
    let x = has_one c.args.sub.now.devices.items c.args.d c.requires.here in
    rw c.order_end.ensures
    (swapped c.args.d c.args.side c.args.volume x.device c.args.sub.now c.replace.new.self c.in-Ok.end x.found c.requires.own run
    (subst ChainsStand c.devices.ensures c.chains_stand.ensures) all
    (told_for _ _ x.device x.found c.requires.empty) (empty_long x.device.store.cylinders)
    (subst (λ o. Replaced c.args.d c.args.side c.args.volume o c.args.sub.now c.in-Ok.end c.replace.new.self) x.found c.in-Ok.ensures.replaced))
