use Rattle.path_workers.proofs.Keeping.{no_keep, second_stays, with_some}
use Rattle.path_workers.proofs.ending.second.Goals as goal

pub returns : goal.returns
returns g c =
    with_some _ _ c.requires.half (λ h half.
    with_some _ _ c.second.ensures.seen (λ e is.
    second_stays c.args.device.now c.second.new.self (g.P.Port.view c.args.port.now) (g.P.Port.view c.second.new.port) c.requires.home
    h half (c.second.ensures.run no_keep e is)))
