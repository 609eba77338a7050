use Rattle.path_workers.proofs.Keeping.{no_keep, second_moves, with_some}
use Rattle.path_workers.proofs.Visiting.{whatever_ran}
use Rattle.path_workers.proofs.events.second.Goals as goal

pub returns-clause-run : goal.returns-clause-run
returns-clause-run g c k = with_some _ _ c.second.ensures.seen (λ e is. whatever_ran (c.second.ensures.run k e is))

pub returns-clause-moves : goal.returns-clause-moves
returns-clause-moves g c =
    let visitor = c.args.visitor.now in
    with_some _ _ c.requires.half (λ h half.
    with_some _ _ c.second.ensures.seen (λ e is.
    second_moves c.args.device.now c.second.new.self (g.P.Port.view c.args.port.now) (g.P.Port.view c.second.new.port) c.requires.home
    visitor.path visitor.least visitor.most c.requires.runs h half (c.second.ensures.run no_keep e is)))
