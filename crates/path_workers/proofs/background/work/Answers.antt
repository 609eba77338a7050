use Rattle.path_workers.proofs.Keeping.{background_moves, none_of, no_keep}
use Rattle.path_workers.proofs.Visiting.{whatever_ran}
use Rattle.path_workers.proofs.background.work.Goals as goal

pub returns-in-Err-clause-run : goal.returns-in-Err-clause-run
returns-in-Err-clause-run g c k = whatever_ran (c.in-Err.ensures.run k)

pub returns-in-Ok-clause-run : goal.returns-in-Ok-clause-run
returns-in-Ok-clause-run g c k = whatever_ran (c.in-Ok.ensures.run k)

pub returns-in-Ok-clause-moves : goal.returns-in-Ok-clause-moves
returns-in-Ok-clause-moves g c =
    background_moves c.args.device.now c.background.new.self (g.P.Port.view c.args.port.now) (g.P.Port.view c.background.new.port) c.requires.home
    (none_of _ c.requires.whole) (c.in-Ok.ensures.run no_keep)
