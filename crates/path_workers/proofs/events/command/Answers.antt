use Rattle.path_workers.proofs.Keeping.{command_moves, none_of, no_keep}
use Rattle.path_workers.proofs.Visiting.{whatever_ran}
use Rattle.path_workers.proofs.events.command.Goals as goal

pub returns-in-Err-clause-run : goal.returns-in-Err-clause-run
returns-in-Err-clause-run g c k = whatever_ran (c.in-Err.ensures.run k)

pub returns-in-Ok-clause-run : goal.returns-in-Ok-clause-run
returns-in-Ok-clause-run g c k = whatever_ran (c.in-Ok.ensures.run k)

pub returns-in-Ok-clause-moves : goal.returns-in-Ok-clause-moves
returns-in-Ok-clause-moves g c =
    let visitor = c.args.visitor.now in
    command_moves c.args.device.now c.command-outcome.new.self (g.P.Port.view c.args.port.now) (g.P.Port.view c.command-outcome.new.port) c.requires.home
    visitor.path visitor.least visitor.most c.requires.runs (none_of _ c.requires.whole) c.recall_chain.ensures (c.in-Ok.ensures.run no_keep)
