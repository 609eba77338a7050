use Rattle.path_workers.proofs.Keeping.{command_stays, none_of, no_keep, some_runs}
use Rattle.path_workers.proofs.ending.command.Goals as goal

pub returns-in-Ok : goal.returns-in-Ok
returns-in-Ok g c = record {
  stays =
      command_stays c.args.device.now c.command.new.self (g.P.Port.view c.args.port.now) (g.P.Port.view c.command.new.port) c.requires.home
      (none_of _ c.requires.whole) (some_runs _ c.requires.runs) c.recall_chain.ensures (c.in-Ok.ensures.run no_keep);
}
