use Rattle.path_workers.proofs.Keeping.{no_keep}
use Rattle.path_workers.proofs.KeptOrders.{loss_ordered}
use Rattle.path_workers.proofs.device_orders.lose_at_home.Goals as goal

pub returns : goal.returns
returns g c =
    loss_ordered c.args.device.now c.lose.new.self (g.P.Port.view c.args.port.now) (g.P.Port.view c.lose.new.port) c.args.loss c.args.most
    c.requires.home c.requires.may (c.lose.ensures.run no_keep)
