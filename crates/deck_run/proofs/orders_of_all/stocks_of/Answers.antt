use Rattle.deck_run.specs.Sweeping.{stock_of}
use Rattle.deck_run.proofs.Lines.{mapped_all, mapped_on}
use Rattle.deck_run.proofs.orders_of_all.stocks_of.Goals as goal

pub loop-device-preserved : goal.loop-device-preserved
loop-device-preserved g c =
    mapped_on stock_of c.args.devices.now c.loop-device.device-index c.device-item.result c.loop-device.stocks.items c.push.new.self.items
    c.stock_of.result c.loop-device-test.true c.device-item.is c.stock_of.ensures c.loop-device.invariant c.in_ok-push.ensures.items

pub returns : goal.returns
returns g c =
    mapped_all stock_of c.args.devices.now c.loop-device.device-index c.loop-device.stocks.items c.loop-device-test.false c.loop-device.invariant
