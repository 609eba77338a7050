use Rattle.deck_run.proofs.Sweeping.{gone_more, gone_over}
use Rattle.deck_run.proofs.orders_of_all.record_gone.Goals as goal

pub loop-i-preserved : goal.loop-i-preserved
loop-i-preserved g c = (
  gone_more c.args.quiet c.args.end.now c.args.stocks.now c.args.devices.now c.loop-i.i c.stock_at.result c.device_of-device.result.now
      c.loop-i.report c.record_one.new.report _ (rw c.loop-i.invariant.1 at c.loop-i-test.true) c.device_of-device.ensures c.stock_at.ensures
      c.in_ok-record_one.ensures c.loop-i.invariant.0,
  c.loop-i.invariant.1,
)

pub returns : goal.returns
returns g c =
    gone_over c.args.quiet c.args.end.now c.args.stocks.now c.args.devices.now c.loop-i.i c.loop-i.report _
    (rw c.loop-i.invariant.1 at c.loop-i-test.false) c.loop-i.invariant.0

pub device_of-device-requires : goal.device_of-device-requires
device_of-device-requires g c = rw c.loop-i.invariant.1 at c.loop-i-test.true
