use Rattle.std.proofs.Common.{◌∙◌, ap, map}
use Rattle.subsystem_defs.specs.Happening.{happens}
use Rattle.subsystem_defs.specs.Lines as lines
use Rattle.subsystem_defs.specs.Lines.{Once, logged}
use Rattle.deck_run.specs.Sweeping.{stock_of}
use Rattle.deck_run.proofs.Recorded.{one_tells}
use Rattle.deck_run.proofs.Sweeping.{order_recorded}
use Rattle.deck_run.proofs.orders_of_all.order_all.Goals as goal

pub returns-clause-goes : goal.returns-clause-goes
unfolding lines.line_logged
returns-clause-goes g c = record {
  stands = λ run all. (c.in_ok-end.ensures.happened run all).1;
  lines = λ run all.
      one_tells (logged (Once c.args.e) (happens run c.args.e)) c.args.report.now c.record_order.new.run
      (order_recorded c.args.sub.now c.do_all.new.sub c.args.e run c.order_of-order.result c.deref.result.now c.is_quiet-quiet.result c.in_ok-end.end
      c.devices-2.result.now c.args.report.now c.make_room.new.self c.record_gone.new.report c.record_order.new.run
      (c.deref.ensures.value ∙ c.in_ok-stocks.ensures ∙ ap (map stock_of) c.devices.ensures) c.is_quiet-quiet.ensures c.order_of-order.ensures
      (c.in_ok-end.ensures.told run all) c.in_ok-make_room.ensures c.devices-2.ensures c.in_ok-record_gone.ensures c.in_ok-record_order.ensures);
}
