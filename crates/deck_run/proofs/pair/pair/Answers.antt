use Rattle.report_text.specs.declared.order.Order.TheVariants as orders
use Rattle.subsystem_defs.specs.declared.event.Event.TheVariants as events
use Rattle.subsystem_defs.specs.Happening.{happens}
use Rattle.subsystem_defs.specs.Lines as lines
use Rattle.subsystem_defs.specs.Lines.{Once, logged}
use Rattle.deck_run.proofs.Ordered.{order_told}
use Rattle.deck_run.proofs.Recorded.{one_tells}
use Rattle.deck_run.proofs.pair.pair.Goals as goal

pub returns-clause-goes : goal.returns-clause-goes
unfolding lines.line_logged
returns-clause-goes g c = record {
  stands = λ run all. (c.in_ok-end.ensures.happened run all).stands;
  lines = λ run all.
      one_tells (logged (Once (events.Pair c.args.a c.args.b)) (happens run (events.Pair c.args.a c.args.b))) c.args.report.now c.record_order.new.run
      (order_told (orders.Pair c.args.a c.args.b) c.in_ok-end.end c.args.report.now c.make_room.new.self c.record_order.new.run _ c.in_ok-make_room.ensures
      c.in_ok-record_order.ensures (c.in_ok-end.ensures.happened run all).lines);
}
