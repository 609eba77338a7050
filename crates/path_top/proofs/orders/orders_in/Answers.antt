use Rattle.std.proofs.Common.{◌∙◌, ap}
use Rattle.std.proofs.lemmas.List.{take_all}
use Rattle.path_threads.specs.Places.{IsSpareAmong}
use Rattle.path_top.specs.Making.{Makes}
use Rattle.path_top.specs.Orders.{orders_in}
use Rattle.path_top.proofs.Adding.{lines_on, spare_on}
use Rattle.deck_run.proofs.Going.{line_open_at}
use Rattle.path_top.proofs.orders.orders_in.Goals as goal

pub order_of-requires : goal.order_of-requires
order_of-requires g c = line_open_at _ c.args.lines.now c.loop-line.line-index c.line-item.result c.loop-line-test.true c.line-item.is c.requires

pub loop-line-preserved : goal.loop-line-preserved
loop-line-preserved g c = record {
  lines =
      lines_on c.loop-line.orders.items c.add_some.new.items.items c.order_of.result c.args.lines.now c.loop-line.line-index c.line-item.result
      c.loop-line-test.true c.line-item.is c.in_ok-add_some.ensures c.order_of.ensures.line c.loop-line.invariant.lines;
  spare =
      spare_on (IsSpareAmong (Makes g.V.Volume.view) c.args.sub.now.devices.items) c.loop-line.orders.items c.add_some.new.items.items c.order_of.result
      c.in_ok-add_some.ensures c.loop-line.invariant.spare c.order_of.ensures.spare;
}

pub returns-clause-lines : goal.returns-clause-lines
returns-clause-lines g c = c.loop-line.invariant.lines ∙ ap orders_in (take_all c.loop-line.line-index c.args.lines.now c.loop-line-test.false)
