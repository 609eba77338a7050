use Rattle.report_text.specs.declared.order.Order.TheVariants as orders
use Rattle.deck_run.proofs.NewVolumes.{empty_for, tracks_for}
use Rattle.subsystem_defs.specs.Happening.{replaced}
use Rattle.subsystem_defs.specs.Lines as lines
use Rattle.subsystem_defs.specs.Lines.{Replace, logged}
use Rattle.subsystem_defs.specs.Subsystem.{unfailing}
use Rattle.deck_run.proofs.Ordered.{order_told}
use Rattle.deck_run.proofs.Recorded.{one_tells}
use Rattle.deck_run.proofs.replace.replace.Goals as goal

pub put_volume-requires-clause-empty : goal.put_volume-requires-clause-empty
put_volume-requires-clause-empty g c = empty_for _ _ _ c.device.ensures _ c.cylinders-cylinders.ensures c.in_ok-volume.ensures.told

pub put_volume-requires-clause-size : goal.put_volume-requires-clause-size
put_volume-requires-clause-size g c = tracks_for (g.V.Volume.view c.in_ok-volume.volume) _ _ c.device.ensures _ c.cylinders-cylinders.ensures c.in_ok-volume.ensures.tracks

pub returns-clause-goes : goal.returns-clause-goes
unfolding lines.line_logged
returns-clause-goes g c = record {
  stands = λ run all. (c.in_ok-end.ensures.happened run all).stands;
  lines = λ run all.
      one_tells (logged (Replace c.args.d c.args.side) (replaced run c.args.d c.args.side unfailing)) c.args.report.now c.record_order.new.run
      (order_told (orders.Replace c.args.d c.args.side) c.in_ok-end.end c.args.report.now c.make_room.new.self c.record_order.new.run _ c.in_ok-make_room.ensures
      c.in_ok-record_order.ensures (c.in_ok-end.ensures.happened run all).lines);
}
