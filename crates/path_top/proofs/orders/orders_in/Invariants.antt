use Rattle.std.proofs.Common.{◌≡◌, take}
use Rattle.std.specs.Prelude.{All, map}
use Rattle.path_threads.specs.Places.{IsSpareAmong}
use Rattle.path_top.specs.Making.{Makes}
use Rattle.path_top.specs.Orders.{line_of, orders_in}
use Rattle.path_top.proofs.orders.orders_in.Given as goal

abbrev pub invariant-loop-line : goal.invariant-loop-line
invariant-loop-line g l = record {
  lines : map line_of l.orders.items ≡ orders_in (take l.line-index l.lines);
  spare : All (IsSpareAmong (Makes g.V.Volume.view) l.sub.devices.items) l.orders.items;
}
