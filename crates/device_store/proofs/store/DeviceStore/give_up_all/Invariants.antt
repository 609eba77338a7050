use Rattle.std.proofs.Common.{◌≡◌}
use Rattle.device_defs.specs.Contents.{contents}
use Rattle.device_defs.specs.Losses.{over}
use Rattle.device_defs.specs.Orders.{given_up}
use Rattle.device_store.specs.State.{state_of}
use Rattle.device_store.proofs.store.DeviceStore.give_up_all.Given as goal

abbrev pub invariant-loop-t : goal.invariant-loop-t
invariant-loop-t g l = record {
  number : l.self.number ≡ l.fn.self.number;
  cylinders : l.self.cylinders ≡ l.fn.self.cylinders;
  geometry : l.self.geometry ≡ l.fn.self.geometry;
  volume : l.self.pair ≡ l.fn.self.pair;
  half : l.self.half ≡ l.fn.self.half;
  loose : l.self.loose ≡ l.fn.self.loose;
  state : state_of l.self ≡ over l.t (given_up contents) (state_of l.fn.self);
}
