use Rattle.std.proofs.Common.{◌≡◌, ◌-◌, ◌*◌, ◌≤◌}
use Rattle.device_defs.specs.Contents.{contents}
use Rattle.device_defs.specs.Owed.{all_told}
use Rattle.device_outside.specs.Keeper.{Heard}
use Rattle.device_outside.specs.Outside.{Ran}
use Rattle.device_store.specs.State.{state_of, outside, surely}
use Rattle.device_store.proofs.store.DeviceStore.tell_each.Given as goal

abbrev pub invariant-loop-t : goal.invariant-loop-t
invariant-loop-t g l = record {
  number : l.self.number ≡ l.fn.self.number;
  cylinders : l.self.cylinders ≡ l.fn.self.cylinders;
  geometry : l.self.geometry ≡ l.fn.self.geometry;
  volume : l.self.pair.volumes ≡ l.fn.self.pair.volumes;
  half : l.self.half ≡ l.fn.self.half;
  loose : l.self.loose ≡ l.fn.self.loose;
  rest : state_of l.self ≡ record (state_of l.fn.self) { owed = l.self.owed };
  low : l.from ≤ l.fn.self.cylinders * 15;
  ran : (k : g.row.K.Denot) → Ran surely (Heard g.K.Keep.hears g.K.Keep.takes) (all_told contents l.from (state_of l.fn.self))
      (outside (g.P.Port.view l.fn.port) l.fn.self k) (state_of l.self) tt (outside (g.P.Port.view l.port) l.self k);
}

abbrev pub decreases-loop-t : goal.decreases-loop-t
decreases-loop-t g l = l.fn.self.cylinders * 15 - l.from
