use Rattle.std.proofs.Common.{◌≡◌, ◌-◌}
use Rattle.device_outside.specs.Keeper.{Heard}
use Rattle.device_defs.specs.Contents.{contents}
use Rattle.device_defs.specs.Owed.{hear}
use Rattle.device_store.specs.State.{state_of, outside, surely, Rest}
use Rattle.device_store.proofs.store.DeviceStore.hear.Given as goal

abbrev pub invariant-loop-turn : goal.invariant-loop-turn
invariant-loop-turn g l = record {
  number : l.self.number ≡ l.fn.self.number;
  cylinders : l.self.cylinders ≡ l.fn.self.cylinders;
  geometry : l.self.geometry ≡ l.fn.self.geometry;
  half : l.self.half ≡ l.fn.self.half;
  loose : l.self.loose ≡ l.fn.self.loose;
  rest : (k : g.row.K.Denot) → Rest surely (Heard g.K.Keep.hears g.K.Keep.takes) (hear contents (960 - l._turn) (state_of l.self))
      (outside (g.P.Port.view l.port) l.self k)
      (hear contents 960 (state_of l.fn.self)) (outside (g.P.Port.view l.fn.port) l.fn.self k);
}
