use Rattle.std.proofs.Common.{◌≡◌, ◌-◌, ◌*◌, ◌≤◌, ℕ, false}
use Rattle.device_defs.specs.Losses.{over}
use Rattle.device_defs.specs.Store.{is_loose}
use Rattle.event_notes.specs.Loose.{weight}
use Rattle.device_store.specs.State.{state_of}
use Rattle.device_store.proofs.Passed.{gone}
use Rattle.device_store.proofs.store.DeviceStore.lose_frames.Given as goal

abbrev pub invariant-loop-t : goal.invariant-loop-t
invariant-loop-t g l = record {
  number : l.self.number ≡ l.fn.self.number;
  cylinders : l.self.cylinders ≡ l.fn.self.cylinders;
  geometry : l.self.geometry ≡ l.fn.self.geometry;
  volume : l.self.pair.volumes ≡ l.fn.self.pair.volumes;
  half : l.self.half ≡ l.fn.self.half;
  weight : weight l.self.loose ≡ weight l.fn.self.loose;
  firm : (t : ℕ) → is_loose (state_of l.self) t ≡ false;
  low : l.from ≤ l.fn.self.cylinders * 15;
  state : state_of l.self ≡ over l.from gone (state_of l.fn.self);
}

abbrev pub decreases-loop-t : goal.decreases-loop-t
decreases-loop-t g l = l.fn.self.cylinders * 15 - l.from
