use Rattle.std.proofs.Common.{◌≡◌, ◌-◌, ◌*◌, ◌≤◌}
use Rattle.device_outside.specs.Keeper.{Heard}
use Rattle.device_outside.specs.Outside.{PortView, Ran}
use Rattle.device_defs.specs.Contents.{contents}
use Rattle.device_defs.specs.Losses.{all_firm_told, over, patch_lost}
use Rattle.event_notes.specs.Loose.{weight}
use Rattle.device_store.specs.State.{state_of, outside, surely, Takes}
use Rattle.device_store.proofs.store.DeviceStore.lose_store.Given as goal

abbrev pub invariant-loop-t : goal.invariant-loop-t
invariant-loop-t g l = record {
  number : l.self.number ≡ l.fn.self.number;
  cylinders : l.self.cylinders ≡ l.fn.self.cylinders;
  geometry : l.self.geometry ≡ l.fn.self.geometry;
  volume : l.self.pair.volumes ≡ l.fn.self.pair.volumes;
  half : l.self.half ≡ l.fn.self.half;
  weight : weight l.self.loose ≡ weight l.fn.self.loose;
  takes : Takes g.K.Keep.takes l.keep l.self.number l.self.geometry (l.self.cylinders * 15);
  low : l.from ≤ l.fn.self.cylinders * 15;
  ran : (p : PortView) → Ran surely (Heard g.K.Keep.hears g.K.Keep.takes)
      (all_firm_told contents l.from (over l.from (λ t z. patch_lost contents t z) (state_of l.fn.self)))
      (outside p l.fn.self l.fn.keep) (state_of l.self) tt (outside p l.self l.keep);
}

abbrev pub decreases-loop-t : goal.decreases-loop-t
decreases-loop-t g l = l.fn.self.cylinders * 15 - l.from
