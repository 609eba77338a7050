use Rattle.std.proofs.Common.{◌≡◌, Some, length, map, take}
use Rattle.deck_run.specs.Opening.{AllHold, HaveTracks}
use Rattle.image_runner.specs.Racks.{Holding, firsts_by}
use Rattle.image_runner.proofs.running.open_volumes.Given as goal

abbrev pub invariant-loop-i : goal.invariant-loop-i
invariant-loop-i g l = record {
  same : g.R.Rack.holds l.rack ≡ g.R.Rack.holds l.initial.rack;
  tracks : HaveTracks (take l.i l.deck.devices) (map g.V.Volume.view l.volumes.items);
  hold : (h : Holding) → g.R.Rack.holds l.initial.rack ≡ Some h
      → AllHold (firsts_by h (map (λ w. w.now) l.words)) l.deck (take l.i l.deck.devices) (map g.V.Volume.view l.volumes.items);
  count : l.i-end ≡ length l.deck.devices;
}
