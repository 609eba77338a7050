use Rattle.std.proofs.Common.{◌≡◌, ◌+◌, length, map, take}
use Rattle.subsystem_defs.specs.Decks.{Firsts}
use Rattle.deck_run.specs.Opening.{AllHold, HaveTracks}
use Rattle.deck_top.specs.Bays.{HandsOut}
use Rattle.deck_top.proofs.handing.hand_out_all.Given as goal

abbrev pub invariant-loop-i : goal.invariant-loop-i
invariant-loop-i g l = record {
  tracks : HaveTracks (take l.i l.deck.devices) (map g.V.Volume.view l.volumes.items);
  holds : (firsts : Firsts) → HandsOut (g.B.VolumeBay.view l.initial.bay) firsts
      → AllHold firsts l.deck (take l.i l.deck.devices) (map g.V.Volume.view l.volumes.items);
  count : l.i-end ≡ length l.deck.devices;
  made : (g.B.VolumeBay.view l.bay).made ≡ (g.B.VolumeBay.view l.initial.bay).made + length (take l.i l.deck.devices);
  firsts : (g.B.VolumeBay.view l.bay).firsts ≡ (g.B.VolumeBay.view l.initial.bay).firsts;
  spoiled : (g.B.VolumeBay.view l.bay).spoiled ≡ (g.B.VolumeBay.view l.initial.bay).spoiled;
  taken : (g.B.VolumeBay.view l.bay).taken ≡ (g.B.VolumeBay.view l.initial.bay).taken;
}
