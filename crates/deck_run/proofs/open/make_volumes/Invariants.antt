use Rattle.std.proofs.Common.{◌≡◌, ◌+◌, [], length, map, take}
use Rattle.device_outside.specs.Disk.{disk_view}
use Rattle.subsystem_defs.specs.Decks.{empty_firsts}
use Rattle.deck_run.specs.Opening.{AllHold, HaveTracks}
use Rattle.deck_run.proofs.open.make_volumes.Given as goal

abbrev pub invariant-loop-i : goal.invariant-loop-i
invariant-loop-i l = record {
  tracks : HaveTracks (take l.i l.deck.devices) (map disk_view l.volumes.items);
  holds : l.initial.bay.spoiled ≡ [] → AllHold empty_firsts l.deck (take l.i l.deck.devices) (map disk_view l.volumes.items);
  count : l.i-end ≡ length l.deck.devices;
  made : l.bay.made ≡ l.initial.bay.made + length (take l.i l.deck.devices);
  spoiled : l.bay.spoiled ≡ l.initial.bay.spoiled;
  taken : l.bay.taken ≡ l.initial.bay.taken;
}
