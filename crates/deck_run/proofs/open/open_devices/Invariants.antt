use Rattle.std.proofs.Common.{◌≡◌, drop, length, map, take}
use Rattle.device_outside.specs.Pool.{Pool}
use Rattle.subsystem_core.specs.Devices.{numbers_of}
use Rattle.subsystem_defs.specs.Decks.{Firsts, opened_device_on}
use Rattle.subsystem_laws.specs.WholeStood.{AreMounted}
use Rattle.deck_run.specs.Opening.{AllHold, HaveTracks, numbers_in}
use Rattle.deck_run.specs.Owning.{AllOwn}
use Rattle.deck_run.specs.Sides.{AllFresh}
use Rattle.deck_run.specs.Standing.{all_stood}
use Rattle.deck_run.specs.Unused.{AreUnused}
use Rattle.deck_run.proofs.open.open_devices.Given as goal

abbrev pub invariant-loop-i : goal.invariant-loop-i
invariant-loop-i g l = record {
  numbers : numbers_of l.made.items ≡ numbers_in (take l.i l.deck.devices);
  tracks : HaveTracks (drop l.i l.deck.devices) (map g.V.Volume.view l.volumes.items);
  hold : (firsts : Firsts) → AllHold firsts l.deck l.deck.devices (map g.V.Volume.view l.initial.volumes.items) →
      AllHold firsts l.deck (drop l.i l.deck.devices) (map g.V.Volume.view l.volumes.items);
  mounted : (p : Pool) (firsts : Firsts) → AllHold firsts l.deck l.deck.devices (map g.V.Volume.view l.initial.volumes.items) →
      AreMounted p (all_stood l.made.items) (map (opened_device_on firsts l.deck) (take l.i l.deck.devices));
  own : AllOwn l.made.items;
  fresh : AllFresh l.made.items;
  unused : AreUnused l.made.items;
  count : l.i-end ≡ length l.deck.devices;
}
