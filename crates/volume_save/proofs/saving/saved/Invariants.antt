use Rattle.std.proofs.Common.{◌≡◌, ◌≤◌, length}
use Rattle.subsystem_core.specs.Devices.{numbers_of}
use Rattle.subsystem_defs.specs.Subsystem as runs
use Rattle.deck_run.specs.Standing.{StandsAs}
use Rattle.volume_save.specs.Stepping.{LooksLeft}
use Rattle.volume_save.proofs.saving.saved.Given as goal

-- the tracks so far are in the volume, and what the looks at the rest find is what is saved
abbrev pub invariant-loop-t : goal.invariant-loop-t
invariant-loop-t g l = record {
  numbers : numbers_of l.sub.devices.items ≡ numbers_of l.fn.sub.devices.items;
  size : length l.volume.images ≡ l.count;
  most : l.count ≤ 65535;
  left : (run : runs.Subsystem) → StandsAs l.fn.sub run → LooksLeft run l.d l.t l.count l.sub l.volume;
}
