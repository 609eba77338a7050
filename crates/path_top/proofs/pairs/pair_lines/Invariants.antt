use Rattle.std.proofs.Common.{◌≡◌, take}
use Rattle.std.specs.Prelude.{fold}
use Rattle.deck_run.specs.Owning.{AreOwn}
use Rattle.deck_run.specs.Standing.{StandsAs}
use Rattle.subsystem_core.specs.Devices.{numbers_of}
use Rattle.subsystem_defs.specs.Subsystem as runs
use Rattle.deck_run.specs.Unused.{AreUnused}
use Rattle.path_top.specs.Pairs.{behind_line}
use Rattle.path_top.proofs.pairs.pair_lines.Given as goal

abbrev pub invariant-loop-line : goal.invariant-loop-line
invariant-loop-line g l = record {
  numbers : numbers_of l.sub.devices.items ≡ numbers_of l.fn.sub.devices.items;
  own : AreOwn l.sub.devices.items;
  unused : AreUnused l.fn.sub.devices.items → AreUnused l.sub.devices.items;
  stands : (run : runs.Subsystem) → StandsAs l.fn.sub run → StandsAs l.sub (fold behind_line run (take l.line-index l.lines));
}
