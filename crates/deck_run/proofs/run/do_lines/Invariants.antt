use Rattle.std.proofs.Common.{◌≡◌, ◌++◌, drop, map}
use Rattle.subsystem_core.specs.Devices.{numbers_of}
use Rattle.subsystem_defs.specs.Lines.{asked_by, last_behind, run_lines}
use Rattle.subsystem_defs.specs.Subsystem as runs
use Rattle.deck_run.specs.Going.{LinesLeft}
use Rattle.deck_run.specs.Owning.{AreOwn}
use Rattle.deck_run.specs.Recording.{all_lines}
use Rattle.deck_run.specs.Standing.{StandsAs}
use Rattle.deck_run.proofs.run.do_lines.Given as goal

abbrev pub invariant-loop-line : goal.invariant-loop-line
invariant-loop-line g l = record {
  numbers : numbers_of l.sub.devices.items ≡ numbers_of l.fn.sub.devices.items;
  own : AreOwn l.sub.devices.items;
  left : (run : runs.Subsystem) → StandsAs l.fn.sub run →
      LinesLeft l.sub l.report (drop l.line-index l.lines) (last_behind run (run_lines (map asked_by l.lines) run))
      (l.fn.report ++ all_lines (run_lines (map asked_by l.lines) run));
}
