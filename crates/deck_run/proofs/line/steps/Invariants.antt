use Rattle.std.proofs.Common.{◌≡◌, ◌++◌, ◌-◌}
use Rattle.subsystem_core.specs.Devices.{numbers_of}
use Rattle.subsystem_defs.specs.Lines.{last_behind, steps}
use Rattle.subsystem_defs.specs.Subsystem as runs
use Rattle.deck_run.specs.Going.{StepsLeft}
use Rattle.deck_run.specs.Owning.{AreOwn}
use Rattle.deck_run.specs.Recording.{all_lines}
use Rattle.deck_run.specs.Standing.{StandsAs}
use Rattle.deck_run.proofs.line.steps.Given as goal

abbrev pub invariant-loop-turn : goal.invariant-loop-turn
invariant-loop-turn g l = record {
  numbers : numbers_of l.sub.devices.items ≡ numbers_of l.fn.sub.devices.items;
  own : AreOwn l.sub.devices.items;
  left : (run : runs.Subsystem) → StandsAs l.fn.sub run →
      StepsLeft l.sub l.report l.d (8193 - l._turn) (last_behind run (steps 8193 l.d run)) (l.fn.report ++ all_lines (steps 8193 l.d run));
}
