use Rattle.std.proofs.Common.{◌≡◌, ◌++◌, ◌-◌}
use Rattle.subsystem_core.specs.Devices.{numbers_of}
use Rattle.subsystem_defs.specs.Lines.{backs, last_behind}
use Rattle.subsystem_defs.specs.Subsystem as runs
use Rattle.deck_run.specs.Going.{BacksLeft}
use Rattle.deck_run.specs.Owning.{AreOwn}
use Rattle.deck_run.specs.Recording.{all_lines}
use Rattle.deck_run.specs.Standing.{StandsAs}
use Rattle.deck_run.proofs.line.settle.Given as goal

abbrev pub invariant-loop-turn : goal.invariant-loop-turn
invariant-loop-turn g l = record {
  numbers : numbers_of l.sub.devices.items ≡ numbers_of l.fn.sub.devices.items;
  own : AreOwn l.sub.devices.items;
  left : (run : runs.Subsystem) → StandsAs l.fn.sub run →
      BacksLeft l.sub l.report l.d (2946 - l._turn) (last_behind run (backs 2946 l.d run)) (l.fn.report ++ all_lines (backs 2946 l.d run));
}
