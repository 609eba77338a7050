use Rattle.std.proofs.Common.{◌-◌}
use Rattle.line_drive.proofs.Driving.{Left}
use Rattle.point_copy.specs.CopyRun.{Copying, looks_on}
use Rattle.copy_tool.specs.Standing.{IsCopying}
use Rattle.copy_tool.proofs.copying.looks.Given as goal

abbrev pub invariant-loop-turn : goal.invariant-loop-turn
invariant-loop-turn l = (c : Copying) → IsCopying l.fn.copying c → Left (IsCopying l.copying) (looks_on (961 - l._turn)) (looks_on 961 c)
