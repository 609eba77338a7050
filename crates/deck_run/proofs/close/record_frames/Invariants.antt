use Rattle.std.proofs.Common.{◌≡◌, ◌++◌, drop}
use Rattle.std.specs.Prelude.{map}
use Rattle.run_report.specs.Closing.{frame_line}
use Rattle.deck_run.proofs.close.record_frames.Given as goal

-- the frames that are left
abbrev pub invariant-loop-i : goal.invariant-loop-i
invariant-loop-i l = l.initial.report ++ map frame_line l.pool.pool.frames ≡ l.report ++ map frame_line (drop l.i l.pool.pool.frames)
