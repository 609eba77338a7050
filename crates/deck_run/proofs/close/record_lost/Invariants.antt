use Rattle.std.proofs.Common.{◌≡◌, ◌++◌, take}
use Rattle.std.specs.Prelude.{map}
use Rattle.report_text.specs.declared.line.ReportLine.TheVariants as lines
use Rattle.deck_run.proofs.close.record_lost.Given as goal

-- the lines so far
abbrev pub invariant-loop-track : goal.invariant-loop-track
invariant-loop-track l = l.report ≡ l.initial.report ++ map (lines.Lost l.d) (take l.track-index l.lost)
