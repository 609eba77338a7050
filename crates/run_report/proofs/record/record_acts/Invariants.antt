use Rattle.std.proofs.Common.{◌≡◌, ◌++◌, take}
use Rattle.std.specs.Prelude.{map}
use Rattle.report_text.specs.Events.{loosed_line}
use Rattle.run_report.proofs.record.record_acts.Given as goal

-- the lines so far
abbrev pub invariant-loop-act : goal.invariant-loop-act
invariant-loop-act l = l.run ≡ l.initial.run ++ map loosed_line (take l.act-index l.acts)
