use Rattle.std.proofs.Common.{◌∙◌, ◌++◌, Option, ap}
use Rattle.report_text.specs.declared.event.ProgramOver.{ProgramOver}
use Rattle.report_text.specs.Events.{program_over_lines}
use Rattle.run_report.proofs.Ended.{ended_told}
use Rattle.run_report.proofs.record.record_ended.Goals as goal

pub returns : goal.returns
returns c =
    ended_told c.args.device c.args.running.now c.args.end.now c.args.gained.now.acts.now c.args.calls.reads c.args.calls.writes c.args.gained.now.items.now
    c.args.run.now c.record_first.new.run c.record_acts.new.run c.record_calls.new.run c.record_over.new.run c.in_ok-record_first.ensures
    c.in_ok-record_acts.ensures c.in_ok-record_calls.ensures
    (c.in_ok-record_over.ensures ∙ ap (λ (o : Option ProgramOver). c.record_calls.new.run ++ program_over_lines o) c.over_of.ensures)
