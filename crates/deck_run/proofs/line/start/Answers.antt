use Rattle.std.proofs.Common.{◌∙◌, ap}
use Rattle.run_report.specs.Answers.{start_answer}
use Rattle.subsystem_defs.specs.declared.event.Event.TheVariants as events
use Rattle.subsystem_defs.specs.Beside.{behind_first}
use Rattle.deck_run.proofs.Recorded.{start_recorded}
use Rattle.deck_run.proofs.line.start.Goals as goal

pub returns-clause-recorded : goal.returns-clause-recorded
returns-clause-recorded g c = record {
  stands = λ run all. (c.in_ok-passed.ensures.passed run all).stands;
  lines = λ run all.
      start_recorded c.pass.new.sub run (events.Start c.args.path c.args.d) c.args.d c.in_ok-passed.passed (c.in_ok-passed.ensures.passed run all)
      c.device.result.now c.device.ensures c.behind_first-items.result.now
      (c.behind_first-items.ensures ∙ ap (behind_first c.in_ok-passed.passed.items) c.journal.ensures) c.deref.result.now c.deref.ensures.value
      c.args.report.now c.record_passed.new.report
      c.args.path c.start_answer.result c.make_room.new.self c.in_ok-make_room.ensures
      (c.start_answer.ensures ∙ ap start_answer c.start_end.ensures) c.in_ok-record_passed.ensures;
}
