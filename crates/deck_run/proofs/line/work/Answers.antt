use Rattle.std.proofs.Common.{◌∙◌}
use Rattle.subsystem_defs.specs.declared.event.Event.TheVariants as events
use Rattle.subsystem_defs.specs.Happening.{happens}
use Rattle.deck_run.specs.declared.work.Asker.TheVariants as askers
use Rattle.deck_run.specs.Seen.{idle_told}
use Rattle.deck_run.proofs.Recorded.{work_recorded}
use Rattle.deck_run.proofs.Seen.{settled_at, shows_at}
use Rattle.deck_run.proofs.line.work.Goals as goal

pub record_work-requires : goal.record_work-requires
record_work-requires g c =
    shows_at c.pass.new.sub c.args.d c.in_ok-passed.passed.end c.device.result.now c.device.ensures c.in_ok-passed.ensures.shows

pub returns-clause-recorded : goal.returns-clause-recorded
returns-clause-recorded g c = record {
  stands = λ run all. (c.in_ok-passed.ensures.passed run all).stands;
  lines = λ run all.
      work_recorded c.pass.new.sub run (events.Back c.args.d) c.args.d c.in_ok-passed.passed (c.in_ok-passed.ensures.passed run all)
      c.device.result.now c.device.ensures c.args.report.now c.record_work.new.report c.make_room.new.self c.in_ok-make_room.ensures
      (idle_told c.args.d askers.Back) c.in_ok-record_work.ensures;
}

pub returns-clause-settled : goal.returns-clause-settled
returns-clause-settled g c = λ run all.
    c.settles-settled.ensures
    ∙ settled_at c.pass.new.sub c.args.d c.in_ok-passed.passed.end (happens run (events.Back c.args.d)).end c.device.result.now c.device.ensures
    (c.in_ok-passed.ensures.passed run all).ended
