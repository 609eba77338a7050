use Rattle.std.proofs.Common.{◌∙◌, ap, sym}
use Rattle.device_core.specs.State.{last_end}
use Rattle.subsystem_defs.specs.Beside.{behind_first}
use Rattle.deck_run.specs.Seen.{idle_told}
use Rattle.deck_run.proofs.Events.{ok_so}
use Rattle.deck_run.proofs.Seen.{command_tells, last_stands, work_tells}
use Rattle.deck_run.proofs.work.record_work.Goals as goal

pub last_end-end-requires : goal.last_end-end-requires
last_end-end-requires g c =
    last_stands (last_end c.args.device.now) c.args.passed.now.end (sym c.is_ended.ensures ∙ c.if-is_ended.true) c.requires

pub returns-then-is_ended : goal.returns-then-is_ended
returns-then-is_ended g c = λ told seen.
    ok_so c.record_command.result _ _
    (command_tells c.args.device.now c.args.d c.args.passed.now (idle_told c.args.d c.args.asker) told c.behind_first-items.result.now
    (c.behind_first-items.ensures ∙ ap (behind_first c.args.passed.now.items) c.journal.ensures) c.as_slice-acts.result.now c.as_slice-acts.ensures.value
    c.args.report.now c.record_command.new.report seen c.last_end-end.result.now (sym c.is_ended.ensures ∙ c.if-is_ended.true) c.last_end-end.ensures)
    c.record_command.ensures

pub returns : goal.returns
returns g c = λ told seen.
    ok_so c.record_passed.result _ _
    (work_tells c.args.device.now c.args.d c.args.passed.now (idle_told c.args.d c.args.asker) told c.behind_first-items.result.now
    (c.behind_first-items.ensures ∙ ap (behind_first c.args.passed.now.items) c.journal.ensures) c.as_slice-acts.result.now c.as_slice-acts.ensures.value
    c.args.report.now c.record_passed.new.report seen c.idle_told-idle.result c.work_seen-happened.result c.idle_told-idle.ensures
    c.work_seen-happened.ensures (sym c.is_ended.ensures ∙ c.if-is_ended.false))
    c.record_passed.ensures
