use Rattle.report_audit.proofs.AuditorTasks.{placed_is}
use Rattle.report_audit.proofs.auditor.Auditor.is_placed.Goals as goal

pub returns : goal.returns
returns c = λ s f due_is. placed_is c.args.self.now s f c.args.line.now c.args.due.now due_is c.deref.result.now c.deref.ensures.value
    c.left_of-events.result.now c.left_of-events.ensures c.may_stand.result c.may_stand.ensures
