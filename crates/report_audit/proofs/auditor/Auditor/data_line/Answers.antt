use Rattle.report_audit.proofs.AuditorDues.{data_makes, data_none}
use Rattle.report_audit.proofs.auditor.Auditor.data_line.Goals as goal

pub returns-in-Some : goal.returns-in-Some
returns-in-Some c = λ s f due_is. data_makes c.args.self.now s c.args.e f due_is c.args.line.now c.in-Some.due c.in-Some.ensures

pub returns-in-None : goal.returns-in-None
returns-in-None c = λ s f due_is. data_none c.args.self.now s c.args.e f due_is c.args.line.now c.in-None.ensures
