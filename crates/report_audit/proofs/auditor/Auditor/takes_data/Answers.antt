use Rattle.report_audit.proofs.AuditorDues.{data_taken}
use Rattle.report_audit.proofs.auditor.Auditor.takes_data.Goals as goal

pub returns-clause-taken : goal.returns-clause-taken
returns-clause-taken c = λ is s i.
    rw c.pass_data.ensures (data_taken c.args.self.now s i c.args.text.now (c.is_due_data.ensures c.if-not-is_due_data.false))
