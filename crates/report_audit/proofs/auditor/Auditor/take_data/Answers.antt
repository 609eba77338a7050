use Rattle.std.proofs.Common.{take}
use Rattle.report_audit.proofs.AuditorDues.{data_taken}
use Rattle.report_audit.proofs.auditor.Auditor.take_data.Goals as goal

pub returns-clause-taken : goal.returns-clause-taken
returns-clause-taken c = λ s i.
    rw c.pass_data.ensures (data_taken c.args.self.now s i (take c.in_ok-end.end c.args.text.now) c.in_ok-end.ensures.due)
