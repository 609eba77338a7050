use Rattle.std.proofs.Common.{ap, ◌∙◌}
use Rattle.report_audit.specs.Auditor.{is_nothing}
use Rattle.report_audit.proofs.auditor.Auditor.is_finished.Goals as goal

pub returns : goal.returns
returns c = λ s audit. c.is_nothing.ensures ∙ ap is_nothing audit.due_is
