use Rattle.std.proofs.Common.{◌≡◌, ◌+◌, Option, true, take, ap, subst, None, ◌∙◌}
use Rattle.report_audit.specs.declared.auditor.Auditor.{Auditor}
use Rattle.report_audit.specs.Progress.{JudgedIn, Progress, some_auditor}
use Rattle.report_audit.proofs.Steps.{front_goes}
use Rattle.report_audit.proofs.audit.Audit.take_data.Goals as goal

pub returns-clause-follows : goal.returns-clause-follows
returns-clause-follows c = λ rest.
    let auditor_is = ap (λ (v : Progress). v.auditor) c.self.view_is in
    front_goes c.args.self.now _ c.args.text.now rest c.in_ok-end.end c.in_ok-end.ensures.none
    (subst (λ (a : Option Auditor). some_auditor a ≡ true) auditor_is c.in_ok-end.ensures.some) c.requires.front
    (ap (λ (v : Progress). v.lines + 1) c.self.view_is) (ap (λ (v : Progress). v.status) c.self.view_is ∙ c.requires.front)
    (subst (λ (a : Option Auditor). JudgedIn a c.take_data_in.new.auditor None (take c.in_ok-end.end c.args.text.now))
    auditor_is c.in_ok-end.ensures.taken)
