use Rattle.std.proofs.Common.{◌+◌, Option, ap, subst}
use Rattle.report_audit.specs.declared.auditor.Auditor.{Auditor}
use Rattle.report_audit.specs.Progress.{JudgedIn, Progress}
use Rattle.report_audit.proofs.Steps.{report_goes, report_ends}
use Rattle.report_audit.proofs.audit.Audit.take_report_line.Goals as goal

pub returns-clause-follows : goal.returns-clause-follows
returns-clause-follows c = λ rest.
    report_goes c.args.self.now _ c.in_ok-found.found c.args.line.now rest c.requires.report c.requires.front
    (ap (λ (v : Progress). v.lines + 1) c.self.view_is) c.status_of-self-inside.ensures.value c.requires.one
    (subst (λ (a : Option Auditor). JudgedIn a c.judge_in.new.auditor c.in_ok-found.found c.args.line.now)
    (ap (λ (v : Progress). v.auditor) c.self.view_is) c.in_ok-found.ensures)

pub returns-clause-last : goal.returns-clause-last
returns-clause-last c = λ some.
    report_ends c.args.self.now _ c.in_ok-found.found c.args.line.now c.requires.report c.requires.front
    (ap (λ (v : Progress). v.lines + 1) c.self.view_is) c.status_of-self-inside.ensures.value c.requires.one some
    (subst (λ (a : Option Auditor). JudgedIn a c.judge_in.new.auditor c.in_ok-found.found c.args.line.now)
    (ap (λ (v : Progress). v.auditor) c.self.view_is) c.in_ok-found.ensures)
