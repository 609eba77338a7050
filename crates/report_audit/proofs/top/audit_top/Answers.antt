use Rattle.audit_laws.proofs.FirstFaults.{no_bad, yes_good}
use Rattle.audit_laws.specs.Texts.{own_text}
use Rattle.report_audit.proofs.Whole.{complete, no_told, own_told, yes_read}
use Rattle.report_audit.proofs.top.audit_top.Goals as goal

pub returns-clause-complete : goal.returns-clause-complete
returns-clause-complete g c = λ text is names calm_source calm_sink.
    complete _ _ _ _ _ _ text names is c.serve.ensures.told (λ r. calm_source (c.serve.ensures.read r)) (λ w. calm_sink (c.serve.ensures.write w))

pub returns-clause-yes : goal.returns-clause-yes
returns-clause-yes g c = λ text is yes_is. (yes_good text).0 (yes_read _ _ _ _ _ text _ c.serve.ensures.told is yes_is)

pub returns-clause-no : goal.returns-clause-no
returns-clause-no g c = λ text line why is no_is. no_told _ _ _ _ _ text line why _ c.serve.ensures.told is no_is

pub returns-clause-yes_is_plain : goal.returns-clause-yes_is_plain
returns-clause-yes_is_plain g c = λ text is yes_is. c.yes_is_plain.ensures text (yes_read _ _ _ _ _ text _ c.serve.ensures.told is yes_is)

pub returns-clause-no_is_not : goal.returns-clause-no_is_not
returns-clause-no_is_not g c = λ text line why is no_is.
    c.no_is_not.ensures text line why ((no_bad text line why).1 (no_told _ _ _ _ _ text line why _ c.serve.ensures.told is no_is))

pub returns-clause-own_report : goal.returns-clause-own_report
returns-clause-own_report g c = λ text deck parses ended is size names.
    own_told _ _ _ _ _ _ (own_text text deck) names is c.serve.ensures.told (c.own_text_is_yes.ensures text deck parses ended size)

pub returns-clause-own_lines : goal.returns-clause-own_lines
returns-clause-own_lines g c = λ text deck own is names.
    own_told _ _ _ _ _ _ text names is c.serve.ensures.told (c.own_report_is_yes.ensures text deck own)
