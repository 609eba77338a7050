use Rattle.std.proofs.Common.{ap}
use Rattle.std.specs.Prelude.{Some}
use Rattle.deck_audit.specs.Verdict.{deck_part}
use Rattle.audit_laws.specs.FirstFault.{report_lines}
use Rattle.audit_laws.proofs.GoodLines.{awaits_sense}
use Rattle.audit_laws.proofs.ToldTexts.{told_of}
use Rattle.audit_laws.proofs.law.good_lines_tell_of_plain.Goals as goal

pub returns-clause-front : goal.returns-clause-front
returns-clause-front c = λ text deck lines s t parses leads next. told_of text deck parses lines s leads (ap awaits_sense next) t

pub returns-clause-whole : goal.returns-clause-whole
returns-clause-whole c = λ text good t. told_of (deck_part text (Some good.lines)) good.deck good.is.parses (report_lines text good.lines)
    good.report.end good.report.leads (ap awaits_sense good.report.over) t
