use Rattle.deck_audit.specs.Verdict.{deck_part}
use Rattle.audit_laws.specs.FirstFault.{report_lines}
use Rattle.std.specs.Prelude.{Some}
use Rattle.audit_laws.proofs.Decks.{plain_at_last}
use Rattle.audit_laws.proofs.law.good_report_is_plain.Goals as goal

pub returns : goal.returns
returns c text good = plain_at_last (deck_part text (Some good.lines)) good.deck good.is.parses good.report.end
    (report_lines text good.lines) good.report.leads good.report.over
