use Rattle.std.specs.Prelude.{Some}
use Rattle.deck_audit.specs.Verdict.{deck_part}
use Rattle.audit_laws.specs.FirstFault.{report_lines}
use Rattle.audit_laws.proofs.FirstFaults.{yes_good}
use Rattle.audit_laws.proofs.Decks.{plain_at_last}
use Rattle.audit_laws.proofs.law.yes_is_plain.Goals as goal

pub returns : goal.returns
returns c text told =
    let good = (yes_good text).0 told in record {
      deck = good.deck;
      lines = good.lines;
      is = good.is;
      end = good.report.end;
      leads = good.report.leads;
      over = good.report.over;
      plain = plain_at_last (deck_part text (Some good.lines)) good.deck good.is.parses good.report.end
          (report_lines text good.lines) good.report.leads good.report.over;
    }
