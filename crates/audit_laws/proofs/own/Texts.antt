-- An audit says yes to a text of which the lines lead it to FINISH.
use Rattle.std.proofs.Common.{arith, ◌≡◌, ◌+◌, ℕ, true, List, [], ◌∷◌, map, Some, sym, ap, ◌∙◌, if◌then◌else◌}
use Rattle.std.specs.Prelude.{All, Ok, Err}
use Rattle.std.proofs.lemmas.List.Elements.{All-head, All-tail}
use Rattle.std.proofs.lemmas.Bool.{le-ltb}
use Rattle.deck_text.specs.DeckLines.{DeckLines}
use Rattle.report_reading.specs.Ranges.{IsLine, form_fault, has_form}
use Rattle.report_reading.specs.Reading.{line_of}
use Rattle.report_text.specs.declared.line.ReportLine.{ReportLine}
use Rattle.report_text.specs.Lines.{text_of}
use Rattle.deck_audit.specs.declared.state.Due.TheVariants.{Nothing}
use Rattle.deck_audit.specs.State.{AuditState, first_state}
use Rattle.deck_audit.specs.declared.status.AuditStatus.TheVariants.{Yes}
use Rattle.deck_audit.specs.Verdict as V
use Rattle.deck_audit.specs.Verdict.{at_end, cut_lines, deck_judged, deck_part, judged_by, judged_lines, or_no, read_back, read_back_at, report_from}
use Rattle.run_report.specs.Report.{report_lines}
use Rattle.subsystem_defs.specs.Decks.{run_of}
use Rattle.audit_laws.specs.Runs.{WholeLeads}
use Rattle.audit_laws.specs.Standing.{LeadsBy}
use Rattle.audit_laws.specs.Texts.{IsOwnReport}
use Rattle.audit_laws.proofs.own.Forms.{Formed, report_has_form}
use Rattle.audit_laws.proofs.own.RangedRuns.{report_is_in_range}
use Rattle.audit_laws.proofs.own.Runs.{report_leads}

-- where what is written is read back
module _ (again : (line : ReportLine) → IsLine line → line_of (text_of line) ≡ (if has_form line then Ok line else Err (form_fault line))) where
  read_again : (line : ReportLine) → IsLine line → has_form line ≡ true → line_of (text_of line) ≡ Ok line
  read_again line ranges form = grind arith

  all_texts : (lines : List ReportLine) (n : ℕ) (s t : AuditState) → All IsLine lines → All Formed lines → LeadsBy s lines t → t.due ≡ Nothing →
      judged_lines n s (map text_of lines) ≡ Yes
  all_texts [] n s t written formed leads done = ap (at_end n) (ap (λ (z : AuditState). z.due) (sym leads) ∙ done)
  all_texts (line ∷ lines) n s t written formed leads done =
      grind (arith, read_again line (All-head IsLine line lines written) (All-head Formed line lines formed), all_texts lines (n + 1) leads.0 t (All-tail IsLine line lines written) (All-tail Formed line lines formed) leads.2 done)

  -- a whole text
  yes_by : (text : List ℕ) (deck : DeckLines) → (o : IsOwnReport text deck) → WholeLeads (first_state deck) (report_lines (run_of deck)) → read_back text ≡ Yes
  unfolding V.read_back
  yes_by text deck o leads = grind (arith, le-ltb, all_texts, report_is_in_range, report_has_form)

  pub own_report_is_yes : (text : List ℕ) (deck : DeckLines) → IsOwnReport text deck → read_back text ≡ Yes
  own_report_is_yes text deck o = yes_by text deck o (report_leads (deck_part text (Some o.lines)) deck o.parses)
