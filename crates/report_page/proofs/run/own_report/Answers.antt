use Rattle.std.proofs.Common.{◌≡◌, ◌∙◌, ◌++◌, ◌∷◌, [], ℕ, List, sym, ap}
use Rattle.std.proofs.lemmas.List.{append-nil}
use Rattle.report_text.specs.declared.line.ReportLine.{ReportLine}
use Rattle.report_text.specs.declared.line.ReportLine.TheVariants as lines
use Rattle.report_text.specs.Ends.{lines_text}
use Rattle.report_text.specs.Lines.{line_text}
use Rattle.report_text.specs.Report.{report_text}
use Rattle.report_text.proofs.Spaced.{flat_both}
use Rattle.run_report.specs.Report.{report_lines}
use Rattle.subsystem_defs.specs.Decks.{run_of}
use Rattle.report_page.proofs.run.own_report.Goals as goal

-- the report of lines that end with FINISH
with_finish : (told all : List ReportLine) → told ++ lines.Finish ∷ [] ≡ all → report_text told [] [] ≡ lines_text all
with_finish told all is =
    ap (λ (l : List ℕ). lines_text told ++ l) (sym (append-nil (line_text lines.Finish))) ∙ sym (flat_both line_text told (lines.Finish ∷ []))
    ∙ ap lines_text is

pub returns-in-Ok : goal.returns-in-Ok
returns-in-Ok c =
    c.in-Ok.ensures.text
    ∙ ap (λ (l : List ℕ). l ++ report_text c.in_ok-lines.lines [] []) c.new-bytes.ensures.items
    ∙ with_finish c.in_ok-lines.lines (report_lines (run_of c.args.deck.now)) c.in_ok-lines.ensures
