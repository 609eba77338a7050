-- What is written of the lines of a report, but for its last one, is its text.
use Rattle.std.proofs.Common.{◌≡◌, ◌∙◌, ◌++◌, ◌∷◌, [], ℕ, List, sym, ap}
use Rattle.std.proofs.lemmas.List.{append-nil}
use Rattle.report_text.specs.declared.line.ReportLine.{ReportLine}
use Rattle.report_text.specs.declared.line.ReportLine.TheVariants as lines
use Rattle.report_text.specs.Ends.{lines_text}
use Rattle.report_text.specs.Lines.{line_text}
use Rattle.report_text.specs.Report.{report_text}
use Rattle.report_text.proofs.Spaced.{flat_both}

pub whole_text : (told all : List ReportLine) → told ++ lines.Finish ∷ [] ≡ all → report_text told [] [] ≡ lines_text all
whole_text told all is =
    ap (λ (l : List ℕ). lines_text told ++ l) (sym (append-nil (line_text lines.Finish))) ∙ sym (flat_both line_text told (lines.Finish ∷ []))
    ∙ ap lines_text is
