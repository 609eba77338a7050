-- The text of a summary.
use Rattle.std.specs.Prelude.{ℕ, List, [], ◌∷◌}
use Rattle.report_text.specs.declared.answers.SumOf.TheVariants as sums
use Rattle.report_text.specs.declared.line.ReportLine.TheVariants.{Sum}
use Rattle.report_text.specs.declared.summary.Summary.{Summary}
use Rattle.report_text.specs.Ends.{lines_text}

abbrev pub summary_text : Summary → List ℕ
summary_text s =
    lines_text (
    Sum sums.Programs s.programs ∷ Sum sums.Commands s.commands ∷ Sum sums.Checks s.checks ∷ Sum sums.Reads s.reads
    ∷ Sum sums.Writes s.writes ∷ Sum sums.Lost s.lost ∷ [])
