-- The lines of a command's end.
use Rattle.std.specs.Prelude.{ℕ, List, [], ◌∷◌, Option, Some, None}
use Rattle.std.specs.List.{flat_map}
use Rattle.ckd_types.specs.declared.channel.CommandEnd.{CommandEnd}
use Rattle.ckd_types.specs.declared.sense.Sense.{Sense}
use Rattle.report_text.specs.declared.line.EndLine.{EndLine}
use Rattle.report_text.specs.declared.line.ReportLine.{ReportLine}
use Rattle.report_text.specs.declared.line.ReportLine.TheVariants as lines
use Rattle.report_text.specs.Lines.{line_text}

-- the text of some lines
abbrev pub lines_text : List ReportLine → List ℕ
lines_text ls = flat_map line_text ls

abbrev pub end_line : ℕ → ℕ → ℕ → CommandEnd → EndLine
end_line path device ordinal e = record {
  path = path;
  device = device;
  ordinal = ordinal;
  index = e.index;
  status = e.status;
  residual = e.residual;
  note = e.note;
}

-- where bytes were sent
abbrev pub data_lines : List ℕ → List ReportLine
data_lines [] = []
data_lines (b ∷ bytes) = lines.Data (b ∷ bytes) ∷ []

-- where the end has sense
abbrev pub sense_lines : Option Sense → List ReportLine
sense_lines (Some sense) = lines.Sense sense ∷ []
sense_lines None = []
