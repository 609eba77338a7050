-- How the lines of a run are kept: the bytes of DATA and SENSE lines stand one behind another, and so do all lines without a short form.
use Rattle.std.specs.Prelude.{◌≡◌, ℕ, ◌+◌, List, [], ◌∷◌, length, take, drop}
use Rattle.report_text.specs.declared.line.ReportLine.{ReportLine}
use Rattle.report_text.specs.declared.line.ReportLine.TheVariants as lines
use Rattle.report_text.specs.declared.record.Kept.{Kept}
use Rattle.report_text.specs.declared.record.Kept.TheVariants as kept

-- how many bytes, and how many other lines, stand for one that is kept
abbrev pub byte_count : Kept → ℕ
byte_count (kept.End end) = 0
byte_count (kept.Io reads writes) = 0
byte_count (kept.Over path device ordinal how) = 0
byte_count (kept.Data n) = n
byte_count kept.Sense = 32
byte_count kept.Other = 0

abbrev pub other_count : Kept → ℕ
other_count (kept.End end) = 0
other_count (kept.Io reads writes) = 0
other_count (kept.Over path device ordinal how) = 0
other_count (kept.Data n) = 0
other_count kept.Sense = 0
other_count kept.Other = 1

abbrev pub all_bytes : List Kept → ℕ
all_bytes [] = 0
all_bytes (k ∷ ks) = byte_count k + all_bytes ks

abbrev pub all_others : List Kept → ℕ
all_others [] = 0
all_others (k ∷ ks) = other_count k + all_others ks

-- none is missing: it stands for no line
abbrev pub first_of : List ReportLine → ReportLine
first_of [] = lines.Finish
first_of (line ∷ others) = line

abbrev pub kept_line : Kept → List ℕ → List ReportLine → ReportLine
kept_line (kept.End end) bytes others = lines.End end
kept_line (kept.Io reads writes) bytes others = lines.Io reads writes
kept_line (kept.Over path device ordinal how) bytes others = lines.Over path device ordinal how
kept_line (kept.Data n) bytes others = lines.Data (take n bytes)
kept_line kept.Sense bytes others = lines.Sense (record { bytes = take 32 bytes })
kept_line kept.Other bytes others = first_of others

-- the same with all of the bytes
abbrev pub whole_line : Kept → List ℕ → ReportLine
whole_line (kept.Data n) bytes = lines.Data bytes
whole_line kept.Sense bytes = lines.Sense (record { bytes = bytes })
whole_line k bytes = kept_line k bytes []

abbrev pub kept_lines : List Kept → List ℕ → List ReportLine → List ReportLine
kept_lines [] bytes others = []
kept_lines (k ∷ ks) bytes others = kept_line k bytes others ∷ kept_lines ks (drop (byte_count k) bytes) (drop (other_count k) others)

-- exactly what the lines take is kept
pub record IsSpent (ks : List Kept) (bytes : List ℕ) (others : List ReportLine) : Type 0 where
  pub bytes_are : all_bytes ks ≡ length bytes
  pub others_are : all_others ks ≡ length others
