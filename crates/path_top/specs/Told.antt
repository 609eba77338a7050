-- What a history tells of a device, and its lines.
use Rattle.std.specs.Prelude.{ℕ, suc, ◌-◌, ◌==◌, List, [], ◌∷◌, ◌++◌, length, map, slice_index_or, Option, Some, None, if◌then◌else◌}
use Rattle.std.specs.List.{flat_map}
use Rattle.plain_defs.specs.declared.journal.Item.{Item}
use Rattle.report_text.specs.declared.answers.DeviceTotals.TheVariants as totals
use Rattle.report_text.specs.declared.line.ReportLine.{ReportLine}
use Rattle.report_text.specs.declared.line.ReportLine.TheVariants as lines
use Rattle.path_top.specs.Journals.{journal_lines}

-- its journal, how many programs of each path weren't started, to whom its volume is lent, and else its lost tracks
pub record DeviceTold : Type 0 where
  pub device : ℕ
  pub journal : List Item
  pub left : List ℕ
  pub lent : Option ℕ
  pub lost : List ℕ

abbrev pub left_of : DeviceTold → ℕ → ℕ
left_of x path = slice_index_or x.left (path - 1) 0

abbrev pub left_line : ℕ → ℕ → ℕ → List ReportLine
left_line d path n = if n == 0 then [] else lines.Left path d n ∷ []

-- of the paths from this one on
abbrev pub left_lines : ℕ → ℕ → List ℕ → List ReportLine
left_lines d path [] = []
left_lines d path (n ∷ ns) = left_line d path n ++ left_lines d (suc path) ns

abbrev pub end_lines : ℕ → Option ℕ → List ℕ → List ReportLine
end_lines d (Some to) lost = lines.Device d (totals.Lent to) ∷ []
end_lines d None lost = lines.Device d (totals.Lost (length lost)) ∷ map (lines.Lost d) lost

abbrev pub device_lines : DeviceTold → List ReportLine
device_lines x = journal_lines x.device x.journal ++ (left_lines x.device 1 x.left ++ end_lines x.device x.lent x.lost)

-- of all devices, and how many event lines are unused
abbrev pub history_lines : List DeviceTold → ℕ → List ReportLine
history_lines xs unused = flat_map device_lines xs ++ lines.Unused unused ∷ lines.Finish ∷ []
