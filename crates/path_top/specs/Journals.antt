-- The lines of a device's journal in a history: of each program the ends of its commands, with the acts of cache fast write where they came.
use Rattle.std.specs.Prelude.{ℕ, suc, ◌+◌, ◌-◌, ◌==◌, ◌^◌, nat_le, min, List, [], ◌∷◌, ◌++◌, take, drop, fold, Some, if◌then◌else◌}
use Rattle.ckd_types.specs.declared.channel.CommandEnd.{CommandEnd}
use Rattle.plain_defs.specs.declared.journal.Act.{Act}
use Rattle.plain_defs.specs.declared.journal.Act.TheVariants.{Loosen, Harden, CfwLost}
use Rattle.plain_defs.specs.declared.journal.Acted.{Acted}
use Rattle.plain_defs.specs.declared.journal.Item.{Item}
use Rattle.plain_defs.specs.declared.journal.Item.TheVariants.{Program, Reset, Fresh, Power}
use Rattle.plain_defs.specs.declared.journal.Item.TheVariants as items
use Rattle.plain_defs.specs.Entry.{ProgramEntry}
use Rattle.plain_defs.specs.Loose.{next_number}
use Rattle.report_text.specs.declared.line.ReportLine.{ReportLine}
use Rattle.report_text.specs.declared.line.ReportLine.TheVariants as lines
use Rattle.report_text.specs.Events.{ended_lines, loosed_line, program_over_lines}
use Rattle.run_report.specs.Beside.{program_over_line}
use Rattle.deck_run.specs.Loosening.{loosed_by}
use Rattle.path_top.specs.declared.journal.LooseCount.{LooseCount}

-- Acts, one after another, with how many tracks are loose before the first of them

-- how many tracks are loose behind an act, a number of 16 bits, and the number of the data
abbrev pub loose_behind : LooseCount → Act → LooseCount
loose_behind s (Loosen t) = record s { tracks = min (s.tracks + 1) (2 ^ 16 - 1) }
loose_behind s (Harden t) = record s { tracks = s.tracks - 1 }
loose_behind s CfwLost = record { tracks = 0; number = next_number s.number }

abbrev pub loose_behind_all : LooseCount → List Acted → LooseCount
loose_behind_all s acts = fold (λ x a. loose_behind x a.act) s acts

abbrev pub act_line : ℕ → LooseCount → Act → ReportLine
act_line d s a = loosed_line (loosed_by d s.tracks (loose_behind s a).number a)

abbrev pub act_lines : ℕ → LooseCount → List Acted → List ReportLine
act_lines d s [] = []
act_lines d s (a ∷ acts) = act_line d s a.act ∷ act_lines d (loose_behind s a.act) acts

-- Programs

-- how many of these acts came before there were more than k ends
abbrev pub count_before : ℕ → List Acted → ℕ
count_before k [] = 0
count_before k (a ∷ acts) = if nat_le a.after k then suc (count_before k acts) else 0

-- the ends of a program behind the first k, each behind the acts that came before it, and the acts that came last
abbrev pub end_lines : ℕ → ProgramEntry → ℕ → LooseCount → List Acted → List CommandEnd → List ReportLine
end_lines d p k s acts [] = act_lines d s acts
end_lines d p k s acts (e ∷ ends) =
    let here = take (count_before k acts) acts in
    let later = drop (count_before k acts) acts in
    act_lines d s here ++ (ended_lines p.path d p.ordinal e ++ end_lines d p (suc k) (loose_behind_all s here) later ends)

abbrev pub program_lines : ℕ → LooseCount → ProgramEntry → List ReportLine
program_lines d s p = end_lines d p 0 s p.acts p.ends ++ program_over_lines (Some (program_over_line d p))

-- Items: an empty volume has no loose track, and a loss of power takes the data of cache fast write, where there are some

abbrev pub item_lines : ℕ → LooseCount → Item → List ReportLine
item_lines d s (Program p) = program_lines d s p
item_lines d s (Reset path) = lines.Reset path d ∷ []
item_lines d s Fresh = lines.Fresh d ∷ []
item_lines d s (items.Act a) = act_line d s a ∷ []
item_lines d s Power = if s.tracks == 0 then [] else act_line d s CfwLost ∷ []

abbrev pub loose_behind_item : LooseCount → Item → LooseCount
loose_behind_item s (Program p) = loose_behind_all s p.acts
loose_behind_item s (Reset path) = s
loose_behind_item s Fresh = record s { tracks = 0 }
loose_behind_item s (items.Act a) = loose_behind s a
loose_behind_item s Power = if s.tracks == 0 then s else loose_behind s CfwLost

-- some items, one after another
abbrev pub lines_of_items : ℕ → LooseCount → List Item → List ReportLine
lines_of_items d s [] = []
lines_of_items d s (x ∷ xs) = item_lines d s x ++ lines_of_items d (loose_behind_item s x) xs

-- at first no track is loose
abbrev pub journal_lines : ℕ → List Item → List ReportLine
journal_lines d xs = lines_of_items d (record { tracks = 0; number = 0 }) xs
